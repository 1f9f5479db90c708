-- Where the code's moves lead.
use Rattle.std.specs.Prelude.{◌≡◌, ℕ, ◌+◌, List, [], ◌∷◌, Option, Ok, Err, map, true}
use Rattle.tt_code.specs.Cut.{Instruction}
use Rattle.tt_code.specs.Refusals.{Tested}
use Rattle.tt_code.specs.Runs.{outcome}
use Rattle.tt_code.specs.Settings.{body_offset, starts_in_body}
use Rattle.tt_code.specs.declared.machine.Frame.{Frame}
use Rattle.tt_abs.specs.declared.moves.Move.{Move}
use Rattle.tt_abs.specs.declared.moves.Move.TheVariants.{To, Enter, NextTurn, Return}
use Rattle.tt_abs.specs.declared.moves.Moves.{Moves}
use Rattle.tt_abs.specs.declared.moves.Moves.TheVariants as moves
use Rattle.tt_code.specs.declared.kinds.Control.{Control}
use Rattle.tt_code.specs.declared.reason.Reason.{Reason}
use Rattle.tt_setting.specs.declared.failed.Failed.{Failed}
use Rattle.tt_setting.specs.declared.step_fault.StepFault.{StepFault}
use Rattle.tt_setting.specs.declared.step_fault.StepFault.TheVariants.{Refused, OutOfMemory}
use Rattle.tt_setting.specs.declared.setting.Setting.{Setting}
use Rattle.tt_setting.specs.declared.setting.Point.{Point}
use Rattle.tt_abs.specs.declared.state.State.{State}
use Rattle.tt_abs.specs.Cells.{Abstract}
use Rattle.tt_abs.specs.Covers.{Gives, IsRefused}
use Rattle.tt_abs.specs.Failures.{IsRoleAt, Roles, TellsWith}
use Rattle.tt_setting.specs.Refusals.{reason_of}
use Rattle.tt_setting.specs.Settings.{setting_of, frames_of}
use Rattle.tt_abs.specs.States.{abstract_of}
use Rattle.tt_abs.specs.Transfers.{Next, controlled_cells, outcome_on_cells}
use Rattle.tt_setting.specs.Settings.{instruction_of}
use Rattle.tt_setting.specs.Refusals.{ForFailed, ForReason}

-- the calls after a move, the innermost first
abbrev pub frames_after : List Frame → Move → List Frame
frames_after fs (To offset) = fs
frames_after fs (Enter f) = f ∷ fs
frames_after [] NextTurn = []
frames_after (f ∷ fs) NextTurn = record f { turn = f.turn + 1 } ∷ fs
frames_after [] Return = []
frames_after (f ∷ fs) Return = fs

-- the offset after a move
abbrev pub offset_after : List Frame → Move → ℕ
offset_after fs (To offset) = offset
offset_after fs (Enter f) = body_offset f.body
offset_after [] NextTurn = 0
offset_after (f ∷ fs) NextTurn = body_offset f.body
offset_after [] Return = 0
offset_after (f ∷ fs) Return = f.call + 1

-- the ways, one after the other
abbrev pub ways_of : Moves → List Move
ways_of (moves.One way) = way ∷ []
ways_of (moves.Two m n) = To m ∷ To n ∷ []

-- the place to which a way leads, with the state
abbrev pub next_by : List Frame → Abstract → Move → Next
next_by fs a way =
    record { frames = frames_after fs way; offset = offset_after fs way; state = a }

-- the places to which the ways lead, with the state
abbrev pub nexts_of : List Frame → Moves → Abstract → List Next
nexts_of fs moves a = map (next_by fs a) (ways_of moves)

-- What the code's settings, points and states say of an instruction at its place.

-- what the instruction there makes of the state
abbrev pub outcome_at : Setting → Point → State → Tested (List Next)
outcome_at setting point state =
    outcome_on_cells (setting_of setting) (frames_of point) point.offset (abstract_of state)

-- what a control instruction does there
abbrev pub control_at : Setting → Point → State → Control → Tested (List Next)
control_at setting point state op =
    controlled_cells (setting_of setting) (frames_of point) point.offset (abstract_of state) op

-- the outcome leads by these moves, with this state left
abbrev pub LeadsBy : Point → Tested (List Next) → Moves → State → Type 0
LeadsBy point outcome moves new = outcome ≡ Ok (nexts_of (frames_of point) moves (abstract_of new))

-- the outcome is refused for this reason
abbrev pub IsRefusedFor : {A : Type 0} → Tested A → StepFault → Type 0
IsRefusedFor outcome e = ForReason e (λ r. outcome ≡ Err r)

-- the instruction at the point turns the old state into the new one and leads by these moves
abbrev pub StepsTo : Setting → Point → State → State → Moves → Type 0
StepsTo setting point old new moves = LeadsBy point (outcome_at setting point old) moves new

-- the instruction at the point is refused for this reason
abbrev pub IsStepRefusedFor : Setting → Point → State → StepFault → Type 0
IsStepRefusedFor setting point old e = IsRefusedFor (outcome_at setting point old) e

-- what is told of the test that fails there is so, where the instruction takes its elements as is
-- said and leaves a stack of this depth
abbrev pub TellsOf : Roles → Setting → Point → State → ℕ → StepFault → Type 0
TellsOf takes setting point old left e = ForFailed e
    (TellsWith takes (setting_of setting) (frames_of point) point.offset (abstract_of old) left)

-- the same, by what the instruction at the point takes its elements as
abbrev pub TellsWhatFails : Setting → Point → State → ℕ → StepFault → Type 0
TellsWhatFails setting point old =
    TellsOf (IsRoleAt (setting_of setting) (frames_of point) point.offset (abstract_of old))
    setting point old

-- a control instruction at the point turns the old state into the new one and leads by these moves
abbrev pub ControlsTo : Setting → Point → Control → State → State → Moves → Type 0
ControlsTo setting point op old new moves =
    LeadsBy point (control_at setting point old op) moves new

-- a control instruction at the point is refused for this reason
abbrev pub IsControlRefusedFor : Setting → Point → Control → State → StepFault → Type 0
IsControlRefusedFor setting point op old e = IsRefusedFor (control_at setting point old op) e

-- of the machines that the old state covers, none faults at the point or comes to run a body twice;
-- the moves are at most two, and lead exactly to the places to which those machines come: at each,
-- the new state is the smallest that covers the machines there
abbrev pub GivesByMachines : Setting → Point → State → State → Moves → Type 0
GivesByMachines setting point old new moves =
    Gives (abstract_of old) (frames_of point) point.offset (outcome (setting_of setting))
    (nexts_of (frames_of point) moves (abstract_of new))

-- some machine that the state covers faults at the point, or comes to run a body twice, or they
-- come to too many lists of calls
abbrev pub IsRefusedByMachines : Setting → Point → State → StepFault → Type 0
IsRefusedByMachines setting point old e = ForReason e
    (λ r. IsRefused (abstract_of old) (frames_of point) point.offset (outcome (setting_of setting)))
