-- What `transfer` gives and refuses: pairs of a way and a state, and refusals with their place.
use Rattle.std.specs.Prelude.{◌≡◌, List, [], ◌∷◌, Err, Ok}
use Rattle.tt_code.specs.Runs.{outcome}
use Rattle.tt_code.specs.declared.machine.Frame.{Frame}
use Rattle.tt_code.specs.declared.reason.Reason.{Reason}
use Rattle.tt_setting.specs.declared.refusal.Refusal.{Refusal}
use Rattle.tt_setting.specs.declared.refusal.Refusal.TheVariants.{Refused, Exhausted}
use Rattle.tt_setting.specs.declared.setting.Setting.{Setting}
use Rattle.tt_setting.specs.declared.setting.Point.{Point}
use Rattle.tt_abs.specs.declared.state.State.{State}
use Rattle.tt_abs.specs.declared.successors.Successor.{Successor}
use Rattle.tt_abs.specs.declared.successors.Successors.{Successors}
use Rattle.tt_abs.specs.declared.successors.Successors.TheVariants.{One, Two}
use Rattle.tt_abs.specs.Covers.{Gives, IsRefused}
use Rattle.tt_abs.specs.Failures.{IsTold}
use Rattle.tt_setting.specs.Refusals.{reason_of}
use Rattle.tt_abs.specs.Moves.{next_by, outcome_at}
use Rattle.tt_setting.specs.Settings.{setting_of, frames_of}
use Rattle.tt_setting.specs.Spots.{spot_of}
use Rattle.tt_abs.specs.States.{abstract_of, state_order}
use Rattle.tt_abs.specs.Transfers.{Next}

-- the place to which a pair leads, with its state
abbrev pub next_of : List Frame → Successor → Next
next_of fs s = next_by fs (abstract_of s.state) s.way

-- the places to which the pairs lead, each with its state
abbrev pub nexts_to : List Frame → Successors → List Next
nexts_to fs (One s) = next_of fs s ∷ []
nexts_to fs (Two s t) = next_of fs s ∷ next_of fs t ∷ []

-- the pairs are those that the instruction at the point makes of the state
abbrev pub LeadTo : Setting → Point → State → Successors → Type 0
LeadTo setting point old s = outcome_at setting point old ≡ Ok (nexts_to (frames_of point) s)

-- of the machines that the state covers, none faults at the point or comes to run a body twice;
-- there is one pair for each place to which they come, and its state is the smallest that covers
-- the machines there
abbrev pub PassMachinesTo : Setting → Point → State → Successors → Type 0
PassMachinesTo setting point old s =
    Gives (abstract_of old) (frames_of point) point.offset (outcome (setting_of setting))
    (nexts_to (frames_of point) s)

-- the numbers and lists of each pair's state are in their ranges
abbrev pub AreInRange : Successors → Type 0
AreInRange (One s) = state_order.InRange s.state
AreInRange (Two s t) = state_order.InRange s.state × state_order.InRange t.state

-- the refusal names the point's place, and this holds of its reason; where memory ran out, nothing
-- has to hold
abbrev pub IsRefusalAt : Point → (Reason → Type 0) → Refusal → Type 0
IsRefusalAt point P (Refused spot offset f) =
    (spot ≡ spot_of (frames_of point)) × (offset ≡ point.offset) × P (reason_of f)
IsRefusalAt point P (Exhausted by) = Unit {0}

-- what the refusal tells of the test that fails is so
abbrev pub TellsRefusal : Setting → Point → State → Refusal → Type 0
TellsRefusal setting point old (Refused spot offset f) =
    IsTold (setting_of setting) (frames_of point) point.offset (abstract_of old) f
TellsRefusal setting point old (Exhausted by) = Unit {0}

-- the refusal names the point's place, and the first test of the instruction there that fails
abbrev pub IsRefusalBy : Setting → Point → State → Refusal → Type 0
IsRefusalBy setting point old = IsRefusalAt point (λ r. outcome_at setting point old ≡ Err r)

-- the refusal names the point's place: some machine that the state covers faults there, or comes to
-- run a body twice, or they come to too many lists of calls
abbrev pub RefuseMachines : Setting → Point → State → Refusal → Type 0
RefuseMachines setting point old = IsRefusalAt point
    (λ r. IsRefused (abstract_of old) (frames_of point) point.offset (outcome (setting_of setting)))
