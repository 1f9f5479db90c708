-- What the code does in place, read as the outcome on cells. (Representation: no public clause
-- cites it.)
use Rattle.std.specs.Prelude.{◌≡◌, ℕ, ℤ, ◌+◌, List, ◌∷◌, Ok, Err, Some, Bool, true, false, not, drop, length, pos, suc, take}
use Rattle.tt_code.specs.Changes.{all_updated, natural, updated}
use Rattle.tt_code.specs.Control.{body_named}
use Rattle.tt_code.specs.declared.machine.Frame.{Frame}
use Rattle.tt_code.specs.Refusals.{Tested}
use Rattle.tt_code.specs.States.{is_true}
use Rattle.tt_code.specs.Table.{Lists, effect_of}
use Rattle.tt_code.specs.declared.kinds.Arithmetic.{Arithmetic}
use Rattle.tt_code.specs.declared.kinds.Arithmetic.TheVariants.{Abs, Neg, Not}
use Rattle.tt_code.specs.declared.kinds.Pushed.{Pushed}
use Rattle.tt_code.specs.declared.kinds.Row.{Row}
use Rattle.tt_code.specs.declared.kinds.StackOp.TheVariants.{CopyIndexed, MoveIndexed}
use Rattle.tt_code.specs.declared.kinds.Update.{Update}
use Rattle.tt_code.specs.declared.reason.Reason.{Reason}
use Rattle.tt_abs.specs.declared.cells.Cell.{Cell}
use Rattle.tt_abs.specs.declared.moves.Moves.{Moves}
use Rattle.tt_setting.specs.declared.step_fault.StepFault.{StepFault}
use Rattle.tt_setting.specs.declared.setting.Setting.{Setting}
use Rattle.tt_setting.specs.declared.setting.Point.{Point}
use Rattle.tt_abs.specs.declared.state.State.{State}
use Rattle.tt_setting.specs.declared.failed.Failed.{Failed}
use Rattle.tt_setting.specs.declared.failed.Role.TheVariants as role
use Rattle.tt_abs.specs.Cells.{Abstract}
use Rattle.tt_abs.specs.declared.control.Callee.{Callee}
use Rattle.tt_abs.specs.declared.control.Distance.{Distance}
use Rattle.tt_abs.specs.Failures.{IsOnTop, IsRoleIn, IsRoleInLine, Roles, TellsWith}
use Rattle.tt_setting.specs.Refusals.{reason_of}
use Rattle.tt_abs.specs.StorageCells.{storage_of}
use Rattle.tt_setting.specs.Refusals.{ForReason}
use Rattle.tt_abs.specs.Moves.{LeadsBy, TellsOf, nexts_of}
use Rattle.tt_setting.specs.Settings.{frames_of, setting_of}
use Rattle.tt_abs.specs.States.{abstract_of}
use Rattle.tt_abs.specs.Representation.Taken.{IsNoRole, IsRole}
use Rattle.tt_abs.specs.Transfers.{Next, called_cell, cell_pushed, cells, cells_pushed, does_cells, enters_cells, if_ways, jump_target, jumps_by, jumps_if_cells, known, loops_cells, plain_cells, shuffled_cells}

-- The stack alone.

-- one stack becomes another, whatever else is known
abbrev pub Restacks : (Abstract → Tested Abstract) → List Cell → List Cell → Type 0
Restacks does old new =
    (a : Abstract) → does (record a { stack = old }) ≡ Ok (record a { stack = new })

-- with this stack it is refused, whatever else is known
abbrev pub RefusesStack : (Abstract → Tested Abstract) → List Cell → Reason → Type 0
RefusesStack does old r = (a : Abstract) → does (record a { stack = old }) ≡ Err r

-- the same, where the answer is a refusal; where memory ran out, nothing has to hold
abbrev pub IsStackRefusedFor : (Abstract → Tested Abstract) → List Cell → StepFault → Type 0
IsStackRefusedFor does old e = ForReason e (RefusesStack does old)

-- the top names this cell; between the two are this many cells
abbrev pub IsNamedCell : List Cell → ℕ × Cell → Type 0
IsNamedCell stack r =
    (k : Cell) × (below : List Cell) × (stack ≡ k ∷ below) × (known k ≡ Ok (pos (suc r.0)))
    × (drop r.0 below ≡ r.1 ∷ drop (r.0 + 1) below)

-- the top names no cell, so that CINDEX and MINDEX are refused for this reason
abbrev pub NamesNoCell : List Cell → Failed → Type 0
NamesNoCell stack f =
    RefusesStack (shuffled_cells CopyIndexed) stack (reason_of f)
    × RefusesStack (shuffled_cells MoveIndexed) stack (reason_of f)

-- whether the instruction takes one operand: ABS, NEG and NOT do, the others take two
abbrev pub takes_one : Arithmetic → Bool
takes_one Abs = true
takes_one Neg = true
takes_one Not = true
takes_one _ = false

-- Plain lines.

-- the line of the table that the code has in slices
abbrev pub line_of : Row → Lists
line_of row = record {
  operands = row.operands.now;
  uses = row.uses.now;
  updates = row.updates.now;
  pushes = row.pushes.now;
}

-- what a plain line makes of the state
abbrev pub plain_at : Setting → State → Row → Tested Abstract
plain_at setting state line = plain_cells (setting_of setting) (abstract_of state) (line_of line)

-- one state becomes another by a change, which reads the first `count` cells of the old stack
abbrev pub ChangesTo : ℕ → Update → State → State → Type 0
ChangesTo count change old new =
    abstract_of new ≡ record (abstract_of old) {
      registers = updated cells (take count old.stack) change (abstract_of old).registers;
    }

-- the same of several changes, one after the other
abbrev pub ChangesAllTo : ℕ → List Update → State → State → Type 0
ChangesAllTo count changes old new =
    abstract_of new ≡ record (abstract_of old) {
      registers = all_updated cells (take count old.stack) changes (abstract_of old).registers;
    }

-- what one push of a line gives, by the first `count` cells of the stack and the storage area
abbrev pub pushed_from : State → ℕ → Pushed → Cell
pushed_from state count pushed =
    cell_pushed (take count state.stack) (storage_of state.storage) pushed

-- what all pushes of a line give, by the same, the deepest first
abbrev pub all_pushed_from : State → ℕ → List Pushed → List Cell
all_pushed_from state count pushes =
    cells_pushed (take count state.stack) (storage_of state.storage) pushes

-- Control.

-- whether the condition's number is as asked: JROT asks for a true one, JROF for a false one
abbrev pub holds_when : Bool → ℤ → Bool
holds_when true = is_true
holds_when false = λ e. not (is_true e)

-- with any stack of this depth, and whatever else is known, it leads by these moves and leaves the
-- stack
abbrev pub Leads : (List Cell → Abstract → Tested (List Next)) → Point → ℕ → Moves → Type 0
Leads does point depth moves =
    (stack : List Cell) (a : Abstract) → length stack ≡ depth
    → does stack a ≡ Ok (nexts_of (frames_of point) moves (record a { stack = stack }))

-- with any stack of this depth, and whatever else is known, it is refused for this reason
abbrev pub LeadsNowhere : (List Cell → Abstract → Tested (List Next)) → ℕ → Failed → Type 0
LeadsNowhere does depth f =
    (stack : List Cell) (a : Abstract) → length stack ≡ depth → does stack a ≡ Err (reason_of f)

-- an IF at the point, by its cell, with this stack left
abbrev pub if_at : Setting → Point → Cell → List Cell → Abstract → Tested (List Next)
if_at setting point cell stack a =
    if_ways (setting_of setting) (frames_of point) point.offset a cell stack

-- a jump at the point if the condition is as asked, by the cells of both operands, with this stack
-- left
abbrev pub jump_at :
    Setting → Point → Bool → Cell → Cell → List Cell → Abstract → Tested (List Next)
jump_at setting point asked condition by stack a =
    jumps_by (setting_of setting) (frames_of point) point.offset a (holds_when asked)
    condition by stack

-- JROT or JROF at the point
abbrev pub jump_if_at : Setting → Point → Bool → State → Tested (List Next)
jump_if_at setting point asked state =
    jumps_if_cells (setting_of setting) (frames_of point) point.offset (abstract_of state)
    (holds_when asked)

-- with any stack of this depth, a jump by the cell leads to the offset
abbrev pub JumpsTo : Setting → Point → Cell → ℕ → ℕ → Type 0
JumpsTo setting point by depth n =
    (stack : List Cell) → length stack ≡ depth
    → jump_target (setting_of setting) (frames_of point) point.offset by stack ≡ Ok n

-- with any stack of this depth, a jump by the cell is refused for this reason
abbrev pub JumpsNowhere : Setting → Point → Cell → ℕ → Failed → Type 0
JumpsNowhere setting point by depth f =
    (stack : List Cell) → length stack ≡ depth
    → jump_target (setting_of setting) (frames_of point) point.offset by stack ≡ Err (reason_of f)

-- what is told of a jump of this distance is so, wherever its cell lies under so many others, and
-- the jump leaves a stack of this depth
abbrev pub TellsOfJump : Setting → Point → Distance → ℕ → Failed → Type 0
TellsOfJump setting point distance depth f =
    (a : Abstract) (below : List Cell) → drop distance.under a.stack ≡ distance.cell ∷ below
    → TellsWith (IsRole role.Distance distance.under) (setting_of setting) (frames_of point)
    point.offset a depth f

-- the number on top is that of a function that is known to have this body
abbrev pub IsNamed : List Cell → List (ℕ × ℕ) → ℤ → ℕ → Type 0
IsNamed stack functions number body =
    IsOnTop stack number × (body_named functions (natural number) ≡ Some body)

-- what is told of a call by this cell is so, where the cell is on top
abbrev pub TellsOfCall : Setting → State → Cell → Failed → Type 0
TellsOfCall setting state top f = (fs : List Frame) (at : ℕ) (below : List Cell) (left : ℕ)
    → state.stack ≡ top ∷ below
    → TellsWith (IsRole role.Function 0) (setting_of setting) fs at (abstract_of state) left f

-- a plain line takes an element of the state's stack as this
abbrev pub IsRoleOfLine : Setting → State → Row → Roles
IsRoleOfLine setting state line =
    IsRoleInLine (setting_of setting) state.graphics state.stack line.operands.now

-- what is told of a test of this line on this state is so, wherever it is and whatever it leaves
abbrev pub TellsOfLine : Setting → State → Row → Failed → Type 0
TellsOfLine setting state line f = (fs : List Frame) (at left : ℕ)
    → TellsWith (IsRoleOfLine setting state line) (setting_of setting) fs at (abstract_of state)
    left f

-- what is told of entering a function is so, wherever the top names it and the call leaves a stack
-- of this depth
abbrev pub TellsOfEntry : Setting → Point → Callee → ℕ → Failed → Type 0
TellsOfEntry setting point callee depth f = (a : Abstract)
    → IsNamed a.stack a.functions callee.number callee.body
    → TellsWith IsNoRole (setting_of setting) (frames_of point) point.offset a depth f

-- the body that the cell names, where it is called
abbrev pub called_at : Setting → State → Cell → Tested ℕ
called_at setting state cell = called_cell (setting_of setting) state.functions cell

-- a call of the body at the point, for this many turns, with this stack left
abbrev pub enter_at : Setting → Point → ℕ → ℕ → List Cell → Abstract → Tested (List Next)
enter_at setting point body turns stack a =
    enters_cells (setting_of setting) (frames_of point) point.offset a body stack turns

-- a LOOPCALL of the body at the point, by its count, with this stack left
abbrev pub loop_at : Setting → Point → ℕ → ℤ → List Cell → Abstract → Tested (List Next)
loop_at setting point body count stack a =
    loops_cells (setting_of setting) (frames_of point) point.offset a body stack count

-- Any instruction.

-- what an instruction of this code and data does at the point; the depth afterwards isn't tested
abbrev pub done_at : Setting → Point → State → ℕ → List ℕ → Tested (List Next)
done_at setting point state code rest =
    does_cells (setting_of setting) (frames_of point) point.offset (abstract_of state)
    (effect_of code) rest (point.offset + suc (length rest))

-- the instruction of these bytes turns the old state into the new one and leads by these moves
abbrev pub DoesTo : Setting → Point → List ℕ → State → State → Moves → Type 0
DoesTo setting point bytes old new moves =
    (code : ℕ) (rest : List ℕ) → bytes ≡ code ∷ rest
    → LeadsBy point (done_at setting point old code rest) moves new

-- the instruction of these bytes is refused for this reason
abbrev pub IsDoingRefusedFor : Setting → Point → List ℕ → State → StepFault → Type 0
IsDoingRefusedFor setting point bytes old e = ForReason e
    (λ r. (code : ℕ) (rest : List ℕ) → bytes ≡ code ∷ rest
    → done_at setting point old code rest ≡ Err r)

-- what is told of the test of the instruction of these bytes that fails is so
abbrev pub TellsOfBytes : Setting → Point → List ℕ → State → ℕ → StepFault → Type 0
TellsOfBytes setting point bytes old left e = (code : ℕ) (rest : List ℕ) → bytes ≡ code ∷ rest
    → TellsOf (IsRoleIn (setting_of setting) (abstract_of old) (effect_of code))
    setting point old left e
