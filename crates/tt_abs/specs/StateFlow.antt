-- The flow of abstract states through a program's places: what the outcome on cells refuses and
-- gives.
use Rattle.std.specs.Prelude.{◌≡◌, ℕ, ℤ, ◌+◌, ◌<◌, ◌≤◌, ◌^◌, List, [], Ok, Err, Some, false, length, slice_get}
use Rattle.std.specs.List.{AllByRecursion}
use Rattle.tt_code.specs.Cut.{size}
use Rattle.tt_code.specs.Settings.{Setting, is_main_end}
use Rattle.tt_code.specs.declared.machine.Frame.{Frame}
use Rattle.tt_code.specs.declared.reason.Reason.{Reason}
use Rattle.tt_abs.specs.declared.state.State.{State}
use Rattle.tt_setting.specs.Entries.{Ascends, listed}
use Rattle.tt_abs.specs.Flows.{Flow, FlowLaws}
use Rattle.tt_abs.specs.Contexts.{FramesFit}
use Rattle.tt_setting.specs.Ranges.{IsSettingInRange}
use Rattle.tt_abs.specs.States.{abstract_of, start_of, state_order}
use Rattle.tt_abs.specs.Transfers.{Next, outcome_on_cells}
use Rattle.tt_setting.specs.Ranges.{AreProgramsShort}

-- a place of a program: the calls that haven't returned, the innermost first, and an offset in the
-- program that has the innermost one's body, or, without calls, in the main program
abbrev pub Place : Type 0
Place = List Frame × ℕ

-- the call is of a body whose name is a number of 32 bits, and returns to an offset below 2^31
abbrev pub CallFits : Frame → Type 0
CallFits f = (f.body < 2 ^ 32) × (f.call + 1 < 2 ^ 31)

-- so it is for each call
abbrev pub CallsFit : List Frame → Type 0
CallsFit fs = AllByRecursion CallFits fs

-- the place has the form of one that a program reaches: its calls fit, and its offset is below 2^31
pub record IsPlace (p : Place) : Type 0 where
  pub frames : FramesFit p.0
  pub calls : CallsFit p.0
  pub offset : p.1 < 2 ^ 31

-- the limits of functions: each listed number is below maxFunctionDefs, and each body is a number
-- of 32 bits
abbrev pub FunctionsFit : Setting → List (ℕ × ℕ) → Type 0
FunctionsFit s functions =
    (n body : ℕ) → listed functions n ≡ Some body → (n < s.limits.functions) × (body < 2 ^ 32)

-- the state is within the font's limits: it is no deeper than maxStackElements, its functions fit,
-- and each listed storage cell is below maxStorage
pub record FitsLimits (s : Setting) (a : State) : Type 0 where
  pub depth : length a.stack ≤ s.limits.stack
  pub functions : FunctionsFit s a.functions
  pub storage : (i : ℕ) (z : ℤ) → listed a.storage i ≡ Some z → i < s.limits.storage

-- the outcome on cells is refused there; at the main program's end nothing is
pub record RefusesState (s : Setting) (p : Place) (a : State) (r : Reason) : Type 0 where
  pub running : is_main_end s p.0 p.1 ≡ false
  pub refused : outcome_on_cells s p.0 p.1 (abstract_of a) ≡ Err r

-- one of the successors is this state, which is in range, at this place; at the main program's end
-- there is none
pub record GivesState (s : Setting) (p : Place) (a : State) (q : Place) (t : State) : Type 0 where
  pub running : is_main_end s p.0 p.1 ≡ false
  pub nexts : List Next
  pub result : outcome_on_cells s p.0 p.1 (abstract_of a) ≡ Ok nexts
  pub index : ℕ
  pub next : Next
  pub found : slice_get nexts index ≡ Some next
  pub frames_are : next.frames ≡ q.0
  pub offset_is : next.offset ≡ q.1
  pub state_is : abstract_of t ≡ next.state
  pub in_range : state_order.InRange t

-- the flow of a program that starts with these functions
abbrev pub flow_of : Setting → List (ℕ × ℕ) → Flow Place State
flow_of s functions = record {
  entry = ([], 0);
  start = start_of functions;
  IsPoint = IsPlace;
  Fits = FitsLimits s;
  Refuses = RefusesState s;
  Gives = GivesState s;
}

-- how often a state within the limits can rise: once for each cell of the graphics state, of the
-- stack and of the storage area, and once for each function
abbrev pub height_of : Setting → ℕ
height_of s = 7 + s.limits.stack + s.limits.functions + s.limits.storage

-- the laws of the flow, of each setting in range whose programs are short, and of each list of
-- functions that are within the font's limits, in ascending order of their numbers
abbrev pub HasFlowLaws : Type 0
HasFlowLaws =
    (s : Setting) (functions : List (ℕ × ℕ)) → IsSettingInRange s → AreProgramsShort s
    → Ascends functions → FunctionsFit s functions
    → FlowLaws state_order (flow_of s functions) (height_of s)
