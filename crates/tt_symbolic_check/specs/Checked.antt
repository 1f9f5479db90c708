-- What a checked program's runs do.
use Rattle.std.specs.Prelude.{◌≡◌, ℕ, List, Some, slice_get, true}
use Rattle.tt_code.specs.Runs.{is_at_end}
use Rattle.tt_code.specs.Settings.{Setting}
use Rattle.tt_symbolic_state.specs.CvtMachine.{CvtMachine, CvtNeverFaults, CvtRuns}
use Rattle.tt_symbolic_state.specs.Shows.{IsShown}
use Rattle.tt_symbolic_state.specs.declared.state.State.{State}
use Rattle.tt_symbolic.specs.Kept.{KeepsMemory}
use Rattle.tt_symbolic.specs.declared.kept.Kept.{Kept}
use Rattle.tt_symbolic_check.specs.Starts.{StartsFrom}
use Rattle.tt_symbolic_check.specs.declared.start.Start.{Start}

-- one of the states shows the machine
pub record IsShownByOne (states : List State) (m : CvtMachine) : Type 0 where
  pub index : ℕ
  pub state : State
  pub found : slice_get states index ≡ Some state
  pub shown : IsShown state m.machine m.controls

-- no run from a start reaches a fault
abbrev pub IsSafe : Setting → List Start → Type 0
IsSafe s starts = CvtNeverFaults s (StartsFrom starts)

-- one of the states shows each machine at the main program's end to which a run from a start comes
abbrev pub AreEnds : Setting → List Start → List State → Type 0
AreEnds s starts ends =
    (m n : CvtMachine) → StartsFrom starts m → CvtRuns s m n → is_at_end s n.machine ≡ true
    → IsShownByOne ends n

-- no run from a start changes a kept entry
abbrev pub KeepsEntries : Setting → Kept → List Start → Type 0
KeepsEntries s kept starts =
    (m n : CvtMachine) → StartsFrom starts m → CvtRuns s m n → KeepsMemory kept m n

-- a program is checked: this is so of it
pub record IsChecked (s : Setting) (kept : Kept) (starts : List Start) (ends : List State)
    : Type 0 where
  pub safe : IsSafe s starts
  pub keeps : KeepsEntries s kept starts
  pub ends_are : AreEnds s starts ends
