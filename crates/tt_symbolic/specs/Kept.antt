-- Memory entries that no instruction writes.
use Rattle.std.specs.Prelude.{◌≡◌, ℕ, ℤ, List, Some, slice_get}
use Rattle.tt_code.specs.Settings.{Setting}
use Rattle.tt_symbolic_state.specs.CvtMachine.{CvtMachine, CvtSteps}
use Rattle.tt_symbolic_state.specs.Shows.{IsShown}
use Rattle.tt_symbolic_state.specs.declared.state.State.{State}
use Rattle.tt_symbolic.specs.declared.kept.Kept.{Kept}

-- the number is among these
pub record IsAmong (numbers : List ℕ) (i : ℕ) : Type 0 where
  pub place : ℕ
  pub found : slice_get numbers place ≡ Some i

-- the areas have the same numbers at these indexes
abbrev pub SameEntries : List ℕ → (ℕ → ℤ) → (ℕ → ℤ) → Type 0
SameEntries numbers old new = (i : ℕ) → IsAmong numbers i → new i ≡ old i

-- the kept entries of both machines are the same
pub record KeepsMemory (kept : Kept) (m n : CvtMachine) : Type 0 where
  pub storage : SameEntries kept.storage.now m.machine.registers.storage n.machine.registers.storage
  pub controls : SameEntries kept.controls.now m.controls n.controls

-- no step from a machine that the state shows changes a kept entry
abbrev pub StepsKeep : Setting → Kept → State → Type 0
StepsKeep s kept a =
    (m n : CvtMachine) → IsShown a m.machine m.controls → CvtSteps s m n → KeepsMemory kept m n
