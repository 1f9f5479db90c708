-- What is known at the ends of a font program and a CVT program, and with what glyph programs start.
use Rattle.std.specs.Prelude.{◌≡◌, ℕ, List, Some, slice_get, true}
use Rattle.tt_setting.specs.Functions.{CoversFunctions}
use Rattle.tt_setting.specs.Entries.{listed}
use Rattle.tt_code.specs.Runs.{IsFresh, is_at_end}
use Rattle.tt_code.specs.Settings.{Setting}
use Rattle.tt_symbolic_state.specs.CvtMachine.{CvtMachine, CvtNeverFaults, CvtRuns}
use Rattle.tt_symbolic_state.specs.Shows.{IsShown}
use Rattle.tt_symbolic_state.specs.declared.cell.Cell.{Cell}
use Rattle.tt_symbolic_state.specs.declared.state.State.{State}
use Rattle.tt_symbolic.specs.Kept.{IsAmong, SameEntries}
use Rattle.tt_symbolic_check.specs.Checked.{IsSafe, IsShownByOne}
use Rattle.tt_symbolic_check.specs.Starts.{StartsFrom}
use Rattle.tt_symbolic_check.specs.declared.start.Start.{Start}
use Rattle.hintcheck_fonts.specs.CvtStarts.{AreNumbers}
use Rattle.hintcheck_fonts.specs.declared.ends.Ends.{Ends}
use Rattle.hintcheck_fonts.specs.declared.glyph_starts.GlyphStarts.{GlyphStarts}

-- a program starts with the machine, which has these functions, and any memory
pub record StartsKnowing (functions : List (ℕ × ℕ)) (m : CvtMachine) : Type 0 where
  pub fresh : IsFresh m.machine
  pub controls : AreNumbers m.controls
  pub known : CoversFunctions functions m.machine.functions

-- each of the states has these functions
pub record AreKnown (functions : List (ℕ × ℕ)) (states : List State) : Type 0 where
  pub known : (i : ℕ) (a : State) → slice_get states i ≡ Some a
      → CoversFunctions functions a.functions

-- one of the states shows each machine at the end to which a run from such a start comes, and each
-- of them has the functions that are known there
pub record AreEndsKnowing (s : Setting) (functions : List (ℕ × ℕ)) (ends : Ends) : Type 0 where
  pub shown : (m n : CvtMachine) → StartsKnowing functions m → CvtRuns s m n
      → is_at_end s n.machine ≡ true → IsShownByOne ends.states.items n
  pub known : AreKnown ends.functions ends.states.items

-- no run from such a start reaches a fault
abbrev pub IsSafeKnowing : Setting → List (ℕ × ℕ) → Type 0
IsSafeKnowing s functions = CvtNeverFaults s (StartsKnowing functions)

-- no run from such a start comes to the end
abbrev pub NeverComesToEnd : Setting → List (ℕ × ℕ) → Type 0
NeverComesToEnd s functions =
    (m n : CvtMachine) → StartsKnowing functions m → CvtRuns s m n
    → is_at_end s n.machine ≡ true → ⊥

-- a program starts with the second machine, with the memory of the first, and has these functions
pub record StartsThen (functions : List (ℕ × ℕ)) (m n : CvtMachine) : Type 0 where
  pub fresh : IsFresh n.machine
  pub storage : (i : ℕ) → n.machine.registers.storage i ≡ m.machine.registers.storage i
  pub controls : (i : ℕ) → n.controls i ≡ m.controls i
  pub known : CoversFunctions functions n.machine.functions

-- one of the starts shows each machine with which a program starts so after one that the state shows
pub record IsFollowed (functions : List (ℕ × ℕ)) (starts : List Start) (end : State) : Type 0 where
  pub followed : (m n : CvtMachine) → IsShown end m.machine m.controls → StartsThen functions m n
      → StartsFrom starts n

-- each index that is listed is among these
pub record ListsAmong (indexes : List ℕ) (cells : List (ℕ × Cell)) : Type 0 where
  pub among : (i : ℕ) (c : Cell) → listed cells i ≡ Some c → IsAmong indexes i

-- the start lists no memory but these entries, and no function but these
pub record IsWithin (functions : List (ℕ × ℕ)) (storage controls : List ℕ) (start : Start) : Type 0
  where
    pub storage_is : ListsAmong storage start.storage
    pub controls_are : ListsAmong controls start.controls
    pub functions_are : CoversFunctions start.functions functions

-- one of the starts follows each end of the CVT program, and all that they list is kept
pub record StartGlyphs (ends : Ends) (g : GlyphStarts) : Type 0 where
  pub followed : (i : ℕ) (a : State) → slice_get ends.states.items i ≡ Some a
      → IsFollowed ends.functions g.starts.items a
  pub within : (i : ℕ) (start : Start) → slice_get g.starts.items i ≡ Some start
      → IsWithin ends.functions g.storage.items g.controls.items start

-- both machines have the same numbers at the entries that are kept
pub record KeepsThem (g : GlyphStarts) (m n : CvtMachine) : Type 0 where
  pub storage :
      SameEntries g.storage.items m.machine.registers.storage n.machine.registers.storage
  pub controls : SameEntries g.controls.items m.controls n.controls

-- a glyph program was checked from these starts: no run faults, or changes an entry that is kept
pub record IsGlyphChecked (s : Setting) (g : GlyphStarts) : Type 0 where
  pub safe : IsSafe s g.starts.items
  pub keeps : (m n : CvtMachine) → StartsFrom g.starts.items m → CvtRuns s m n → KeepsThem g m n
