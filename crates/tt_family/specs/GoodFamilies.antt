-- What a checked family is: good, with storage indexes below maxStorage, with a state at the
-- program's end where one must be, with few contexts, and of a program that isn't too long.
use Rattle.std.specs.Prelude.{◌≡◌, ℕ, ℤ, ◌<◌, ◌≤◌, Option, Some, List, [], length}
use Rattle.tt_code.specs.Cut.{size}
use Rattle.tt_code.specs.declared.machine.Frame.{Frame}
use Rattle.tt_code.specs.Settings.{Setting, Kind, FontProgram, CvtProgram, GlyphProgram}
use Rattle.tt_abs.specs.declared.state.State.{State}
use Rattle.tt_setting.specs.Entries.{listed}
use Rattle.tt_abs.specs.Families.{IsGood}
use Rattle.tt_abs.specs.StateFlow.{Place, flow_of}
use Rattle.tt_abs.specs.States.{state_order}
use Rattle.tt_family.specs.Contents.{HasContext}

-- each listed storage index is below maxStorage
abbrev pub IsStoredWithin : Setting → State → Type 0
IsStoredWithin s a = (i : ℕ) (z : ℤ) → listed a.storage i ≡ Some z → i < s.limits.storage

-- each storage index that a state of the family lists is below maxStorage
abbrev pub AreStoredWithin : Setting → (Place → Option State) → Type 0
AreStoredWithin s family = (p : Place) (a : State) → family p ≡ Some a → IsStoredWithin s a

-- the family has a state at the main program's end
abbrev pub HasEnd : Setting → (Place → Option State) → Type 0
HasEnd s family = (end : State) × (family ([], size s.main) ≡ Some end)

-- what is asked of the end: for a font program or a CVT program the family has a state there
abbrev pub EndsWell : Setting → Kind → (Place → Option State) → Type 0
EndsWell s FontProgram family = HasEnd s family
EndsWell s CvtProgram family = HasEnd s family
EndsWell s (GlyphProgram points contours) family = Unit {0}

-- what is asked of the length: a glyph program has at most maxSizeOfInstructions bytes
abbrev pub IsShortEnough : Setting → Kind → Type 0
IsShortEnough s FontProgram = Unit {0}
IsShortEnough s CvtProgram = Unit {0}
IsShortEnough s (GlyphProgram points contours) = size s.main ≤ s.limits.program_size

-- at most 65,535 contexts have states
abbrev pub HasFewContexts : (Place → Option State) → Type 0
HasFewContexts family =
    (contexts : List (List Frame)) × (length contexts ≤ 65535)
    × ((p : Place) (a : State) → family p ≡ Some a → HasContext contexts p.0)

-- all that a checked family is
pub record IsGoodFamily (s : Setting) (functions : List (ℕ × ℕ)) (family : Place → Option State)
    : Type 0 where
  pub short : IsShortEnough s s.kind
  pub good : IsGood state_order (flow_of s functions) family
  pub ends : EndsWell s s.kind family
  pub storage : AreStoredWithin s family
  pub few : HasFewContexts family
