-- What a family tells of the functions that are defined where a program ends.
use Rattle.std.specs.Prelude.{◌≡◌, ℕ, List, [], Option, Some}
use Rattle.tt_code.specs.Cut.{size}
use Rattle.tt_code.specs.Fonts.{Leaves}
use Rattle.tt_code.specs.Settings.{Setting}
use Rattle.tt_abs.specs.declared.state.State.{State}
use Rattle.tt_setting.specs.Functions.{CoversFunctions}
use Rattle.tt_setting.specs.Entries.{Ascends}
use Rattle.tt_abs.specs.Families.{IsGood}
use Rattle.tt_setting.specs.Ranges.{IsSettingInRange}
use Rattle.tt_setting.specs.Functions.{StartsWith}
use Rattle.tt_setting.specs.Ranges.{AreProgramsShort}
use Rattle.tt_abs.specs.StateFlow.{Place, flow_of}
use Rattle.tt_abs.specs.States.{state_order}
use Rattle.tt_family.specs.Fillings.{HasGoodFilling, IsFilling}

-- each run of the program from a start with the first functions that reaches the program's end has
-- each of the others there, with its body
abbrev pub EachRunDefines : Setting → List (ℕ × ℕ) → List (ℕ × ℕ) → Type 0
EachRunDefines s start functions =
    (left : List (ℕ × ℕ)) → Leaves s (StartsWith start) left → CoversFunctions functions left

-- where the family is good for a program of this length, each run that reaches the program's end
-- has these functions there
abbrev pub AreDefinedAtEnd : (Place → Option State) → ℕ → List (ℕ × ℕ) → Type 0
AreDefinedAtEnd family length functions =
    (s : Setting) (start : List (ℕ × ℕ)) → IsSettingInRange s → AreProgramsShort s → Ascends start
    → IsGood state_order (flow_of s start) family
    → size s.main ≡ length → EachRunDefines s start functions

-- the same where a filling of the family is good, as of a family that leaves states out
abbrev pub AreDefinedWhereFilled : (Place → Option State) → ℕ → List (ℕ × ℕ) → Type 0
AreDefinedWhereFilled family length functions =
    (s : Setting) (start : List (ℕ × ℕ)) → IsSettingInRange s → AreProgramsShort s → Ascends start
    → HasGoodFilling s start family
    → size s.main ≡ length → EachRunDefines s start functions

-- at the end of a program of this length, a filling of the family has the family's own state, and
-- none if the family has none
abbrev pub FillingsKeepEnd : (Place → Option State) → ℕ → Type 0
FillingsKeepEnd family length =
    (s : Setting) (filling : Place → Option State) → IsFilling s family filling
    → size s.main ≡ length → filling ([], length) ≡ family ([], length)

-- the family has a state at the end of a program of this length, and these are the functions that
-- the state knows
abbrev pub AreKnownAtEnd : (Place → Option State) → ℕ → List (ℕ × ℕ) → Type 0
AreKnownAtEnd family length functions =
    (end : State) × (family ([], length) ≡ Some end) × (functions ≡ end.functions)
