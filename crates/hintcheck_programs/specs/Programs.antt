-- A program as it is checked, what it means that it has a family of abstract states, and why it is
-- refused.
use Rattle.std.specs.Prelude.{◌≡◌, ◌⊎◌, ℕ, List, [], Option, Some}
use Rattle.tt_code.specs.Cut.{Instruction, IsCut, CannotBeCut, size}
use Rattle.tt_code.specs.Grammar.{IsStructured, IsFault}
use Rattle.tt_code.specs.Settings.{Setting}
use Rattle.tt_code.specs.declared.reason.Reason.{Reason}
use Rattle.tt_code.specs.declared.reason.Reason.TheVariants as reason
use Rattle.tt_abs.specs.declared.state.State.{State}
use Rattle.tt_abs.specs.StateFlow.{Place}
use Rattle.tt_family.specs.GoodFamilies.{IsGoodFamily}
use Rattle.tt_setting.specs.Spots.{spot_of}
use Rattle.tt_find.specs.Found.{IsJustified, IsLeast}
use Rattle.tt_setting.specs.declared.name.Name.{Name}
use Rattle.hintcheck_report.specs.Places.{program_at}
use Rattle.hintcheck_report.specs.declared.refused.Refused.{Refused}

-- A program as it is checked: its name; its bytes; what it is checked against, once its
-- instructions are known; and the functions that are known to be defined where it starts, by
-- ascending numbers, each with its body.
pub record Subject : Type 0 where
  pub name : Name
  pub bytes : List ℕ
  pub setting : List Instruction → Setting
  pub functions : List (ℕ × ℕ)

-- these are its instructions, and their structure is right
pub record IsCutInto (x : Subject) (instructions : List Instruction) : Type 0 where
  pub is_cut : IsCut x.bytes instructions
  pub structured : IsStructured instructions

-- a family of abstract states is good for it
pub record HasGoodFamily (x : Subject) : Type 0 where
  pub instructions : List Instruction
  pub cut : IsCutInto x instructions
  pub family : Place → Option State
  pub good : IsGoodFamily (x.setting instructions) x.functions family

-- a family of abstract states is good for it, and is the least one that is
pub record HasLeastFamily (x : Subject) : Type 0 where
  pub instructions : List Instruction
  pub cut : IsCutInto x instructions
  pub family : Place → Option State
  pub good : IsGoodFamily (x.setting instructions) x.functions family
  pub least : IsLeast (x.setting instructions) x.functions family

-- it has these instructions and a least family, and these functions are known where it ends
pub record EndsWith (x : Subject) (instructions : List Instruction)
    (functions : List (ℕ × ℕ)) : Type 0 where
  pub cut : IsCutInto x instructions
  pub family : Place → Option State
  pub good : IsGoodFamily (x.setting instructions) x.functions family
  pub least : IsLeast (x.setting instructions) x.functions family
  pub end : State
  pub at_end : family ([], size instructions) ≡ Some end
  pub functions_are : end.functions ≡ functions

-- Why a program is refused, and where: it can't be cut; its structure is at fault; no family is
-- found for it.
pub data IsCause (x : Subject) : Place → Reason → Type 0 where
  no_cut : (offset : ℕ) → CannotBeCut x.bytes offset → IsCause x ([], offset) reason.CannotCut
  no_structure : (instructions : List Instruction) (offset : ℕ) → IsCut x.bytes instructions
      → IsFault instructions offset
      → IsCause x ([], offset) reason.Structure
  no_family : (instructions : List Instruction) (p : Place) (r : Reason) → IsCutInto x instructions
      → IsJustified (x.setting instructions) x.functions p r → IsCause x p r

-- The program is refused: a cause is named with its place, and the program has no least family; for
-- each cause except that it never ends, it has no good one either.
pub record IsRefusal (x : Subject) (r : Refused) : Type 0 where
  pub program : r.program ≡ x.name
  pub at : Place
  pub spot : r.place.program ≡ program_at x.name (spot_of at.0)
  pub offset : r.place.offset ≡ at.1
  pub cause : IsCause x at r.reason
  pub no_least : HasLeastFamily x → ⊥
  pub no_good : (r.reason ≡ reason.NeverEnds) ⊎ (HasGoodFamily x → ⊥)
