-- What the verdict on one program is, and what is reported of it.
use Rattle.std.specs.Prelude.{◌≡◌, ℕ, List, Option, Some}
use Rattle.tt_code.specs.Cut.{CannotBeCut, Instruction, IsCut}
use Rattle.tt_code.specs.Grammar.{IsFault}
use Rattle.tt_code.specs.declared.reason.Reason.TheVariants as reason
use Rattle.tt_setting.specs.Refusals.{reason_of}
use Rattle.tt_setting.specs.declared.setting.Setting.{Setting}
use Rattle.tt_abs.specs.declared.state.State.{State}
use Rattle.tt_setting.specs.Settings.{setting_of}
use Rattle.tt_abs.specs.Soundness.{IsSafe}
use Rattle.tt_abs.specs.StateFlow.{FitsLimits, Place}
use Rattle.tt_family.specs.Contents.{Contents, family_of}
use Rattle.tt_family.specs.Fillings.{HasGoodFilling, IsFilling}
use Rattle.tt_family.specs.GoodFamilies.{IsGoodFamily}
use Rattle.tt_setting.specs.declared.spot.Spot.TheVariants as spot
use Rattle.tt_setting.specs.declared.refusal.Refusal.{Refusal}
use Rattle.tt_setting.specs.declared.refusal.Refusal.TheVariants.{Refused, Exhausted}
use Rattle.tt_find.specs.Found.{IsLeast}
use Rattle.hintcheck_programs.specs.Programs.{HasGoodFamily, IsCutInto, IsRefusal, Subject}
use Rattle.hintcheck_report.specs.Places.{reported_at}
use Rattle.tt_setting.specs.declared.name.Name.{Name}
use Rattle.hintcheck_programs.specs.declared.program.Search.{Search}
use Rattle.hintcheck_programs.specs.declared.program.Search.TheVariants as search
use Rattle.hintcheck_report.specs.declared.refused.Refused.{Refused as AnyRefused}

-- this is the program of this setting
pub record IsSubjectOf (x : Subject) (s : Setting) : Type 0 where
  pub cut : IsCutInto x s.main.now
  pub setting : x.setting s.main.now ≡ setting_of s
  pub functions : x.functions ≡ s.start.now

-- this is the program of this setting, whatever it starts with
pub record IsProgramOf (x : Subject) (s : Setting) : Type 0 where
  pub cut : IsCutInto x s.main.now
  pub setting : x.setting s.main.now ≡ setting_of s

-- a program with the functions with which it starts
abbrev pub with_start : Subject → List (ℕ × ℕ) → Subject
with_start x functions = record x { functions = functions }

-- The program of these bytes can't be cut, or its structure is at fault, and this is reported of it.
pub data IsUncut (called : Name) (bytes : List ℕ) : AnyRefused → Type 0 where
  no_cut : (offset : ℕ) → CannotBeCut bytes offset
      → IsUncut called bytes (reported_at called spot.Main offset reason.CannotCut)
  no_structure : (is : List Instruction) (offset : ℕ) → IsCut bytes is → IsFault is offset
      → IsUncut called bytes (reported_at called spot.Main offset reason.Structure)

-- The program has these instructions, and the family's filling is good for it, the least that is,
-- and within the font's limits; so every machine that a run comes to is covered, and doesn't fault.
pub record IsAccepted (x : Subject) (instructions : List Instruction)
    (family : Place → Option State) : Type 0 where
  pub cut : IsCutInto x instructions
  pub filling : Place → Option State
  pub fills : IsFilling (x.setting instructions) family filling
  pub good : IsGoodFamily (x.setting instructions) x.functions filling
  pub least : IsLeast (x.setting instructions) x.functions filling
  pub within : (p : Place) (a : State) → filling p ≡ Some a → FitsLimits (x.setting instructions) a
  pub safe : IsSafe (x.setting instructions) x.functions filling

-- what holds of what is reported of a program by this name, where the fault refuses it; out of
-- memory is unspecified
abbrev pub IfRefused : Name → Refusal → (AnyRefused → Type 0) → Type 0
IfRefused called (Refused spot offset failed) Is =
    Is (reported_at called spot offset (reason_of failed))
IfRefused called (Exhausted by) Is = Unit {0}

-- the fault names why the program is refused; out of memory is unspecified
abbrev pub IsFaultOfProgram : Subject → Refusal → Type 0
IsFaultOfProgram x fault = IfRefused x.name fault (IsRefusal x)

-- where the fault refuses the program, no family is good for it
abbrev pub NoneIsGoodFor : Subject → Refusal → Type 0
NoneIsGoodFor x fault = IfRefused x.name fault (λ _. HasGoodFamily x → ⊥)

-- the family has a good filling in this setting
abbrev pub IsFilledIn : Setting → Contents → Type 0
IsFilledIn s family = HasGoodFilling (setting_of s) s.start.now (family_of family)

-- the search is for the family that a certificate lists
abbrev pub IsForCertificate : Search → Type 0
IsForCertificate search.Verdict = ⊥
IsForCertificate search.Certificate = Unit {0}
IsForCertificate search.Writing = Unit {0}
