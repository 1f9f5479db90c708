-- What the judge says of a program that is checked by its section of a certificate. (Representation:
-- no public clause cites it.)
use Rattle.std.specs.Prelude.{ℕ, List, Option}
use Rattle.tt_code.specs.Cut.{Instruction}
use Rattle.tt_setting.specs.declared.setting.Setting.{Setting}
use Rattle.tt_setting.specs.Settings.{setting_of}
use Rattle.tt_family.specs.Contents.{Contents, family_of}
use Rattle.tt_family.specs.Fillings.{HasGoodFilling}
use Rattle.hintcheck_certificates.specs.Certificates.{IsGoodListing, IsCheckRefusal, Passes, PassesToEnd}
use Rattle.hintcheck_programs.specs.Programs.{Subject}
use Rattle.tt_cert.specs.declared.form.Form.{Form}
use Rattle.tt_font.specs.Reading.{FontData}
use Rattle.hintcheck_programs.specs.GoodPrograms.{IsGoodAtEnd}
use Rattle.hintcheck_programs.specs.ProgramVerdicts.{with_start}
use Rattle.hintcheck_programs.specs.Representation.ProgramOrder.{IsAnswerBy, IsOutcomeBy}
use Rattle.hintcheck_programs.specs.Stages.{Stage}
use Rattle.hintcheck_certificates.specs.declared.section_check.SectionCheck.{SectionCheck}
use Rattle.hintcheck_programs.specs.declared.report.Outcome.{Outcome}

-- the family is good in this setting, as a certificate of this form lists it
abbrev pub IsListedIn : Form → Setting → Contents → Type 0
IsListedIn form s family = IsGoodListing form (setting_of s) s.start.now family

-- the program passes the check by this family, which has a good filling
pub record IsPassedBy (form : Form) (x : Subject) (is : List Instruction) (family : Contents)
    : Type 0 where
  pub passes : Passes form x is family
  pub filled : HasGoodFilling (x.setting is) x.functions (family_of family)

-- and this is known where it ends
pub record IsPassedToEnd (form : Form) (x : Subject) (is : List Instruction) (family : Contents)
    (functions : List (ℕ × ℕ)) : Type 0 where
  pub passes : PassesToEnd form x is family functions
  pub known : IsGoodAtEnd x is functions

abbrev pub IsOutcomeOfSection : FontData → SectionCheck → Stage → Outcome → Stage → Type 0
IsOutcomeOfSection d j =
    IsOutcomeBy d (λ x start is. IsPassedBy j.form (with_start x start) is j.certificate.now)
    (λ x start is known. IsPassedToEnd j.form (with_start x start) is j.certificate.now known)
    (λ x start r. IsCheckRefusal j.form (with_start x start) j.certificate.now r)

abbrev pub AnswersSection : FontData → SectionCheck → Stage → Option Outcome → Stage → Type 0
AnswersSection d j =
    IsAnswerBy d (λ x start is. IsPassedBy j.form (with_start x start) is j.certificate.now)
    (λ x start is known. IsPassedToEnd j.form (with_start x start) is j.certificate.now known)
    (λ x start r. IsCheckRefusal j.form (with_start x start) j.certificate.now r)
