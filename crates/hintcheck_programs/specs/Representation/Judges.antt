-- What the judges say of a program. (Representation: no public clause cites it.)
use Rattle.std.specs.Prelude.{◌≡◌, ◌⊎◌, ℕ, ◌<◌, ◌^◌, List, Option, Some}
use Rattle.tt_code.specs.Cut.{Instruction}
use Rattle.tt_code.specs.Settings.{GlyphProgram}
use Rattle.tt_code.specs.declared.limits.Limits.{Limits}
use Rattle.tt_setting.specs.Entries.{listed}
use Rattle.tt_family.specs.Contents.{family_of}
use Rattle.tt_find.specs.declared.finder.Finder.{Finder}
use Rattle.tt_find.specs.declared.finder.Found.{Found}
use Rattle.tt_font.specs.Reading.{FontData}
use Rattle.hintcheck_programs.specs.FoundFamilies.{IsFoundFor, IsFoundToEnd}
use Rattle.hintcheck_programs.specs.ProgramVerdicts.{IsAccepted, IsForCertificate, with_start}
use Rattle.hintcheck_programs.specs.Programs.{HasGoodFamily, HasLeastFamily, IsRefusal, Subject}
use Rattle.hintcheck_programs.specs.Representation.FontVerdicts.{ComesToEnd, IsKnownAtEnd}
use Rattle.hintcheck_programs.specs.Representation.ProgramOrder.{IsAnswerBy, IsOutcomeBy}
use Rattle.hintcheck_programs.specs.Stages.{Stage}
use Rattle.hintcheck_programs.specs.declared.finding.Finding.{Finding}
use Rattle.hintcheck_programs.specs.declared.program.Search.{Search}
use Rattle.hintcheck_report.specs.declared.refused.Refused.{Refused}
use Rattle.hintcheck_programs.specs.declared.report.Outcome.{Outcome}

-- the functions' numbers are within the limits, and their bodies' names have 32 bits
abbrev pub AreWithin : Limits → List (ℕ × ℕ) → Type 0
AreWithin limits functions =
    (n body : ℕ) → listed functions n ≡ Some body → (n < limits.functions) × (body < 2 ^ 32)

-- the finder keeps what this search found, and the program with these instructions is accepted by it
pub record IsFoundHere (finder : Finder) (search : Search) (x : Subject) (is : List Instruction)
    : Type 0 where
  pub found : Found
  pub is_kept : finder.found ≡ Some found
  pub accepted : IsAccepted x is (family_of found.certificate)
  pub for_certificate : IsForCertificate search → IsFoundFor x is found

-- The program with these instructions has its least family, and where that is asked for or a state
-- at the end is, it was found.
pub record IsFoundIn (j : Finding) (x : Subject) (is : List Instruction) : Type 0 where
  pub least : HasLeastFamily x
  pub found : IsForCertificate j.search ⊎ ComesToEnd (x.setting is).kind
      → IsFoundHere j.finder j.search x is

-- what is known where it ends, and what was found for a certificate
pub record IsFoundToEndIn (j : Finding) (x : Subject) (is : List Instruction)
    (functions : List (ℕ × ℕ)) : Type 0 where
  pub known : IsKnownAtEnd x is functions
  pub found : IsForCertificate j.search
      → (found : Found) × (j.finder.found ≡ Some found) × IsFoundToEnd x is found functions

-- a refused program, which has no good family if it is a glyph's
pub record IsRefusedFor (x : Subject) (r : Refused) : Type 0 where
  pub refusal : IsRefusal x r
  pub no_good : (good : HasGoodFamily x) (points contours : ℕ)
      → (x.setting good.instructions).kind ≡ GlyphProgram points contours → ⊥

-- what comes of the next program where it is found, and where it is checked by a section
abbrev pub IsOutcomeOf : FontData → Finding → Stage → Outcome → Stage → Type 0
IsOutcomeOf d j = IsOutcomeBy d (λ x start is. IsFoundIn j (with_start x start) is)
    (λ x start is known. IsFoundToEndIn j (with_start x start) is known)
    (λ x start r. IsRefusedFor (with_start x start) r)

abbrev pub AnswersFinding : FontData → Finding → Stage → Option Outcome → Stage → Type 0
AnswersFinding d j = IsAnswerBy d (λ x start is. IsFoundIn j (with_start x start) is)
    (λ x start is known. IsFoundToEndIn j (with_start x start) is known)
    (λ x start r. IsRefusedFor (with_start x start) r)
