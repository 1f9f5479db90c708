-- What a check of a font by its certificate finds of the font's programs.
use Rattle.std.specs.Prelude.{◌≡◌, true, ℕ, List, ◌++◌, ◌∷◌, Option, Some, is_some, unwrap_or, [], Result, Ok, Err}
use Rattle.tt_font.specs.Reading.{FontData}
use Rattle.hintcheck_programs.specs.FontPrograms.{judgement_on}
use Rattle.hintcheck_programs.specs.Programs.{Subject}
use Rattle.hintcheck_certificates.specs.Certificates.{Finding, IsCheckRefusal, IsChecked, IsSectionOf, after_header}
use Rattle.hintcheck_programs.specs.ProgramVerdicts.{IfRefused}
use Rattle.hintcheck_programs.specs.Verdicts.{Judgement}
use Rattle.hintcheck_report.specs.declared.answer_fault.AnswerFault.{AnswerFault}
use Rattle.hintcheck_report.specs.declared.answer_fault.AnswerFault.TheVariants as fault
use Rattle.hintcheck_report.specs.declared.refused.Refused.{Refused}
use Rattle.tt_family.specs.Contents.{Contents}
use Rattle.tt_setting.specs.declared.refusal.Refusal.{Refusal}
use Rattle.tt_cert.specs.declared.form.Form.{Form}
use Rattle.tt_setting.specs.declared.name.Name.{Name}
use Rattle.tt_setting.specs.declared.name.Name.TheVariants as name
use Rattle.tt_cert.specs.Readers.{Input}
use Rattle.tt_cert.specs.Reading.{header_at}

-- a source tells its bytes
abbrev pub IsTold : Option (List ℕ) → Type 0
IsTold known = is_some known ≡ true

-- the bytes of a source that tells them
abbrev pub bytes_in : Option (List ℕ) → List ℕ
bytes_in known = unwrap_or known []

-- What holds of an answer, or of the place that a fault of form names; a failed read, out of
-- memory, a budget that is exceeded and the font's own faults are unspecified.
abbrev pub Finds : {T : Type 0} → Result T AnswerFault → (T → Type 0) → (ℕ → Type 0) → Type 0
Finds (Ok x) Is At = Is x
Finds (Err (fault.Form place)) Is At = At place
Finds (Err other) Is At = Unit {0}

-- refused programs, and then the others
abbrev pub all_refused : List Refused → Finding → Finding
all_refused rs (Ok others) = Ok (rs ++ others)
all_refused rs (Err place) = Err place

-- the fault refuses the program as the check of its section does; out of memory is unspecified
abbrev pub IsRefusedBy : Form → Subject → Contents → Refusal → Type 0
IsRefusedBy form x family fault = IfRefused x.name fault (IsCheckRefusal form x family)

-- the verdict on the font by these bytes is what their check comes to
abbrev pub AnswersFinding : FontData → List ℕ → Judgement → Type 0
AnswersFinding d bytes v = IsChecked d bytes (Ok v.refused) × (v ≡ judgement_on d v.refused)

-- The bytes begin with a header and the section of the font program, and this follows.
pub record FollowsFont (bytes : List ℕ) (form : Form) (after : Input) : Type 0 where
  pub sections : ℕ
  pub header : Input
  pub header_is : header_at (record { place = 0; bytes = bytes }) ≡ Ok ((form, sections), header)
  pub family : Contents
  pub section : IsSectionOf form (after_header header.bytes) name.Font family after

-- So does the section of the CVT program next, and this follows.
pub record FollowsCvt (bytes : List ℕ) (form : Form) (after : Input) : Type 0 where
  pub from : Input
  pub font : FollowsFont bytes form from
  pub family : Contents
  pub section : IsSectionOf form from name.Cvt family after

-- What is left of these bytes where the first refused program has this name: what follows the
-- section of the font program or the CVT program, and nothing where it is a glyph's.
abbrev pub IsLeftAfter : List ℕ → Name → Option (List ℕ) → Type 0
IsLeftAfter bytes name.Font left =
    (form : Form) × (after : Input) × FollowsFont bytes form after × (left ≡ Some after.bytes)
IsLeftAfter bytes name.Cvt left =
    (form : Form) × (after : Input) × FollowsCvt bytes form after × (left ≡ Some after.bytes)
IsLeftAfter bytes (name.Glyph id) left = left ≡ Some []

-- what a check that refuses these programs leaves of the bytes
abbrev pub IsLeftBy : List ℕ → List Refused → Option (List ℕ) → Type 0
IsLeftBy bytes [] left = left ≡ Some []
IsLeftBy bytes (r ∷ rs) left = IsLeftAfter bytes r.program left
