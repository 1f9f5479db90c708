-- What was read of a certificate before a read failed: no unit that was read whole is at fault.
use Rattle.std.specs.Prelude.{◌≡◌, ℕ, List, [], Option, Some, None, length, Result, Ok, Err}
use Rattle.std.specs.Io.KnownBytes.{Consumes}
use Rattle.tt_cert.specs.Answers.{input_at}
use Rattle.tt_cert.specs.Readers.{Input, place_after}
use Rattle.tt_cert.specs.Reading.{header_at}
use Rattle.tt_setting.specs.declared.cert_fault.CertFault.{CertFault}
use Rattle.tt_setting.specs.declared.cert_fault.CertFault.TheVariants as cert
use Rattle.tt_cert.specs.declared.form.Form.{Form}
use Rattle.tt_font.specs.Reading.{FontData, Reads}
use Rattle.hintcheck_certificates.specs.Certificates.{Finding, IsChecked}
use Rattle.hintcheck_certificates.specs.CheckedFonts.{IsTold}
use Rattle.hintcheck_certificates.specs.Sessions.{IsFaultAt, IsLast, ReadsOn, Standing}
use Rattle.hintcheck_programs.specs.Stages.{Stage}
use Rattle.hintcheck_certificates.specs.Upgrades.{UpgradesTo}
use Rattle.hintcheck_report.specs.declared.answer_fault.AnswerFault.{AnswerFault}
use Rattle.hintcheck_report.specs.declared.answer_fault.AnswerFault.TheVariants as fault

-- what holds of the bytes that were read from a source, where that tells its bytes
abbrev pub OfRead : Option (List ℕ) → Option (List ℕ) → (List ℕ → Type 0) → Type 0
OfRead old new Is = IsTold old → (front : List ℕ) × Consumes old new front × Is front

-- what holds of the bytes that were read, where a read failed in the check of a font by a
-- certificate
abbrev pub HasRead : Option (List ℕ) → Option (List ℕ) → (List ℕ → Type 0) → AnswerFault → Type 0
HasRead old new Is fault.Read = OfRead old new Is
HasRead old new Is other = Unit {0}

-- what holds of the bytes that were read, where a read failed in an upgrade
abbrev pub HasReadOld : Option (List ℕ) → Option (List ℕ) → (List ℕ → Type 0) → CertFault
    → Type 0
HasReadOld old new Is cert.Read = OfRead old new Is
HasReadOld old new Is cert.Write = Unit {0}
HasReadOld old new Is (cert.Form place) = Unit {0}
HasReadOld old new Is (cert.OutOfMemory error) = Unit {0}

-- where the bytes end
abbrev pub end_of : Input → ℕ
end_of i = place_after i.place (length i.bytes)

-- the bytes end too early for a header: what is wrong with them is at their end
abbrev pub IsCutHeader : List ℕ → Type 0
IsCutHeader front = header_at (input_at 0 (Some front)) ≡ Err (place_after 0 (length front))

-- The input ends too early for the section of the next program: what is wrong with it is at its
-- end; or all sections were read, and nothing follows.
pub data EndsInSection (d : FontData) (form : Form) (stage : Stage) (i : Input) : Type 0 where
  in_section : IsFaultAt d form i stage (end_of i) → EndsInSection d form stage i
  after_all : IsLast d stage → i.bytes ≡ [] → EndsInSection d form stage i

-- The bytes end too early for a call of a session: in the header, or in what the call reads after
-- it.
pub data EndsInCall (s : Standing) (front : List ℕ) : Type 0 where
  in_header : s.read ≡ None → IsCutHeader front → EndsInCall s front
  in_sections : (form : Form) (from : Input) → ReadsOn s (Some front) form from
      → EndsInSection s.font form s.stage from → EndsInCall s front

-- the answer names no place, or the one at the end of this many bytes
abbrev pub IsAtEndOnly : {T : Type 0} → ℕ → Result T ℕ → Type 0
IsAtEndOnly n (Ok x) = Unit {0}
IsAtEndOnly n (Err place) = place ≡ place_after 0 n

-- The bytes, as a whole certificate of the font, are at fault nowhere but at their end.
pub record IsUnbroken (d : FontData) (front : List ℕ) : Type 0 where
  pub finding : Finding
  pub is_checked : IsChecked d front finding
  pub at_end : IsAtEndOnly (length front) finding

-- the same with the font in these bytes
abbrev pub IsUnbrokenFor : List ℕ → List ℕ → Type 0
IsUnbrokenFor font front = (d : FontData) × Reads font d × IsUnbroken d front

-- The bytes, as a whole certificate of some font, are at fault nowhere but at their end.
pub record IsUnbrokenOld (front : List ℕ) : Type 0 where
  pub answer : Result ℕ ℕ
  pub comes : UpgradesTo front answer
  pub at_end : IsAtEndOnly (length front) answer
