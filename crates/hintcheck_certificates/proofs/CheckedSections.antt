-- A section that is read, and the glyph programs that are checked by theirs.
use Rattle.std.proofs.Common.{◌≡◌, ◌≢◌, ℕ, ◌+◌, List, [], ◌∷◌, ◌++◌, Option, Ok, Err, refl, sym, ◌∙◌, ap, subst, append_assoc}
use Rattle.tt_family.specs.Contents.{Contents}
use Rattle.tt_family.specs.Ascending.{IsFinished}
use Rattle.tt_cert.specs.Answers.{GivesSection, input_at}
use Rattle.tt_setting.specs.declared.cert_fault.CertFault.{CertFault}
use Rattle.tt_setting.specs.declared.cert_fault.CertFault.TheVariants as cert
use Rattle.tt_cert.specs.declared.form.Form.{Form}
use Rattle.tt_setting.specs.declared.name.Name.{Name}
use Rattle.tt_cert.specs.Reading.{section_at}
use Rattle.tt_cert.specs.Sections.{section_of}
use Rattle.hintcheck_certificates.specs.CertificateFaults.{ComesTo, CountsCheck}
use Rattle.hintcheck_certificates.specs.Certificates.{Finding, HasNoSection, IsSectionOf, not_read, of_another, refused_before}
use Rattle.hintcheck_certificates.specs.CheckedFonts.{Finds, IsTold, all_refused}
use Rattle.hintcheck_report.specs.AnswerFaults.{fault_of_certificate}
use Rattle.hintcheck_report.specs.declared.answer_fault.AnswerFault.{AnswerFault}
use Rattle.hintcheck_report.specs.declared.answer_fault.AnswerFault.TheVariants as fault
use Rattle.hintcheck_report.specs.declared.refused.Refused.{Refused}

-- sections

pub section_read : (form : Form) (old new : Option (List ℕ)) (place after : ℕ) (called named : Name) (family : Contents)
    → GivesSection old new (Ok (named, family, after)) (section_at form (input_at place old)) → named ≡ called → IsFinished family → IsTold old
    → IsTold new × IsSectionOf form (input_at place old) called family (input_at after new)
section_read form old new place after called named family gives same finished told =
    let read = gives told in
    (read.0, record { in_order = finished; is_read = read.1 ∙ ap (λ (n : Name). Ok (section_of n family, input_at after new)) same })

pub section_of_another : (form : Form) (old new : Option (List ℕ)) (place after : ℕ) (called named : Name) (family : Contents)
    → GivesSection old new (Ok (named, family, after)) (section_at form (input_at place old)) → named ≢ called → IsTold old
    → HasNoSection form (input_at place old) called place
section_of_another form old new place after called named family gives differs told = of_another (section_of named family) (input_at after new) (gives told).1 differs

pub no_section_read : {T : Type 0} (Is : T → Type 0) (form : Form) (old new : Option (List ℕ)) (place : ℕ) (called : Name) (e : CertFault)
    → GivesSection old new (Err e) (section_at form (input_at place old)) → IsTold old → ComesTo {T = T} (Err e) Is (HasNoSection form (input_at place old) called)
no_section_read Is form old new place called (cert.Form p) gives told = not_read p (gives told)
no_section_read Is form old new place called cert.Read gives told = tt
no_section_read Is form old new place called cert.Write gives told = tt
no_section_read Is form old new place called (cert.OutOfMemory e) gives told = tt

-- glyph programs

pub one_more : (rs : List Refused) (r : Refused) (finding : Finding) → all_refused rs (refused_before r finding) ≡ all_refused (rs ++ r ∷ []) finding
one_more rs r (Ok others) = ap Ok (sym (append_assoc rs (r ∷ []) others))
one_more rs r (Err place) = refl

-- a fault, which names a place of what was asked, names one of what is asked now
pub finds_fault : {T U : Type 0} (Is : T → Type 0) (Is' : U → Type 0) (At At' : ℕ → Type 0) (e : AnswerFault) → Finds {T = T} (Err e) Is At → ((place : ℕ) → At place → At' place)
    → Finds {T = U} (Err e) Is' At'
finds_fault Is Is' At At' (fault.Form place) h f = f place h
finds_fault Is Is' At At' fault.Read h f = tt
finds_fault Is Is' At At' (fault.Font e) h f = tt
finds_fault Is Is' At At' fault.Write h f = tt
finds_fault Is Is' At At' (fault.Print e) h f = tt
finds_fault Is Is' At At' (fault.Exhausted by) h f = tt

-- so does a section that isn't there
pub finds_decoding : {T U : Type 0} (Is : T → Type 0) (Is' : U → Type 0) (At At' : ℕ → Type 0) (e : CertFault) → ComesTo {T = T} (Err e) Is At → ((place : ℕ) → At place → At' place)
    → Finds {T = U} (Err (fault_of_certificate e)) Is' At'
finds_decoding Is Is' At At' (cert.Form place) h f = f place h
finds_decoding Is Is' At At' cert.Read h f = tt
finds_decoding Is Is' At At' cert.Write h f = tt
finds_decoding Is Is' At At' (cert.OutOfMemory e) h f = tt

-- failures are counted from before the call too, where nothing failed till then

pub counts_from : (e : AnswerFault) (first old new : ℕ) → old ≡ first → CountsCheck {T = Unit {0}} (Err e) old new → CountsCheck {T = Unit {0}} (Err e) first new
counts_from e first old new same h = let C : ℕ → Type 0 = λ n. CountsCheck {T = Unit {0}} (Err e) n new in subst C same h
