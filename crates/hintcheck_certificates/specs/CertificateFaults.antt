-- Why a font isn't checked by a certificate, or has none written, and what that tells of failed
-- reads and writes.
use Rattle.std.specs.Prelude.{◌≡◌, ◌≢◌, ◌+◌, ℕ, List, [], Option, Some, None, alloc_error, Result, Ok, Err}
use Rattle.tt_setting.specs.declared.exhausted.Exhausted.TheVariants as exhausted
use Rattle.tt_font.specs.Conditions.{Condition}
use Rattle.tt_font.specs.declared.fault.FontFault.TheVariants.{OutOfMemory}
use Rattle.tt_setting.specs.declared.cert_fault.CertFault.{CertFault}
use Rattle.tt_setting.specs.declared.cert_fault.CertFault.TheVariants as cert
use Rattle.hintcheck_report.specs.declared.answer_fault.AnswerFault.{AnswerFault}
use Rattle.hintcheck_report.specs.declared.answer_fault.AnswerFault.TheVariants as fault
use Rattle.hintcheck_programs.specs.Verdicts.{Judgement}

-- What holds of an answer, or of the place that a fault of form names; a failed read or write and
-- out of memory are unspecified.
abbrev pub ComesTo : {T : Type 0} → Result T CertFault → (T → Type 0) → (ℕ → Type 0) → Type 0
ComesTo (Ok x) Is At = Is x
ComesTo (Err (cert.Form place)) Is At = At place
ComesTo (Err cert.Read) Is At = Unit {0}
ComesTo (Err cert.Write) Is At = Unit {0}
ComesTo (Err (cert.OutOfMemory error)) Is At = Unit {0}

-- the count of failed reads goes up by one exactly where the fault is a failed read; nothing is
-- written or printed
abbrev pub CountsCheck : {T : Type 0} → Result T AnswerFault → ℕ → ℕ → Type 0
CountsCheck (Ok done) old new = new ≡ old
CountsCheck (Err fault.Read) old new = new ≡ old + 1
CountsCheck (Err fault.Write) old new = ⊥
CountsCheck (Err (fault.Print failed)) old new = ⊥
CountsCheck (Err other) old new = new ≡ old

-- the count of failed writes goes up by one exactly where the fault is a failed write; no
-- certificate is read, and nothing is printed
abbrev pub CountsFind : {T : Type 0} → Result T AnswerFault → ℕ → ℕ → Type 0
CountsFind (Ok done) old new = new ≡ old
CountsFind (Err fault.Write) old new = new ≡ old + 1
CountsFind (Err (fault.Font font)) old new = new ≡ old
CountsFind (Err (fault.Exhausted by)) old new = new ≡ old
CountsFind (Err other) old new = ⊥

-- The check of a font, and the search for its certificate, test the condition on its bytes: a fault
-- of the font's is the one that holds, unless memory ran out, and any other answer means that none
-- does. There is no budget.
abbrev pub TellsFontFault : {T : Type 0} → Condition → Result T AnswerFault → Type 0
TellsFontFault condition (Ok done) = condition ≡ None
TellsFontFault condition (Err (fault.Font font)) =
    font ≢ OutOfMemory alloc_error → condition ≡ Some font
TellsFontFault condition (Err (fault.Exhausted exhausted.Budget)) = ⊥
TellsFontFault condition (Err other) = condition ≡ None

-- the fault is neither the font's nor a budget's
abbrev pub IsOutsideFontAndBudget : AnswerFault → Type 0
IsOutsideFontAndBudget (fault.Font font) = ⊥
IsOutsideFontAndBudget (fault.Exhausted exhausted.Budget) = ⊥
IsOutsideFontAndBudget other = Unit {0}

-- where the verdict names a refused program, nothing was written
abbrev pub WritesNothing : Option (List ℕ) → Option (List ℕ) → Judgement → Type 0
WritesNothing old new judgement = judgement.refused ≢ [] → new ≡ old
