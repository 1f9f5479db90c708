-- The faults of a command: their exit statuses, how they are made of the faults of what it calls,
-- and what an answer tells of failed reads and writes.
use Rattle.std.specs.Prelude.{◌≡◌, ◌+◌, ℕ, List, Option, IfSome, Result, Ok, Err}
use Rattle.hintcheck.specs.declared.commands.faults.CommandFault.{CommandFault}
use Rattle.hintcheck.specs.declared.commands.faults.CommandFault.TheVariants as fault
use Rattle.hintcheck.specs.declared.commands.faults.Container.TheVariants.{Other}
use Rattle.hex.specs.declared.error.FromHexError.{FromHexError}
use Rattle.hex.specs.declared.error.FromHexError.TheVariants as words
use Rattle.hintcheck_report.specs.AnswerFaults.{fault_of_certificate}
use Rattle.hintcheck_report.specs.declared.answer_fault.AnswerFault.{AnswerFault}
use Rattle.hintcheck_report.specs.declared.answer_fault.AnswerFault.TheVariants as answer
use Rattle.tt_setting.specs.declared.cert_fault.CertFault.{CertFault}
use Rattle.tt_setting.specs.declared.exhausted.Exhausted.{Exhausted}
use Rattle.tt_setting.specs.declared.exhausted.Exhausted.TheVariants as exhausted
use Rattle.tt_stream.specs.declared.text.PrintFailed.{PrintFailed}
use Rattle.tt_stream.specs.declared.text.PrintFailed.TheVariants as failed
use Rattle.tt_stream.specs.declared.reads.ReadFault.{ReadFault}
use Rattle.tt_stream.specs.declared.reads.ReadFault.TheVariants as reading
use Rattle.hintcheck_words.specs.Requests.{Request, bare, check, explain, find, list, scan, upgrade, verdict}
use Rattle.tt_collection.specs.declared.fault.CollectionFault.{CollectionFault}
use Rattle.tt_collection.specs.declared.fault.CollectionFault.TheVariants as collection
use Rattle.tt_font.specs.declared.fault.FontFault.{FontFault}
use Rattle.tt_font.specs.declared.fault.FontFault.TheVariants as font

-- the exit status of a font's fault: 3 where memory ran out, and otherwise 2
abbrev pub font_status : FontFault → ℕ
font_status (font.OutOfMemory error) = 3
font_status other = 2

-- the exit status of a collection's fault: 3 where memory ran out, and otherwise 2
abbrev pub collection_status : CollectionFault → ℕ
collection_status (collection.OutOfMemory error) = 3
collection_status other = 2

-- the exit status: 3 where memory or the budget ran out, and otherwise 2
abbrev pub status_of : CommandFault → ℕ
status_of fault.OutOfMemory = 3
status_of fault.Budget = 3
status_of (fault.Font font container) = font_status font
status_of (fault.Collection f) = collection_status f
status_of other = 2

-- the fault is no failed write
abbrev pub IsNoWriteFault : CommandFault → Type 0
IsNoWriteFault fault.Write = ⊥
IsNoWriteFault other = Unit {0}

-- the fault of a text that isn't printed
abbrev pub fault_of_print : PrintFailed → CommandFault
fault_of_print failed.Write = fault.Write
fault_of_print failed.Format = fault.Text

-- the fault of what isn't read to its end
abbrev pub fault_of_reading : ReadFault → CommandFault
fault_of_reading reading.Read = fault.Read
fault_of_reading (reading.OutOfMemory error) = fault.OutOfMemory

-- what ended the work without an answer
abbrev pub fault_of_end : Exhausted → CommandFault
fault_of_end exhausted.Memory = fault.OutOfMemory
fault_of_end exhausted.Budget = fault.Budget

-- the fault of a font on which there is no answer; what is written there is a file
abbrev pub fault_of_answer : AnswerFault → CommandFault
fault_of_answer (answer.Font font) = fault.Font font Other
fault_of_answer (answer.Form place) = fault.Form place
fault_of_answer answer.Read = fault.Read
fault_of_answer answer.Write = fault.File
fault_of_answer (answer.Print failed) = fault_of_print failed
fault_of_answer (answer.Exhausted by) = fault_of_end by

-- the fault of a certificate that isn't upgraded
abbrev pub fault_of_upgrade : CertFault → CommandFault
fault_of_upgrade certificate = fault_of_answer (fault_of_certificate certificate)

-- the fault of a word of hexadecimal digits, which is `bad` where it spells no bytes
abbrev pub fault_of_word : FromHexError → CommandFault → CommandFault
fault_of_word words.OutOfMemory bad = fault.OutOfMemory
fault_of_word other bad = bad

-- the count of failed writes goes up by one exactly where the fault is a failed write
abbrev pub TellsFailure : {T : Type 0} → Result T CommandFault → ℕ → ℕ → Type 0
TellsFailure (Ok done) old new = new ≡ old
TellsFailure (Err fault.Write) old new = new ≡ old + 1
TellsFailure (Err other) old new = new ≡ old

-- these are the bytes that were left, where those are known
abbrev pub HasAll : Option (List ℕ) → List ℕ → Type 0
HasAll left bytes = IfSome left (λ known. bytes ≡ known)

-- one verdict is asked for, and not a scan, an explanation, a listing or an upgrade
abbrev pub IsForVerdict : Request → Type 0
IsForVerdict (bare maxp cvt points contours program profile) = Unit {0}
IsForVerdict (verdict font options) = Unit {0}
IsForVerdict (scan fonts options texts) = ⊥
IsForVerdict (explain font program place options) = ⊥
IsForVerdict (find font certificate options) = Unit {0}
IsForVerdict (check font certificate options) = Unit {0}
IsForVerdict (list font program options) = ⊥
IsForVerdict (upgrade old new max_bytes) = ⊥
