-- Why a call gives no answer on a font. (Own.)
use Rattle.std.specs.Prelude.{alloc_error}
use Rattle.tt_setting.specs.declared.exhausted.Exhausted.TheVariants as exhausted
use Rattle.tt_setting.specs.declared.cert_fault.CertFault.{CertFault}
use Rattle.tt_setting.specs.declared.cert_fault.CertFault.TheVariants as cert
use Rattle.tt_font.specs.declared.fault.FontFault.{FontFault}
use Rattle.tt_font.specs.declared.fault.FontFault.TheVariants.{OutOfMemory}
use Rattle.hintcheck_report.specs.declared.answer_fault.AnswerFault.{AnswerFault}
use Rattle.hintcheck_report.specs.declared.answer_fault.AnswerFault.TheVariants as fault

-- the fault of a certificate that can't be read or written
abbrev pub fault_of_certificate : CertFault → AnswerFault
fault_of_certificate (cert.Form place) = fault.Form place
fault_of_certificate cert.Read = fault.Read
fault_of_certificate cert.Write = fault.Write
fault_of_certificate (cert.OutOfMemory error) = fault.Exhausted exhausted.Memory

-- the fault of work with the greatest budget, whose end is told as out of memory
abbrev pub unlimited : AnswerFault → AnswerFault
unlimited (fault.Exhausted by) = fault.Exhausted exhausted.Memory
unlimited other = other

-- the font's own fault, where any other is told as out of memory
abbrev pub font_fault_of : AnswerFault → FontFault
font_fault_of (fault.Font font) = font
font_fault_of other = OutOfMemory alloc_error
