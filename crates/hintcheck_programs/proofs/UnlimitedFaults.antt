-- The fault of work with the greatest budget, whose end is told as out of memory.
use Rattle.std.specs.Prelude.{◌≡◌, ◌≢◌, ◌⊎◌, None, Some, Err, alloc_error}
use Rattle.std.proofs.Common.{inr, refl}
use Rattle.tt_setting.specs.declared.exhausted.Exhausted.TheVariants as exhausted
use Rattle.tt_setting.specs.declared.budget.Budget.{Budget}
use Rattle.tt_font.specs.Conditions.{Condition}
use Rattle.tt_font.specs.declared.fault.FontFault.TheVariants.{OutOfMemory}
use Rattle.hintcheck_report.specs.AnswerFaults.{font_fault_of}
use Rattle.hintcheck_report.specs.declared.answer_fault.AnswerFault.{AnswerFault}
use Rattle.hintcheck_report.specs.declared.answer_fault.AnswerFault.TheVariants as fault
use Rattle.hintcheck_programs.specs.BarePrograms.{IsMemory}
use Rattle.hintcheck_programs.specs.BudgetAnswers.{BareTellsTableFault, IsNotExceeded, VerdictTellsFontFault}

-- The font's own fault, where any other is told as out of memory.

pub font_fault_told : (condition : Condition) (e : AnswerFault) → VerdictTellsFontFault {T = Unit {0}} condition (Err e) → font_fault_of e ≢ OutOfMemory alloc_error → condition ≡ Some (font_fault_of e)
font_fault_told condition (fault.Font font) told = told
font_fault_told condition (fault.Exhausted by) told = λ other. absurd (other refl)
font_fault_told condition (fault.Form place) told = λ other. absurd (other refl)
font_fault_told condition fault.Read told = λ other. absurd (other refl)
font_fault_told condition fault.Write told = λ other. absurd (other refl)
font_fault_told condition (fault.Print failed) told = λ other. absurd (other refl)

pub table_fault_told : (old : Budget) (condition : Condition) (e : AnswerFault) → IsNotExceeded old → BareTellsTableFault {T = Unit {0}} old condition (Err e)
    → (condition ≡ Some (font_fault_of e)) ⊎ (IsMemory (font_fault_of e) × (condition ≡ None))
table_fault_told old condition (fault.Font font) within told = told
table_fault_told old condition (fault.Exhausted exhausted.Budget) within told = inr (tt, told within)
table_fault_told old condition (fault.Exhausted exhausted.Memory) within told = inr (tt, told)
table_fault_told old condition (fault.Form place) within told = inr (tt, told)
table_fault_told old condition fault.Read within told = inr (tt, told)
table_fault_told old condition fault.Write within told = inr (tt, told)
table_fault_told old condition (fault.Print failed) within told = inr (tt, told)
