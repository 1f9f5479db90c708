-- What an answer of the check by a certificate, or of the search for one, tells of the budget, and of
-- the font's first fault. (Own.)
use Rattle.std.specs.Prelude.{◌≡◌, ◌≢◌, Some, None, alloc_error, Result, Ok, Err}
use Rattle.tt_setting.specs.declared.exhausted.Exhausted.{Exhausted}
use Rattle.tt_setting.specs.Budgets.{AreAlike, EndTells}
use Rattle.tt_setting.specs.declared.budget.Budget.{Budget}
use Rattle.tt_font.specs.Conditions.{Condition}
use Rattle.tt_font.specs.declared.fault.FontFault.TheVariants.{OutOfMemory}
use Rattle.hintcheck_report.specs.declared.answer_fault.AnswerFault.{AnswerFault}
use Rattle.hintcheck_report.specs.declared.answer_fault.AnswerFault.TheVariants as fault
use Rattle.hintcheck_programs.specs.BudgetAnswers.{EndsWithin, IsNotExceeded}

-- The same of the check by a certificate, and of one program that is found, where other faults may
-- come first.
abbrev pub AnswerTellsBudget : {T : Type 0} → Budget → Result T AnswerFault → Type 0
AnswerTellsBudget budget (Ok done) = IsNotExceeded budget
AnswerTellsBudget budget (Err (fault.Exhausted by)) = EndsWithin budget by
AnswerTellsBudget budget (Err other) = Unit {0}

-- The same of the search for a certificate. A verdict with its certificate is right in any case.
abbrev pub FindTellsBudget : {T : Type 0} → Budget → Result T AnswerFault → Type 0
FindTellsBudget budget (Ok done) = Unit {0}
FindTellsBudget budget (Err (fault.Exhausted by)) = EndsWithin budget by
FindTellsBudget budget (Err other) = Unit {0}

-- What work that went from the one budget to the other tells of it: an answer, or that memory ran
-- out, that it wasn't exceeded in the work, and the fault of the budget that it is.
abbrev pub AnswerTells : {T : Type 0} → Budget → Budget → Result T AnswerFault → Type 0
AnswerTells old new (Ok done) = AreAlike old new
AnswerTells old new (Err (fault.Exhausted by)) = EndTells old new by
AnswerTells old new (Err other) = Unit {0}

-- The same of the check by a certificate, and of the search for one, which read the font first.
abbrev pub AnswerTellsFontFault : {T : Type 0} → Condition → Result T AnswerFault → Type 0
AnswerTellsFontFault condition (Ok done) = condition ≡ None
AnswerTellsFontFault condition (Err (fault.Font font)) =
    font ≢ OutOfMemory alloc_error → condition ≡ Some font
AnswerTellsFontFault condition (Err other) = condition ≡ None

-- the fault isn't the font's
abbrev pub IsOutsideFont : AnswerFault → Type 0
IsOutsideFont (fault.Font font) = ⊥
IsOutsideFont other = Unit {0}
