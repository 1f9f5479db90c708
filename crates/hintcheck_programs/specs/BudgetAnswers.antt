-- What an answer within a budget tells of the budget, and of the font's first fault. (Own.)
use Rattle.std.specs.Prelude.{◌≡◌, ◌≢◌, ◌⊎◌, Some, None, alloc_error, Result, Ok, Err}
use Rattle.tt_setting.specs.declared.exhausted.Exhausted.{Exhausted}
use Rattle.tt_setting.specs.declared.exhausted.Exhausted.TheVariants as exhausted
use Rattle.tt_setting.specs.Budgets.{IsExceeded}
use Rattle.tt_setting.specs.declared.budget.Budget.{Budget}
use Rattle.tt_font.specs.Conditions.{Condition}
use Rattle.tt_font.specs.declared.fault.FontFault.TheVariants.{OutOfMemory}
use Rattle.hintcheck_report.specs.declared.answer_fault.AnswerFault.{AnswerFault}
use Rattle.hintcheck_report.specs.declared.answer_fault.AnswerFault.TheVariants as fault
use Rattle.hintcheck_programs.specs.BarePrograms.{IsMemory}

-- no more points were to be made than may be
abbrev pub IsNotExceeded : Budget → Type 0
IsNotExceeded budget = IsExceeded budget → ⊥

-- what ended the work: the budget only where it is exceeded, and memory only where it isn't
abbrev pub EndsWithin : Budget → Exhausted → Type 0
EndsWithin budget exhausted.Budget = IsExceeded budget
EndsWithin budget exhausted.Memory = IsNotExceeded budget

-- A verdict, or a fault of the font, comes only where the budget isn't exceeded. There are no other
-- faults than the font's, and that memory or the budget ran out: nothing is read but the font, and
-- nothing is written.
abbrev pub VerdictTellsBudget : {T : Type 0} → Budget → Result T AnswerFault → Type 0
VerdictTellsBudget budget (Ok done) = IsNotExceeded budget
VerdictTellsBudget budget (Err (fault.Font font)) = IsNotExceeded budget
VerdictTellsBudget budget (Err (fault.Exhausted by)) = EndsWithin budget by
VerdictTellsBudget budget (Err other) = ⊥

-- A fault of the font is the condition that holds on its bytes, unless memory ran out, and a
-- verdict means that none does; so does any other fault, but that a budget that is exceeded may be
-- told before the font is read.
abbrev pub VerdictTellsFontFault : {T : Type 0} → Condition → Result T AnswerFault → Type 0
VerdictTellsFontFault condition (Ok done) = condition ≡ None
VerdictTellsFontFault condition (Err (fault.Font font)) =
    font ≢ OutOfMemory alloc_error → condition ≡ Some font
VerdictTellsFontFault condition (Err (fault.Exhausted exhausted.Budget)) = Unit {0}
VerdictTellsFontFault condition (Err other) = condition ≡ None

-- The same of one glyph program: its fault is that of the `maxp` table, or that memory ran out
-- where the table has none. The table is read first, unless the budget was exceeded before.
abbrev pub BareTellsTableFault : {T : Type 0}
    → Budget → Condition → Result T AnswerFault → Type 0
BareTellsTableFault old condition (Ok done) = condition ≡ None
BareTellsTableFault old condition (Err (fault.Font font)) =
    (condition ≡ Some font) ⊎ (IsMemory font × (condition ≡ None))
BareTellsTableFault old condition (Err (fault.Exhausted exhausted.Budget)) =
    IsNotExceeded old → condition ≡ None
BareTellsTableFault old condition (Err other) = condition ≡ None
