-- What a stop of the finder tells of the budget.
use Rattle.std.specs.Prelude.{Result, Ok, Err}
use Rattle.tt_setting.specs.Refusals.{IsOfNoBudget}
use Rattle.tt_setting.specs.Budgets.{AreAlike, RefusalTells}
use Rattle.tt_setting.specs.declared.budget.Budget.{Budget}
use Rattle.tt_find.specs.declared.stop.Stop.{Stop}
use Rattle.tt_find.specs.declared.stop.Stop.TheVariants.{Fault, Restart}

-- what stops the work that went from the one budget to the other tells whether it was exceeded
abbrev pub StopTells : Budget → Budget → Stop → Type 0
StopTells old new (Fault fault) = RefusalTells old new fault
StopTells old new Restart = AreAlike old new

-- the same of such work, whether it stops or comes to its end
abbrev pub StopTellsBudget : {T : Type 0} → Budget → Budget → Result T Stop → Type 0
StopTellsBudget old new (Ok done) = AreAlike old new
StopTellsBudget old new (Err stop) = StopTells old new stop

-- what stops the work isn't a budget
abbrev pub IsStopOfNoBudget : Stop → Type 0
IsStopOfNoBudget (Fault fault) = IsOfNoBudget fault
IsStopOfNoBudget Restart = Unit {0}
