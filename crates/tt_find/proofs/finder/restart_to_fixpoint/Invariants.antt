use Rattle.tt_setting.specs.Budgets.{AreAlike, Spends}
use Rattle.tt_find.proofs.finder.restart_to_fixpoint.Given as goal

abbrev pub invariant-loop : goal.invariant-loop
invariant-loop l = Spends l.initial.budget l.budget × AreAlike l.initial.budget l.budget
