use Rattle.std.proofs.Common.{◌≡◌, ◌+◌, ◌*◌, ◌-◌, ◌≤◌, length}
use Rattle.tt_setting.specs.Settings.{setting_of}
use Rattle.tt_abs.specs.StateFlow.{height_of}
use Rattle.tt_setting.specs.Budgets.{AreAlike, Spends, left_of}
use Rattle.tt_find.specs.Representation.Solvers.{IsWalk, IsWhole, updates_of}
use Rattle.tt_find.proofs.finder.run_to_fixpoint.Given as goal

abbrev pub invariant-loop-context : goal.invariant-loop-context
invariant-loop-context l = record {
  whole : IsWhole (setting_of l.setting) l.setting.start.now l.solver;
  walk : IsWalk l.solver.builder l.walk;
  few : updates_of l.solver ≤ 1 + 2 * (left_of l.initial.budget - left_of l.budget);
  spends : Spends l.initial.budget l.budget;
  alike : AreAlike l.initial.budget l.budget;
  everywhere : l.solver.marks.everywhere ≡ l.initial.solver.marks.everywhere;
}

abbrev pub decreases-loop-context : goal.decreases-loop-context
decreases-loop-context l = 2 * (4294967295 * (1 + height_of (setting_of l.setting)) - l.solver.changes) + length l.solver.worklist
