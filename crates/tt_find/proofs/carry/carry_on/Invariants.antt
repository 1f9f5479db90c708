use Rattle.std.proofs.Common.{◌≡◌, ◌+◌, ◌-◌, ◌*◌, ◌≤◌}
use Rattle.tt_setting.specs.Settings.{setting_of}
use Rattle.tt_setting.specs.Budgets.{AreAlike, Spends, left_of}
use Rattle.tt_find.specs.Representation.Solvers.{HasRisen, IsOnWay, IsWalk, here_of, updates_of}
use Rattle.tt_find.proofs.carry.carry_on.Given as goal

abbrev pub invariant-loop-next : goal.invariant-loop-next
invariant-loop-next l = record {
  way : IsOnWay (setting_of l.setting) l.setting.start.now l.solver (here_of l.solver.builder l.walk l.at) l.walk.state;
  walk : IsWalk l.solver.builder l.walk;
  risen : HasRisen l.initial.solver l.solver;
  few : updates_of l.solver ≤ updates_of l.initial.solver + 2 * (left_of l.initial.budget - left_of l.budget);
  spends : Spends l.initial.budget l.budget;
  alike : AreAlike l.initial.budget l.budget;
  everywhere : l.solver.marks.everywhere ≡ l.initial.solver.marks.everywhere;
}

abbrev pub decreases-loop-next : goal.decreases-loop-next
decreases-loop-next l = 4294967296 - l.at
