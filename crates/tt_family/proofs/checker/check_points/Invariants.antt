use Rattle.std.proofs.Common.{length, ◌+◌, ◌-◌, ◌*◌, ◌≤◌}
use Rattle.tt_setting.specs.Settings.{setting_of}
use Rattle.tt_setting.specs.Budgets.{AreAlike, Spends, left_of}
use Rattle.tt_family.specs.Representation.Cursors.{AreToCome, IsOnWay, IsWalk, to_come}
use Rattle.tt_family.proofs.Walking.{left_from}
use Rattle.tt_family.proofs.checker.check_points.Given as goal

abbrev pub invariant-loop-offset : goal.invariant-loop-offset
invariant-loop-offset l = record {
  counted : length l.certificate.states ≤ length (to_come l.walk.next l.states) + (left_of l.initial.budget - left_of l.budget);
  walk : IsWalk l.certificate l.walk;
  to_come : AreToCome l.certificate l.walk.next l.states;
  spends : Spends l.initial.budget l.budget;
  alike : AreAlike l.initial.budget l.budget;
  way : IsOnWay (setting_of l.setting) l.listing l.certificate l.walk l.states;
}

abbrev pub decreases-loop-offset : goal.decreases-loop-offset
decreases-loop-offset l = length (to_come l.walk.next l.states) * 4294967297 + left_from l.walk.carried
