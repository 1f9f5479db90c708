use Rattle.std.proofs.Common.{◌-◌, ◌≡◌}
use Rattle.tt_setting.specs.Budgets.{AreAlike, Spends}
use Rattle.hintcheck_needs.specs.Needs.{IsEnoughFrom}
use Rattle.hintcheck_needs.proofs.search.range_of.Given as goal

abbrev pub invariant-loop-range : goal.invariant-loop-range
invariant-loop-range l = record {
  kept : l.font ≡ l.fn.font;
  found : IsEnoughFrom l.aim.request l.fn.font l.bound l.aim.refused.now
      l.range.least l.range.enough;
  spends : Spends l.fn.points l.points;
  alike : AreAlike l.fn.points l.points;
}

abbrev pub decreases-loop-range : goal.decreases-loop-range
decreases-loop-range l = l.range.enough - l.range.least
