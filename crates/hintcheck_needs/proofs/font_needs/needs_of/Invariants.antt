use Rattle.std.proofs.Common.{◌≡◌, map, take}
use Rattle.std.specs.List.{All}
use Rattle.tt_setting.specs.Budgets.{AreAlike, Spends}
use Rattle.hintcheck_needs.specs.Needs.{IsNeed, with_greatest}
use Rattle.hintcheck_needs.proofs.font_needs.needs_of.Given as goal

abbrev pub invariant-loop-told : goal.invariant-loop-told
invariant-loop-told l = record {
  raised : l.font ≡ with_greatest l.fn.font;
  told : map (λ need. need.bound) l.needs.items ≡ take l.told l.bounds;
  each : All (λ need. IsNeed l.fn.request l.fn.font need) l.needs.items;
  spends : Spends l.fn.points l.points;
  alike : AreAlike l.fn.points l.points;
}
