use Rattle.std.proofs.Common.{◌≡◌, ◌↔◌, length, ℕ, ◌<◌, get_or}
use Rattle.tt_setting.proofs.sorted_map.are_equal.Given as goal

abbrev pub invariant-loop-i : goal.invariant-loop-i
invariant-loop-i l = record {
  depth : length l.mine ≡ length l.theirs;
  none : (l.difference ≡ 0) ↔ ((k : ℕ) → k < l.i → get_or l.mine k (0, 0) ≡ get_or l.theirs k (0, 0));
}
