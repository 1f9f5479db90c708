use Rattle.std.proofs.Common.{◌≡◌, ℕ, length, ◌<◌}
use Rattle.tt_abs.specs.Stacks.{cell_at}
use Rattle.tt_abs.proofs.stack.cells_equal.Given as goal

abbrev pub invariant-loop-i : goal.invariant-loop-i
invariant-loop-i l = record {
  depth : length l.mine ≡ length l.theirs;
  cells : (k : ℕ) → k < l.i → cell_at l.mine k ≡ cell_at l.theirs k;
}
