use Rattle.std.proofs.Common.{◌≡◌, ℕ, length, ◌<◌, ◌≤◌}
use Rattle.std.specs.Prelude.{reverse}
use Rattle.tt_abs.specs.Stacks.{cell_at, IsLeastCell}
use Rattle.tt_abs.proofs.stack.Stack.join_places.Given as goal

abbrev pub invariant-loop-place : goal.invariant-loop-place
invariant-loop-place l = record {
  end : l.place-end ≡ length l.fn.self;
  depth : length l.self ≡ length l.fn.self;
  done : (k : ℕ) → k < l.place → IsLeastCell (cell_at (reverse l.fn.self) k) (cell_at (reverse l.other) k) (cell_at (reverse l.self) k);
  rest : (k : ℕ) → l.place ≤ k → cell_at (reverse l.self) k ≡ cell_at (reverse l.fn.self) k;
}
