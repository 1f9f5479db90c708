use Rattle.std.proofs.Common.{◌≡◌, ℕ, length, ◌<◌}
use Rattle.std.specs.Prelude.{reverse}
use Rattle.tt_abs.specs.CellOrders.{CellBelow}
use Rattle.tt_abs.specs.Stacks.{cell_at}
use Rattle.tt_abs.proofs.stack.Stack.places_below.Given as goal

abbrev pub invariant-loop-place : goal.invariant-loop-place
invariant-loop-place l = record {
  end : l.place-end ≡ length l.self;
  cells : (k : ℕ) → k < l.place → CellBelow (cell_at (reverse l.self) k) (cell_at (reverse l.other) k);
}
