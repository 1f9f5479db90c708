use Rattle.std.proofs.Common.{◌≡◌, ℕ, length, ◌<◌, ◌↔◌, get_or}
use Rattle.std.specs.Prelude.{IsTrue}
use Rattle.tt_abs.specs.CellOrders.{CellBelow}
use Rattle.tt_abs.specs.Representation.Codes.{cell_of_code}
use Rattle.tt_abs.proofs.cell_codes.are_below.Given as goal

abbrev pub invariant-loop-i : goal.invariant-loop-i
invariant-loop-i l = record {
  depth : length l.mine ≡ length l.theirs;
  cells : IsTrue l.all ↔ ((k : ℕ) → k < l.i → CellBelow (cell_of_code (get_or l.mine k 0)) (cell_of_code (get_or l.theirs k 0)));
}
