use Rattle.std.proofs.Common.{◌≡◌, ◌++◌, ◌+◌, ◌-◌, ◌<◌, ◌≤◌, ℕ, length, take}
use Rattle.smallvec.specs.SmallVec.{small_vec_len}
use Rattle.tt_abs.specs.CellOrders.{CellInRange}
use Rattle.tt_abs.specs.Representation.Codes.{cells_of}
use Rattle.tt_abs.specs.Stacks.{cell_at}
use Rattle.tt_abs.proofs.cell_codes.append_codes.Given as goal

abbrev pub invariant-blocks-2 : goal.invariant-blocks-2
invariant-blocks-2 l = record {
  few : l.done ≤ length l.cells;
  cells : cells_of l.codes.items ≡ cells_of l.fn.codes.items ++ take l.done l.cells;
  len : small_vec_len l.codes ≡ small_vec_len l.fn.codes + l.done;
  room : small_vec_len l.fn.codes + length l.cells ≤ l.codes.capacity;
  in_range : (k : ℕ) → k < l.done → CellInRange (cell_at l.cells k);
}

abbrev pub decreases-blocks-2 : goal.decreases-blocks-2
decreases-blocks-2 l = length l.cells - l.done
