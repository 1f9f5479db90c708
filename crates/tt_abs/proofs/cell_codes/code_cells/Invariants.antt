use Rattle.std.proofs.Common.{◌≡◌, ◌<◌, ℕ, take}
use Rattle.tt_abs.specs.CellOrders.{CellInRange}
use Rattle.tt_abs.specs.Representation.Codes.{cells_of}
use Rattle.tt_abs.specs.Stacks.{cell_at}
use Rattle.tt_abs.proofs.cell_codes.code_cells.Given as goal

abbrev pub invariant-loop-i : goal.invariant-loop-i
invariant-loop-i l = record {
  cells : cells_of (take l.i l.codes) ≡ take l.i l.cells;
  in_range : (k : ℕ) → k < l.i → CellInRange (cell_at l.cells k);
}
