use Rattle.std.proofs.Common.{◌≡◌, drop}
use Rattle.tt_abs.specs.Transfers.{cells_on}
use Rattle.tt_abs.proofs.push.push_cells.Given as goal

abbrev pub invariant-loop-cell : goal.invariant-loop-cell
invariant-loop-cell l = cells_on l.fn.cells l.initial.stack ≡ cells_on (drop l.cell-index l.fn.cells) l.stack
