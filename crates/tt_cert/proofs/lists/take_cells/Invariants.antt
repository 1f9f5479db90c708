use Rattle.std.proofs.Common.{◌≡◌, ◌-◌, length, drop}
use Rattle.tt_cert.specs.Representation.Blocks.{IsTakingCells}
use Rattle.tt_cert.proofs.lists.take_cells.Given as goal

abbrev pub invariant-cells : goal.invariant-cells
invariant-cells l =
    IsTakingCells l.fn.cells.items l.cells.items l.fn.place l.at l.fn.bytes l.left × (l.left ≡ drop (length l.fn.bytes - length l.left) l.fn.bytes)

abbrev pub decreases-cells : goal.decreases-cells
decreases-cells l = length l.left
