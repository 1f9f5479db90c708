use Rattle.std.proofs.Common.{◌≤◌, ◌-◌, take}
use Rattle.tt_cert.proofs.CutCells.{IsCut}
use Rattle.tt_cert.proofs.lists.cut_cells.Given as goal

abbrev pub invariant-cells : goal.invariant-cells
invariant-cells l = IsCut l.fn.place l.fn.start l.fn.count l.fn.bytes l.left (take l.taken l.ends) (take l.taken l.cells) × (l.taken ≤ l.most)

abbrev pub decreases-cells : goal.decreases-cells
decreases-cells l = l.most - l.taken
