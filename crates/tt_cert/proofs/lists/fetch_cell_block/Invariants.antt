use Rattle.std.proofs.Common.{◌-◌}
use Rattle.tt_cert.proofs.Cells.{IsCellBlock}
use Rattle.tt_cert.proofs.lists.fetch_cell_block.Given as goal

abbrev pub invariant-fill : goal.invariant-fill
invariant-fill g l =
    IsCellBlock (g.S.Source.remaining l.fn.source) (g.S.Source.remaining l.source) l.fn.cells.items l.cells.items l.fn.place l.fn.count l.wanted l.filled l.taken l.bytes
    (g.S.Source.failures l.fn.source) (g.S.Source.failures l.source)

abbrev pub decreases-fill : goal.decreases-fill
decreases-fill g l = l.wanted - l.filled
