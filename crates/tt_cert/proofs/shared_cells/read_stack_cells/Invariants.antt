use Rattle.std.proofs.Common.{◌≡◌, ◌-◌, length, reverse}
use Rattle.tt_cert.specs.Representation.SharedCells.{IsStackKept}
use Rattle.tt_cert.proofs.Cells.{IsReadingCells}
use Rattle.tt_cert.proofs.shared_cells.read_stack_cells.Given as goal

abbrev pub invariant-cells : goal.invariant-cells
invariant-cells g l =
    IsReadingCells (g.S.Source.remaining l.fn.source) (g.S.Source.remaining l.source) l.fn.place (reverse l.state.stack) l.fn.count l.at
    (g.S.Source.failures l.fn.source) (g.S.Source.failures l.source)
    × IsStackKept l.last.text l.state × (l.state ≡ record l.fn.state { stack = l.state.stack })

abbrev pub decreases-cells : goal.decreases-cells
decreases-cells g l = l.fn.count - length l.state.stack
