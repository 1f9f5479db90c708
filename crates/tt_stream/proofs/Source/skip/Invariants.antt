use Rattle.tt_stream.proofs.Skipped.{IsSkipped}
use Rattle.tt_stream.proofs.Source.skip.Given as goal

abbrev pub invariant-loop-left : goal.invariant-loop-left
invariant-loop-left g l =
    IsSkipped (g.Self.Source.remaining l.fn.self) (g.Self.Source.remaining l.self) (g.Self.Source.read_ahead l.fn.self) (g.Self.Source.read_ahead l.self)
    (g.Self.Source.failures l.fn.self) (g.Self.Source.failures l.self) l.count l.left

abbrev pub decreases-loop-left : goal.decreases-loop-left
decreases-loop-left g l = l.left
