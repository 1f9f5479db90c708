use Rattle.std.proofs.Common.{length, ◌-◌}
use Rattle.tt_stream.proofs.Filled.{IsFilled}
use Rattle.tt_stream.proofs.reads.read_full.Given as goal

abbrev pub invariant-loop-at : goal.invariant-loop-at
invariant-loop-at g l = IsFilled (g.R.Source.remaining l.fn.source) (g.R.Source.remaining l.source) (g.R.Source.failures l.fn.source) (g.R.Source.failures l.source) l.buf l.at

abbrev pub decreases-loop-at : goal.decreases-loop-at
decreases-loop-at g l = length l.initial.buf - l.at
