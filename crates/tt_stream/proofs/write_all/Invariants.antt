use Rattle.std.proofs.Common.{length, ◌-◌}
use Rattle.tt_stream.proofs.Written.{IsWritten}
use Rattle.tt_stream.proofs.write_all.Given as goal

abbrev pub invariant-loop-at : goal.invariant-loop-at
invariant-loop-at g l = IsWritten (g.W.Sink.contents l.fn.sink) (g.W.Sink.contents l.sink) (g.W.Sink.failures l.fn.sink) (g.W.Sink.failures l.sink) l.bytes l.at

abbrev pub decreases-loop-at : goal.decreases-loop-at
decreases-loop-at g l = length l.bytes - l.at
