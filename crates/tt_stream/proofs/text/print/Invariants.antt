use Rattle.std.proofs.Common.{◌-◌, ◌^◌}
use Rattle.tt_stream.proofs.Written.{IsPrinted}
use Rattle.tt_stream.proofs.text.print.Given as goal

abbrev pub invariant-loop-next : goal.invariant-loop-next
invariant-loop-next g l = IsPrinted (g.D.Display.output l.value) (g.W.Sink.contents l.fn.sink) (g.W.Sink.contents l.sink) (g.W.Sink.failures l.fn.sink) (g.W.Sink.failures l.sink) l.skip

abbrev pub decreases-loop-next : goal.decreases-loop-next
decreases-loop-next g l = 2 ^ 64 - l.skip
