-- proofs/reached/tell_contexts/Invariants.antt
use Rattle.std.proofs.Common.{◌≡◌}
use Rattle.hintcheck_explain.proofs.reached.tell_contexts.Given as goal

abbrev pub invariant-loop-shown : goal.invariant-loop-shown
invariant-loop-shown g l = g.O.Sink.failures l.out ≡ g.O.Sink.failures l.fn.out
