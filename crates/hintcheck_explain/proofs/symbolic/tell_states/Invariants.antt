use Rattle.std.proofs.Common.{◌≡◌}
use Rattle.hintcheck_explain.proofs.symbolic.tell_states.Given as goal

abbrev pub invariant-loop-known : goal.invariant-loop-known
invariant-loop-known g l = g.O.Sink.failures l.out ≡ g.O.Sink.failures l.fn.out
