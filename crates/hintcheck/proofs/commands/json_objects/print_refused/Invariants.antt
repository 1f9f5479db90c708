use Rattle.std.proofs.Common.{◌≡◌}
use Rattle.tt_stream.specs.Streams.{AppendsOnly}
use Rattle.hintcheck.proofs.commands.json_objects.print_refused.Given as goal

abbrev pub invariant-loop-one : goal.invariant-loop-one
invariant-loop-one g l = record {
  kept : AppendsOnly (g.O.Sink.contents l.fn.out) (g.O.Sink.contents l.out);
  failures : g.O.Sink.failures l.out ≡ g.O.Sink.failures l.fn.out;
}
