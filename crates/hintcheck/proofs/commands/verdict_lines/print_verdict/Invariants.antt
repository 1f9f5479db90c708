use Rattle.std.proofs.Common.{◌≡◌, take}
use Rattle.std.specs.Io.KnownBytes.{Appends}
use Rattle.hintcheck.specs.Texts.{refused_lines}
use Rattle.hintcheck.proofs.commands.verdict_lines.print_verdict.Given as goal

abbrev pub invariant-loop-refused : goal.invariant-loop-refused
invariant-loop-refused g l = record {
  written : Appends (g.O.Sink.contents l.fn.out) (g.O.Sink.contents l.out) (refused_lines (take l.refused-index l.refused-items));
  failures : g.O.Sink.failures l.out ≡ g.O.Sink.failures l.fn.out;
}
