use Rattle.std.proofs.Common.{◌≡◌}
use Rattle.hintcheck.specs.Representation.ScannedFiles.{ScansFaces}
use Rattle.hintcheck.proofs.commands.scan_task.scan_faces.Given as goal

abbrev pub invariant-loop-number : goal.invariant-loop-number
invariant-loop-number g l = record {
  printed : ScansFaces l.plan l.name l.number l.greatest (g.O.Sink.contents l.fn.out) (g.O.Sink.contents l.out);
  failures : g.O.Sink.failures l.out ≡ g.O.Sink.failures l.fn.out;
}
