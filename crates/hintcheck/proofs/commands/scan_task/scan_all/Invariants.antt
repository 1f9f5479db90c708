use Rattle.std.proofs.Common.{◌≡◌, map, take}
use Rattle.std.specs.Prelude.{string_bytes}
use Rattle.hintcheck.specs.Representation.ScannedFiles.{ScansFiles}
use Rattle.hintcheck.proofs.commands.scan_task.scan_all.Given as goal

abbrev pub invariant-loop-font : goal.invariant-loop-font
invariant-loop-font g l = record {
  printed : ScansFiles l.plan (map (λ s. string_bytes s) (take l.font-index l.fonts)) l.greatest (g.O.Sink.contents l.fn.out) (g.O.Sink.contents l.out);
  failures : g.O.Sink.failures l.out ≡ g.O.Sink.failures l.fn.out;
}
