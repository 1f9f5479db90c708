use Rattle.std.proofs.Common.{◌≡◌, take}
use Rattle.std.specs.Prelude.{flat_map}
use Rattle.std.specs.Io.KnownBytes.{Appends}
use Rattle.hintcheck.specs.Scans.{shown_byte}
use Rattle.hintcheck.proofs.commands.shown_names.print_bytes.Given as goal

abbrev pub invariant-loop-byte : goal.invariant-loop-byte
invariant-loop-byte g l = record {
  written : Appends (g.O.Sink.contents l.fn.out) (g.O.Sink.contents l.out) (flat_map shown_byte (take l.byte-index l.name));
  failures : g.O.Sink.failures l.out ≡ g.O.Sink.failures l.fn.out;
}
