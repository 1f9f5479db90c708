use Rattle.std.proofs.Common.{◌≡◌, map, pos, take}
use Rattle.std.specs.Prelude.{flat_map}
use Rattle.std.specs.Io.KnownBytes.{Appends}
use Rattle.hintcheck.specs.Listing.{spaced}
use Rattle.hintcheck.proofs.pushed_numbers.print_bytes.Given as goal

abbrev pub invariant-loop-byte : goal.invariant-loop-byte
invariant-loop-byte g l = record {
  written : Appends (g.O.Sink.contents l.fn.out) (g.O.Sink.contents l.out) (flat_map spaced (map pos (take l.byte-index l.bytes)));
  failures : g.O.Sink.failures l.out ≡ g.O.Sink.failures l.fn.out;
}
