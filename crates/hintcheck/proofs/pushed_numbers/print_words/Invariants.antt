use Rattle.std.proofs.Common.{◌≡◌, ◌++◌, ℕ, List, length}
use Rattle.std.specs.Prelude.{flat_map}
use Rattle.std.specs.Io.KnownBytes.{Appends}
use Rattle.tt_code.specs.Computing.{words}
use Rattle.hintcheck.specs.Listing.{spaced}
use Rattle.hintcheck.proofs.pushed_numbers.print_words.Given as goal

abbrev pub invariant-loop-rest : goal.invariant-loop-rest
invariant-loop-rest g l = record {
  written : (done : List ℕ) × (done ++ flat_map spaced (words l.rest) ≡ flat_map spaced (words l.bytes)) × Appends (g.O.Sink.contents l.fn.out) (g.O.Sink.contents l.out) done;
  failures : g.O.Sink.failures l.out ≡ g.O.Sink.failures l.fn.out;
}

abbrev pub decreases-loop-rest : goal.decreases-loop-rest
decreases-loop-rest g l = length l.rest
