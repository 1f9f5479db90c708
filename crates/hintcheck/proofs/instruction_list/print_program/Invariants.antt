-- proofs/listing/print_program/Invariants.antt
use Rattle.std.proofs.Common.{◌≡◌, ◌-◌}
use Rattle.tt_code.specs.Cut.{size}
use Rattle.hintcheck.specs.Listing.{IsListedBefore}
use Rattle.hintcheck.proofs.instruction_list.print_program.Given as goal

abbrev pub invariant-loop-instruction : goal.invariant-loop-instruction
invariant-loop-instruction g l = record {
  listed : IsListedBefore l.detail l.program l.offset (g.O.Sink.contents l.fn.out) (g.O.Sink.contents l.out);
  failures : g.O.Sink.failures l.out ≡ g.O.Sink.failures l.fn.out;
}

abbrev pub decreases-loop-instruction : goal.decreases-loop-instruction
decreases-loop-instruction g l = size l.program - l.offset
