-- proofs/listing/print_program/Answers.antt
use Rattle.std.proofs.Common.{◌∙◌, refl, sym}
use Rattle.std.proofs.KnownBytes.{Appends-trans}
use Rattle.std.proofs.lemmas.Result.{on_ok_weaker}
use Rattle.hintcheck.specs.Listing.{last_line, lines_of}
use Rattle.hintcheck.proofs.ListingLemmas.{all_listed, next_listed, none_listed}
use Rattle.hintcheck.proofs.instruction_list.print_program.Goals as goal

pub loop-instruction-init : goal.loop-instruction-init
loop-instruction-init g c = record { listed = none_listed c.args.detail c.args.program.now (g.O.Sink.contents c.args.out.now); failures = refl }

pub loop-instruction-preserved : goal.loop-instruction-preserved
loop-instruction-preserved g c = record {
  listed = rw c.len-offset.ensures (next_listed c.args.detail c.args.program.now c.loop-instruction.offset c.in-Some.instruction (g.O.Sink.contents c.args.out.now)
      (g.O.Sink.contents c.loop-instruction.out) (g.O.Sink.contents c.print_instruction.new.out) c.requires c.loop-instruction.invariant.listed (sym c.in-Some.ensures.value)
      c.in-Some.ensures.within c.in_ok-print_instruction.ensures.written);
  failures = c.in_ok-print_instruction.ensures.failures ∙ c.loop-instruction.invariant.failures;
}

pub returns-clause-written : goal.returns-clause-written
returns-clause-written g c =
    let is = c.args.program.now in
    let old = g.O.Sink.contents c.args.out.now in
    let mid = g.O.Sink.contents c.loop-instruction.out in
    let lines = all_listed c.args.detail is c.loop-instruction.offset old mid c.loop-instruction.invariant.listed c.in_default.ensures.none in
    on_ok_weaker c.print_last_line.result (Appends-trans old mid (g.O.Sink.contents c.print_last_line.new.out) (lines_of c.args.detail 0 is) (last_line is) lines) c.print_last_line.ensures.written
