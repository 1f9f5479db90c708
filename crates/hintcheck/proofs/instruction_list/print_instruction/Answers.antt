-- proofs/listing/print_instruction/Answers.antt
use Rattle.std.proofs.lemmas.Result.{on_ok_weaker}
use Rattle.hintcheck.proofs.ListingLemmas.{line_joined}
use Rattle.hintcheck.proofs.instruction_list.print_instruction.Goals as goal

pub returns-clause-written : goal.returns-clause-written
returns-clause-written g c =
    let contents = g.O.Sink.contents in
    on_ok_weaker c.writeln.result
    (line_joined c.args.detail c.args.offset c.args.instruction.now (contents c.args.out.now) (contents c.write.new.self) (contents c.print_numbers.new.out) (contents c.writeln.new.self)
    (rw (c.bytes.ensures, c.name_of-name.ensures) at c.in_ok-write.ensures.written) c.in_ok-print_numbers.ensures.written)
    c.writeln.ensures.written
