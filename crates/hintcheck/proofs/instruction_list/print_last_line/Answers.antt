-- proofs/listing/print_last_line/Answers.antt
use Rattle.hintcheck.specs.Listing.{last_line}
use Rattle.hintcheck.proofs.instruction_list.print_last_line.Goals as goal

pub returns-clause-written : goal.returns-clause-written
unfolding last_line
returns-clause-written g c = rw c.len-length.ensures.value at c.writeln.ensures.written
