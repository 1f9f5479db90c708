use Rattle.std.proofs.Common.{List, length}
use Rattle.tt_code.specs.Cut.{Instruction, BeginsWith}
use Rattle.tt_code.specs.Representation.Slots.{IsReading}
use Rattle.tt_code.proofs.program.read_all.Given as goal

abbrev pub invariant-loop-rest : goal.invariant-loop-rest
invariant-loop-rest l = (is : List Instruction) × BeginsWith l.bytes is l.rest × IsReading is l.reading

abbrev pub decreases-loop-rest : goal.decreases-loop-rest
decreases-loop-rest l = length l.rest
