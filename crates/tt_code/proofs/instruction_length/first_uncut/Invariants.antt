use Rattle.std.proofs.Common.{ℕ, List, length}
use Rattle.tt_code.specs.Cut.{BeginsWith}
use Rattle.tt_code.proofs.instruction_length.first_uncut.Given as goal

abbrev pub invariant-loop-rest : goal.invariant-loop-rest
invariant-loop-rest l = (is : List (List ℕ)) × BeginsWith l.bytes is l.rest

abbrev pub decreases-loop-rest : goal.decreases-loop-rest
decreases-loop-rest l = length l.rest
