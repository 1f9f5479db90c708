use Rattle.hintcheck_c.specs.Representation.HintedSets.{TellBelow}
use Rattle.hintcheck_c.proofs.hinted.tell.Given as goal

abbrev pub invariant-loop-place : goal.invariant-loop-place
invariant-loop-place l = TellBelow l.set l.entries l.place
