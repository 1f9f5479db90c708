use Rattle.hintcheck.proofs.neighbours.last_before.Given as goal

abbrev pub decreases-loop-at : goal.decreases-loop-at
decreases-loop-at l = l.at
