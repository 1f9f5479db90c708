use Rattle.std.proofs.Common.{◌-◌, length}
use Rattle.hintcheck.proofs.neighbours.first_after.Given as goal

abbrev pub decreases-loop-at : goal.decreases-loop-at
decreases-loop-at l = length l.program - l.at
