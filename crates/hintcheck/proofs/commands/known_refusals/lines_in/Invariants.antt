use Rattle.std.proofs.Common.{length}
use Rattle.hintcheck.proofs.commands.known_refusals.lines_in.Given as goal

abbrev pub decreases-loop-rest : goal.decreases-loop-rest
decreases-loop-rest l = length l.rest
