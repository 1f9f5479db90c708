use Rattle.tt_symbolic_check.specs.Walking.{Begins}
use Rattle.tt_symbolic_check.proofs.walk.begin.Given as goal

abbrev pub invariant-loop-i : goal.invariant-loop-i
invariant-loop-i l = Begins l.setting l.kept l.i l.starts l.walk
