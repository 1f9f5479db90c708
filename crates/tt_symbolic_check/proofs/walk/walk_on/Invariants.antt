use Rattle.tt_symbolic_check.specs.Walking.{Reaches}
use Rattle.tt_symbolic_check.proofs.walk.walk_on.Given as goal

abbrev pub invariant-loop-step : goal.invariant-loop-step
invariant-loop-step g l = Reaches l.setting l.kept l.initial.walk l.walk (λ final. Unit {0})
