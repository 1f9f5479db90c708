use Rattle.tt_symbolic.specs.Representation.Areas.{ForgetsPairs}
use Rattle.tt_symbolic.proofs.refined.forget_pairs.Given as goal

abbrev pub invariant-loop-pair : goal.invariant-loop-pair
invariant-loop-pair l = ForgetsPairs l.pair l.initial.state l.state
