use Rattle.tt_abs.specs.States.{state_order}
use Rattle.tt_test_fixtures.proofs.families.state_of.Given as goal

abbrev pub invariant-loop-number : goal.invariant-loop-number
invariant-loop-number l = state_order.InRange l.state
