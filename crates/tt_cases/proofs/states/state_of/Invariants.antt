use Rattle.tt_abs.specs.States.{state_order}
use Rattle.tt_cases.proofs.states.state_of.Given as goal

abbrev pub invariant-loop : goal.invariant-loop
invariant-loop l = state_order.InRange l.state
