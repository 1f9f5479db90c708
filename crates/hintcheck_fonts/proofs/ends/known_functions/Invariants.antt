use Rattle.std.proofs.Common.{take}
use Rattle.std.specs.List.{All}
use Rattle.tt_setting.specs.Functions.{CoversFunctions}
use Rattle.tt_symbolic_state.specs.declared.state.State.{State}
use Rattle.hintcheck_fonts.proofs.ends.known_functions.Given as goal

abbrev pub invariant-loop-state : goal.invariant-loop-state
invariant-loop-state l = All (λ (a : State). CoversFunctions l.known a.functions) (take l.state-index l.states)
