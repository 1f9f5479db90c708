use Rattle.tt_abs.proofs.FlowOfStates.{state_flow_laws}
use Rattle.tt_abs.proofs.laws.flow_laws.Goals as goal

pub returns : goal.returns
returns c = λ s functions setting short. state_flow_laws s setting short functions
