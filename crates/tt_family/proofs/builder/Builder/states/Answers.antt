use Rattle.tt_family.proofs.Putting.{found_of}
use Rattle.tt_family.proofs.builder.Builder.states.Goals as goal

pub returns-clause-found : goal.returns-clause-found
returns-clause-found c = found_of _ _ _ _ c.self.view_is c.self.invariant c.iter.ensures.found
