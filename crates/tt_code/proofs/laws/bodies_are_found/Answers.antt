use Rattle.tt_code.proofs.StructureLawsOfBodies.{body_iff_is, has_body, body_stands}
use Rattle.tt_code.proofs.laws.bodies_are_found.Goals as goal

pub returns-clause-found : goal.returns-clause-found
returns-clause-found c = body_iff_is

pub returns-clause-there : goal.returns-clause-there
returns-clause-there c = λ is at i each stands. has_body each stands

pub returns-clause-only : goal.returns-clause-only
returns-clause-only c = body_stands
