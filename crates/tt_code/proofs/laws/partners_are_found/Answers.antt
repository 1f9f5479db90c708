use Rattle.tt_code.proofs.StructureLaws.{leads_iff_goes}
use Rattle.tt_code.proofs.laws.partners_are_found.Goals as goal

pub returns-clause-of_if : goal.returns-clause-of_if
returns-clause-of_if c = λ is at to structured each. leads_iff_goes structured each tt

pub returns-clause-of_else : goal.returns-clause-of_else
returns-clause-of_else c = λ is at to structured each. leads_iff_goes structured each tt

pub returns-clause-of_fdef : goal.returns-clause-of_fdef
returns-clause-of_fdef c = λ is at to structured each. leads_iff_goes structured each tt

pub returns-clause-of_idef : goal.returns-clause-of_idef
returns-clause-of_idef c = λ is at to structured each. leads_iff_goes structured each tt
