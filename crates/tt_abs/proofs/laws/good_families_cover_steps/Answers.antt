use Rattle.tt_abs.proofs.Goodness.{good_by_machines}
use Rattle.tt_abs.proofs.laws.good_families_cover_steps.Goals as goal

pub returns : goal.returns
returns c = λ s functions family setting short ascends contexts. good_by_machines s setting short functions ascends family contexts
