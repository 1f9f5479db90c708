use Rattle.tt_abs.proofs.Soundness.{good_is_safe}
use Rattle.tt_abs.proofs.laws.good_families_are_safe.Goals as goal

pub returns : goal.returns
returns c = λ s functions family setting short ascends good. good_is_safe s setting short functions ascends family good
