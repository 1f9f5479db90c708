use Rattle.tt_family.proofs.FillingLaws.{one_filling}
use Rattle.tt_family.proofs.checker.one_good_filling.Goals as goal

pub returns : goal.returns
returns c = one_filling
