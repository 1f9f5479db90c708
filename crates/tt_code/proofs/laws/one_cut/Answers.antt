use Rattle.tt_code.proofs.CutLemmas.{one_cut}
use Rattle.tt_code.proofs.laws.one_cut.Goals as goal

pub returns : goal.returns
returns c = one_cut
