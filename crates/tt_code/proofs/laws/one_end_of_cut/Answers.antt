use Rattle.tt_code.proofs.LawLemmas.{one_uncut}
use Rattle.tt_code.proofs.laws.one_end_of_cut.Goals as goal

pub returns : goal.returns
returns c = one_uncut
