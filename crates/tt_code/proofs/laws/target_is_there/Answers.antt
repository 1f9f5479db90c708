use Rattle.tt_code.proofs.LawLemmas.{target_is_there}
use Rattle.tt_code.proofs.laws.target_is_there.Goals as goal

pub returns : goal.returns
returns c = target_is_there
