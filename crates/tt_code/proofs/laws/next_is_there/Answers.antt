use Rattle.tt_code.proofs.LawLemmas.{next_is_there}
use Rattle.tt_code.proofs.laws.next_is_there.Goals as goal

pub returns : goal.returns
returns c = next_is_there
