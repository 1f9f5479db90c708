use Rattle.tt_code.proofs.LawLemmas.{one_fault}
use Rattle.tt_code.proofs.laws.one_fault.Goals as goal

pub returns : goal.returns
returns c = λ bytes is k m cut f g. one_fault is k m cut.each f g
