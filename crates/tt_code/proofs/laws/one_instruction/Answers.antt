use Rattle.tt_code.proofs.LookupLemmas.{one_stands}
use Rattle.tt_code.proofs.laws.one_instruction.Goals as goal

pub returns : goal.returns
returns c = λ bytes is k i j cut s t. one_stands is k i j cut.each s t
