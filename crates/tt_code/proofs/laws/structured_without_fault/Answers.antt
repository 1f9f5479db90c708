use Rattle.tt_code.proofs.ProgramLemmas.{no_fault}
use Rattle.tt_code.proofs.laws.structured_without_fault.Goals as goal

pub returns : goal.returns
returns c = λ bytes is k cut l f. no_fault bytes is is k cut cut l f
