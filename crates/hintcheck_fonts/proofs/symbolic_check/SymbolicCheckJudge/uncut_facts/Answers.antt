use Rattle.hintcheck_fonts.specs.SymbolicRefusals.{uncut}
use Rattle.hintcheck_fonts.proofs.symbolic_check.SymbolicCheckJudge.uncut_facts.Goals as goal

pub returns : goal.returns
returns c = λ x start r is. uncut r is
