use Rattle.tt_symbolic_check.proofs.Lawful.{suffices}
use Rattle.tt_symbolic_check.proofs.laws.strict_safety_suffices.Goals as goal

pub returns : goal.returns
returns c = suffices
