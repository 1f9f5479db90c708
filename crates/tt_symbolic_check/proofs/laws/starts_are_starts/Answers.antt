use Rattle.tt_symbolic_check.proofs.Lawful.{starts}
use Rattle.tt_symbolic_check.proofs.laws.starts_are_starts.Goals as goal

pub returns : goal.returns
returns c = starts
