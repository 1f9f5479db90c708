use Rattle.tt_symbolic_check.proofs.Lawful.{runs}
use Rattle.tt_symbolic_check.proofs.laws.runs_are_runs.Goals as goal

pub returns : goal.returns
returns c = runs
