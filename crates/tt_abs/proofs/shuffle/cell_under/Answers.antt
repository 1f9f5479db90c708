use Rattle.tt_abs.proofs.StackSteps.{found_under}
use Rattle.tt_abs.proofs.shuffle.cell_under.Goals as goal

pub returns-in-Some-clause-ok : goal.returns-in-Some-clause-ok
returns-in-Some-clause-ok c = found_under c.args.stack.now c.args.taken c.in-Some.cell c.in-Some.ensures.cell
