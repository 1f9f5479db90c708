use Rattle.tt_symbolic_cells.proofs.Simplifying.{simplified_exact}
use Rattle.tt_symbolic_cells.proofs.exact.answer_of_one.Goals as goal

pub returns-in-Some : goal.returns-in-Some
returns-in-Some c = simplified_exact c.args.operation c.args.cell c.args.cell c.simplified-simple.result c.simplified-simple.result c.args.ranges.now c.in-Some.answer c.simplified-simple.ensures c.simplified-simple.ensures c.in-Some.ensures
