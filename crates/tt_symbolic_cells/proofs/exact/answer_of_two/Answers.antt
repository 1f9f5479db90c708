use Rattle.tt_symbolic_cells.proofs.Simplifying.{simplified_exact}
use Rattle.tt_symbolic_cells.proofs.exact.answer_of_two.Goals as goal

pub returns : goal.returns
returns c = simplified_exact c.args.operation c.args.a c.args.b c.simplified.result c.simplified-2.result c.args.ranges.now c.answer_of_simplified.result c.simplified.ensures c.simplified-2.ensures c.answer_of_simplified.ensures
