use Rattle.tt_symbolic_cells.proofs.Computings.{exact_result}
use Rattle.tt_symbolic_cells.proofs.Simplifying.{simplified_result}
use Rattle.tt_symbolic_cells.proofs.results.result_of_two.Goals as goal

pub returns-in-Some : goal.returns-in-Some
returns-in-Some c = simplified_result c.args.operation c.args.a c.args.b c.simplified-one.result c.simplified-other.result c.args.ranges.now _ c.simplified-one.ensures c.simplified-other.ensures (exact_result c.args.operation c.simplified-one.result c.simplified-other.result c.in-Some.cell c.args.ranges.now c.in-Some.ensures)

pub returns-in-None : goal.returns-in-None
returns-in-None c = simplified_result c.args.operation c.args.a c.args.b c.simplified-one.result c.simplified-other.result c.args.ranges.now c.range_of_two.result c.simplified-one.ensures c.simplified-other.ensures c.range_of_two.ensures
