use Rattle.tt_symbolic_cells.proofs.Computings.{exact_result}
use Rattle.tt_symbolic_cells.proofs.Simplifying.{simplified_result}
use Rattle.tt_symbolic_cells.proofs.results.result_of_one.Goals as goal

pub returns-in-Some : goal.returns-in-Some
returns-in-Some c = simplified_result c.args.operation c.args.cell c.args.cell c.simplified-simple.result c.simplified-simple.result c.args.ranges.now _ c.simplified-simple.ensures c.simplified-simple.ensures (exact_result c.args.operation c.simplified-simple.result c.simplified-simple.result c.in-Some.cell c.args.ranges.now c.in-Some.ensures)

pub returns-in-None : goal.returns-in-None
returns-in-None c = simplified_result c.args.operation c.args.cell c.args.cell c.simplified-simple.result c.simplified-simple.result c.args.ranges.now c.range_of_one.result c.simplified-simple.ensures c.simplified-simple.ensures c.range_of_one.ensures
