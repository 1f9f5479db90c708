use Rattle.tt_symbolic_cells.proofs.Stacks.{clear_stands}
use Rattle.tt_symbolic_cells.proofs.stack_moves.clear.Goals as goal

pub returns : goal.returns
returns c = clear_stands c.args.ranges.now c.args.stack.now c.clear.new.self c.clear.ensures
