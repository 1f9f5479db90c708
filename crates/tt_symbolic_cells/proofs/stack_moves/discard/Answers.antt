use Rattle.std.proofs.Common.{drop}
use Rattle.tt_symbolic_cells.proofs.Stacks.{pop_stands}
use Rattle.tt_symbolic_cells.proofs.stack_moves.discard.Goals as goal

pub returns : goal.returns
returns c = pop_stands c.args.ranges.now c.args.stack.now c.cut.new.self (drop 1 c.args.stack.now) c.in_ok-cell_under.field-0 c.in_ok-cell_under.ensures c.cut.ensures
