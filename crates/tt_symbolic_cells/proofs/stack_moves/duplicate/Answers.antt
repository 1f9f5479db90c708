use Rattle.std.proofs.Common.{drop}
use Rattle.tt_symbolic_cells.proofs.Stacks.{dup_stands}
use Rattle.tt_symbolic_cells.proofs.stack_moves.duplicate.Goals as goal

pub returns : goal.returns
returns c = dup_stands c.args.ranges.now c.args.stack.now c.push.new.self (drop 1 c.args.stack.now) c.in_ok-top.top c.in_ok-top.ensures c.in_ok-push.ensures
