use Rattle.tt_symbolic_state.specs.Values.{value}
use Rattle.tt_symbolic_state.specs.Shows.{values}
use Rattle.tt_symbolic_cells.specs.Taking.{below_bound}
use Rattle.tt_symbolic_cells.proofs.Takings.{pairs_take, under_is}
use Rattle.tt_symbolic_cells.proofs.operands.take_pairs.Goals as goal

pub returns-in_ok-end-in-Some : goal.returns-in_ok-end-in-Some
returns-in_ok-end-in-Some c = λ v fits r. pairs_take (below_bound c.args.bound r) (values v c.args.stack.now) c.args.taken c.in_ok-n-in-Some.n c.in_ok-end-in-Some.end (value v c.in-Some.cell) (under_is v c.args.stack.now c.args.taken c.in-Some.cell c.in-Some.ensures.cell) (c.in_ok-n-in-Some.ensures v fits) (c.in_ok-end-in-Some.ensures v fits r)
