use Rattle.tt_code.specs.Operands.{take_one}
use Rattle.tt_symbolic_state.specs.Shows.{values}
use Rattle.tt_symbolic_cells.specs.Taking.{below_bound}
use Rattle.tt_symbolic_cells.proofs.Takings.{takes_both}
use Rattle.tt_symbolic_cells.proofs.operands.take_pair.Goals as goal

pub returns : goal.returns
returns c = λ v fits r. takes_both (below_bound c.args.bound r) take_one (values v c.args.stack.now) c.args.taken c.in_ok-after.after c.in_ok-end.end (c.in_ok-after.ensures v fits r) (c.in_ok-end.ensures v)
