use Rattle.tt_symbolic_state.specs.Values.{value}
use Rattle.tt_symbolic_state.specs.Shows.{values}
use Rattle.tt_code.specs.States.{is_below}
use Rattle.tt_symbolic_cells.proofs.Takings.{tested_takes, under_is}
use Rattle.tt_symbolic_cells.proofs.operands.take_below.Goals as goal

pub returns-then-is_index : goal.returns-then-is_index
returns-then-is_index c = λ v fits r. tested_takes (λ z. is_below z c.args.bound) r (values v c.args.stack.now) c.args.taken (value v c.in-Some.cell) (under_is v c.args.stack.now c.args.taken c.in-Some.cell c.in-Some.ensures.cell) (c.is_index.ensures c.if-is_index.true v fits)
