use Rattle.tt_symbolic_state.specs.Values.{value}
use Rattle.tt_symbolic_state.specs.Shows.{values}
use Rattle.tt_symbolic_cells.proofs.Takings.{any_takes, under_is}
use Rattle.tt_symbolic_cells.proofs.operands.take_any.Goals as goal

pub returns-in-Some : goal.returns-in-Some
returns-in-Some c = λ v. any_takes (values v c.args.stack.now) c.args.taken (value v c.in-Some.field-0) (under_is v c.args.stack.now c.args.taken c.in-Some.field-0 c.in-Some.ensures.cell)
