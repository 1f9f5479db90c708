use Rattle.std.proofs.Common.{drop}
use Rattle.tt_setting.specs.Settings.{setting_of}
use Rattle.tt_symbolic_state.specs.Shows.{graphics_of, values}
use Rattle.tt_symbolic_cells.proofs.Takings.{row_step}
use Rattle.tt_symbolic_cells.proofs.operands.take_operands.Goals as goal

pub loop-operand-preserved : goal.loop-operand-preserved
loop-operand-preserved c = λ v fits.
    row_step (setting_of c.args.setting.now) (graphics_of v c.args.graphics.now) c.args.operands.now c.loop-operand.operand-index _ _ (drop c.loop-operand.taken (values v c.args.stack.now)) (drop c.in_ok-taken.taken (values v c.args.stack.now)) c.loop-operand-test.true (c.loop-operand.invariant v fits) (c.in_ok-taken.ensures v fits)
