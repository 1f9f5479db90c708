use Rattle.std.proofs.Common.{drop}
use Rattle.tt_abs.proofs.Fronts.{row_step, told_by}
use Rattle.tt_abs.proofs.Told.{operands_as}
use Rattle.tt_abs.specs.Failures.{IsRoleInLine}
use Rattle.tt_abs.specs.Representation.Taken.{IsRoleFrom, TellsOfOperands}
use Rattle.tt_abs.proofs.RolesTold.{in_line, taken_next}
use Rattle.tt_setting.specs.Settings.{setting_of}
use Rattle.tt_abs.proofs.operands.take_operands.Goals as goal

pub loop-operand-preserved : goal.loop-operand-preserved
loop-operand-preserved c =
    let w = c.in_ok-taken.ensures.ok in (
      row_step (setting_of c.args.setting.now) c.args.graphics.now c.args.operands.now c.loop-operand.operand-index _ _ (drop c.loop-operand.taken c.args.stack.now) (drop c.in_ok-taken.taken c.args.stack.now) w.0 c.loop-operand-test.true c.loop-operand.invariant.0 w.1,
      taken_next (setting_of c.args.setting.now) c.args.graphics.now c.args.operands.now c.loop-operand.operand-index _ c.args.stack.now c.loop-operand.taken c.in_ok-taken.taken c.loop-operand-test.true c.loop-operand.invariant.1 w,
    )

pub returns-in_err-taken-clause-told : goal.returns-in_err-taken-clause-told
returns-in_err-taken-clause-told c =
    let S = setting_of c.args.setting.now in
    let line = IsRoleInLine S c.args.graphics.now c.args.stack.now c.args.operands.now in
    told_by c.from_residual.result c.in_err-taken.field-0.0 (TellsOfOperands c.args.setting.now c.args.graphics.now c.args.stack.now line)
    (operands_as c.args.setting.now c.args.graphics.now c.args.stack.now (IsRoleFrom c.loop-operand.taken _) line c.in_err-taken.field-0.0
    (in_line S c.args.graphics.now c.args.operands.now c.loop-operand.operand-index _ c.args.stack.now c.loop-operand.taken c.loop-operand-test.true c.loop-operand.invariant.1) c.in_err-taken.ensures.told)
    c.from_residual.ensures.1
