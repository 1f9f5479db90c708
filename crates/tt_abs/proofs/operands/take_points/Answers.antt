use Rattle.tt_code.specs.declared.kinds.Operand.TheVariants as operands
use Rattle.tt_abs.specs.Representation.Taken.{IsRoleFrom, TellsOfOperands}
use Rattle.tt_abs.proofs.RolesTold.{point_in_loop}
use Rattle.tt_abs.proofs.Told.{operands_as}
use Rattle.std.proofs.Common.{arith, drop}
use Rattle.tt_code.specs.declared.reason.Reason.TheVariants as reason
use Rattle.tt_setting.specs.Refusals.{reason_of}
use Rattle.tt_abs.specs.Transfers.{tested_cell, is_point_in}
use Rattle.tt_setting.specs.Settings.{setting_of}
use Rattle.tt_abs.proofs.Fronts.{times_step, times_refused, refused_by, times_start, told_by}
use Rattle.tt_abs.proofs.operands.take_points.Goals as goal

pub loop-i-init : goal.loop-i-init
loop-i-init c = (times_start (tested_cell (is_point_in (setting_of c.args.setting.now) c.args.graphics.now c.args.within) reason.Point) c.args.count (drop c.args.taken c.args.stack.now), omega arith)

pub loop-i-preserved : goal.loop-i-preserved
loop-i-preserved c =
    let w = c.in_ok-after.ensures.ok in
    (times_step (tested_cell (is_point_in (setting_of c.args.setting.now) c.args.graphics.now c.args.within) reason.Point) c.args.count c.loop-i.i _ (drop c.loop-i.after c.args.stack.now) (drop c.in_ok-after.after c.args.stack.now) w.0 c.loop-i-test.true c.loop-i.invariant.0 w.1, omega (arith, c.loop-i.invariant.1, c.in_ok-after.ensures.one))

pub returns-in_err-after-clause-refused : goal.returns-in_err-after-clause-refused
returns-in_err-after-clause-refused c =
    refused_by c.from_residual.result c.in_err-after.field-0.0 _
    (times_refused (tested_cell (is_point_in (setting_of c.args.setting.now) c.args.graphics.now c.args.within) reason.Point) c.args.count c.loop-i.i _ (drop c.loop-i.after c.args.stack.now) (reason_of c.in_err-after.field-0.0) c.loop-i-test.true c.loop-i.invariant.0 c.in_err-after.ensures.refused)
    c.from_residual.ensures.1

pub returns-in_err-after-clause-told : goal.returns-in_err-after-clause-told
returns-in_err-after-clause-told c =
    told_by c.from_residual.result c.in_err-after.field-0.0 (TellsOfOperands c.args.setting.now c.args.graphics.now c.args.stack.now (IsRoleFrom c.args.taken (operands.LoopPoints c.args.within)))
    (operands_as c.args.setting.now c.args.graphics.now c.args.stack.now (IsRoleFrom c.loop-i.after (operands.Point c.args.within)) (IsRoleFrom c.args.taken (operands.LoopPoints c.args.within)) c.in_err-after.field-0.0
    (point_in_loop c.args.taken c.loop-i.after c.loop-i.i c.args.within c.loop-i.invariant.1) c.in_err-after.ensures.told)
    c.from_residual.ensures.1
