use Rattle.tt_code.specs.declared.kinds.Operand.TheVariants as operands
use Rattle.tt_setting.specs.declared.failed.Role.TheVariants as role
use Rattle.std.proofs.Common.{arith, drop, refl}
use Rattle.tt_code.specs.Operands.{pair}
use Rattle.tt_code.specs.declared.reason.Reason.TheVariants as reason
use Rattle.tt_setting.specs.Refusals.{reason_of}
use Rattle.tt_abs.specs.Transfers.{tested_cell, is_point_in}
use Rattle.tt_setting.specs.Settings.{setting_of}
use Rattle.tt_abs.proofs.Fronts.{times_step, times_refused, refused_by, pairs_start}
use Rattle.tt_abs.specs.Representation.Taken.{IsRoleFrom, TellsOfOperands}
use Rattle.tt_abs.proofs.Fronts.{told_by}
use Rattle.tt_abs.proofs.RolesTold.{first_in_pairs}
use Rattle.tt_abs.proofs.Told.{operands_as, stack_operands}
use Rattle.tt_abs.proofs.operands.take_point_pairs.Goals as goal

pub loop-i-init : goal.loop-i-init
loop-i-init c =
    let w = c.in_ok-n.ensures.ok in
    (pairs_start (tested_cell (is_point_in (setting_of c.args.setting.now) c.args.graphics.now c.args.within) reason.Point) c.args.stack.now w.1 c.args.taken c.in_ok-n.after c.in_ok-n.n w.0 w.2 w.3 w.4, omega (arith, w.4))

pub loop-i-preserved : goal.loop-i-preserved
loop-i-preserved c =
    let w = c.in_ok-after.ensures.ok in
    (times_step (pair (tested_cell (is_point_in (setting_of c.args.setting.now) c.args.graphics.now c.args.within) reason.Point)) c.in_ok-n.n c.loop-i.i _ (drop c.loop-i.after c.args.stack.now) (drop c.in_ok-after.after c.args.stack.now) w.0 c.loop-i-test.true c.loop-i.invariant.0 w.1, omega (arith, c.loop-i.invariant.1, c.in_ok-after.ensures.two))

pub returns-in_err-after-clause-refused : goal.returns-in_err-after-clause-refused
returns-in_err-after-clause-refused c =
    refused_by c.from_residual-in_err-after.result c.in_err-after.field-0.0 _
    (times_refused (pair (tested_cell (is_point_in (setting_of c.args.setting.now) c.args.graphics.now c.args.within) reason.Point)) c.in_ok-n.n c.loop-i.i _ (drop c.loop-i.after c.args.stack.now) (reason_of c.in_err-after.field-0.0) c.loop-i-test.true c.loop-i.invariant.0 c.in_err-after.ensures.refused)
    c.from_residual-in_err-after.ensures.1

pub returns-in_err-n-clause-told : goal.returns-in_err-n-clause-told
returns-in_err-n-clause-told c =
    told_by c.from_residual.result c.in_err-n.field-0.0 (TellsOfOperands c.args.setting.now c.args.graphics.now c.args.stack.now (IsRoleFrom c.args.taken (operands.PointPairs c.args.within)))
    (stack_operands c.args.setting.now c.args.graphics.now c.args.stack.now role.Count c.args.taken (operands.PointPairs c.args.within) c.in_err-n.field-0.0 refl c.in_err-n.ensures.told) c.from_residual.ensures.1

pub returns-in_err-after-clause-told : goal.returns-in_err-after-clause-told
returns-in_err-after-clause-told c =
    told_by c.from_residual-in_err-after.result c.in_err-after.field-0.0 (TellsOfOperands c.args.setting.now c.args.graphics.now c.args.stack.now (IsRoleFrom c.args.taken (operands.PointPairs c.args.within)))
    (operands_as c.args.setting.now c.args.graphics.now c.args.stack.now (IsRoleFrom c.loop-i.after (operands.Point c.args.within)) (IsRoleFrom c.args.taken (operands.PointPairs c.args.within)) c.in_err-after.field-0.0
    (first_in_pairs (operands.Point c.args.within) (operands.PointPairs c.args.within) role.Point refl (λ n. refl) (λ n. refl) c.args.taken c.loop-i.after c.loop-i.i c.loop-i.invariant.1) c.in_err-after.ensures.told)
    c.from_residual-in_err-after.ensures.1
