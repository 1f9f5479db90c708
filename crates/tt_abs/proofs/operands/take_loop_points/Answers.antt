use Rattle.tt_code.specs.declared.kinds.Operand.TheVariants as operands
use Rattle.tt_abs.specs.Representation.Taken.{IsRoleFrom, TellsOfOperands}
use Rattle.tt_abs.proofs.Fronts.{told_by}
use Rattle.tt_abs.proofs.Told.{graphics_operands}
use Rattle.tt_abs.proofs.operands.take_loop_points.Goals as goal

pub returns-in_err-n-clause-told : goal.returns-in_err-n-clause-told
returns-in_err-n-clause-told c =
    told_by c.from_residual.result c.in_err-n.field-0.0 (TellsOfOperands c.args.setting.now c.args.graphics.now c.args.stack.now (IsRoleFrom c.args.taken (operands.LoopPoints c.args.within)))
    (graphics_operands c.args.setting.now c.args.graphics.now c.args.stack.now (IsRoleFrom c.args.taken (operands.LoopPoints c.args.within)) c.in_err-n.field-0.0 c.in_err-n.ensures.told) c.from_residual.ensures.1
