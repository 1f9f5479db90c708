use Rattle.std.proofs.lemmas.Result.{IfErr-weaker}
use Rattle.tt_code.specs.declared.kinds.Operand.TheVariants as operands
use Rattle.tt_code.specs.declared.reason.Reason.TheVariants as reason
use Rattle.tt_abs.specs.Transfers.{tested_cell, is_point_in}
use Rattle.tt_setting.specs.Settings.{setting_of}
use Rattle.tt_abs.proofs.Fronts.{pair_takes}
use Rattle.tt_abs.specs.Representation.Taken.{IsRoleFrom, TellsOfOperands, TellsOfStack}
use Rattle.tt_abs.proofs.Told.{any_operands}
use Rattle.tt_abs.proofs.operands.take_point_pair.Goals as goal

pub returns-clause-ok : goal.returns-clause-ok
returns-clause-ok c = pair_takes (tested_cell (is_point_in (setting_of c.args.setting.now) c.args.graphics.now c.args.within) reason.Point) c.args.stack.now c.args.taken c.in_ok-after.after c.take_any.result c.in_ok-after.ensures.ok c.take_any.ensures.ok

pub returns-clause-told : goal.returns-clause-told
returns-clause-told c =
    IfErr-weaker c.take_any.result (TellsOfStack c.args.stack.now) (TellsOfOperands c.args.setting.now c.args.graphics.now c.args.stack.now (IsRoleFrom c.args.taken (operands.Point c.args.within)))
    (any_operands c.args.setting.now c.args.graphics.now c.args.stack.now (IsRoleFrom c.args.taken (operands.Point c.args.within))) c.take_any.ensures.told
