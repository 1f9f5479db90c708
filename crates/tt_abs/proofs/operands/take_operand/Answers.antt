use Rattle.std.proofs.lemmas.Result.{IfErr-weaker}
use Rattle.tt_code.specs.declared.kinds.Operand.TheVariants as operands
use Rattle.tt_abs.specs.Representation.Taken.{IsRoleFrom, TellsOfOperands, TellsOfStack, TellsOfStackIn}
use Rattle.tt_abs.proofs.Told.{any_operands, in_operands}
use Rattle.tt_abs.proofs.operands.take_operand.Goals as goal

pub returns-in-Number-clause-told : goal.returns-in-Number-clause-told
returns-in-Number-clause-told c =
    rw c.in-Number.is (IfErr-weaker c.take_any.result (TellsOfStack c.args.stack.now) (TellsOfOperands c.args.setting.now c.args.graphics.now c.args.stack.now (IsRoleFrom c.args.taken operands.Number)) (any_operands c.args.setting.now c.args.graphics.now c.args.stack.now (IsRoleFrom c.args.taken operands.Number)) c.take_any.ensures.told)

pub returns-in-Cvt-clause-told : goal.returns-in-Cvt-clause-told
returns-in-Cvt-clause-told c =
    rw c.in-Cvt.is (IfErr-weaker c.take_cvt.result (TellsOfStackIn c.args.setting.now c.args.stack.now (IsRoleFrom c.args.taken operands.Cvt)) (TellsOfOperands c.args.setting.now c.args.graphics.now c.args.stack.now (IsRoleFrom c.args.taken operands.Cvt))
    (in_operands c.args.setting.now c.args.graphics.now c.args.stack.now (IsRoleFrom c.args.taken operands.Cvt)) c.take_cvt.ensures.told)

pub returns-in-Storage-clause-told : goal.returns-in-Storage-clause-told
returns-in-Storage-clause-told c =
    rw c.in-Storage.is (IfErr-weaker c.take_storage.result (TellsOfStackIn c.args.setting.now c.args.stack.now (IsRoleFrom c.args.taken operands.Storage)) (TellsOfOperands c.args.setting.now c.args.graphics.now c.args.stack.now (IsRoleFrom c.args.taken operands.Storage))
    (in_operands c.args.setting.now c.args.graphics.now c.args.stack.now (IsRoleFrom c.args.taken operands.Storage)) c.take_storage.ensures.told)

pub returns-in-Zone-clause-told : goal.returns-in-Zone-clause-told
returns-in-Zone-clause-told c =
    rw c.in-Zone.is (IfErr-weaker c.take_zone.result (TellsOfStackIn c.args.setting.now c.args.stack.now (IsRoleFrom c.args.taken operands.Zone)) (TellsOfOperands c.args.setting.now c.args.graphics.now c.args.stack.now (IsRoleFrom c.args.taken operands.Zone))
    (in_operands c.args.setting.now c.args.graphics.now c.args.stack.now (IsRoleFrom c.args.taken operands.Zone)) c.take_zone.ensures.told)

pub returns-in-CvtPairs-clause-told : goal.returns-in-CvtPairs-clause-told
returns-in-CvtPairs-clause-told c =
    rw c.in-CvtPairs.is (IfErr-weaker c.take_cvt_pairs.result (TellsOfStackIn c.args.setting.now c.args.stack.now (IsRoleFrom c.args.taken operands.CvtPairs)) (TellsOfOperands c.args.setting.now c.args.graphics.now c.args.stack.now (IsRoleFrom c.args.taken operands.CvtPairs))
    (in_operands c.args.setting.now c.args.graphics.now c.args.stack.now (IsRoleFrom c.args.taken operands.CvtPairs)) c.take_cvt_pairs.ensures.told)
