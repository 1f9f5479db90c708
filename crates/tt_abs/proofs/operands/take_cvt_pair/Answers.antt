use Rattle.std.proofs.lemmas.Result.{IfErr-weaker}
use Rattle.tt_code.specs.States.{is_below}
use Rattle.tt_code.specs.declared.kinds.Operand.TheVariants as operands
use Rattle.tt_code.specs.declared.reason.Reason.TheVariants as reason
use Rattle.tt_abs.specs.Transfers.{tested_cell}
use Rattle.tt_abs.proofs.Fronts.{pair_takes}
use Rattle.tt_abs.specs.Representation.Taken.{IsRoleFrom, TellsOfStack, TellsOfStackIn}
use Rattle.tt_abs.proofs.Told.{any_in}
use Rattle.tt_abs.proofs.operands.take_cvt_pair.Goals as goal

pub returns-clause-ok : goal.returns-clause-ok
returns-clause-ok c = pair_takes (tested_cell (λ z. is_below z c.args.setting.now.cvt) reason.Cvt) c.args.stack.now c.args.taken c.in_ok-after.after c.take_any.result c.in_ok-after.ensures.ok c.take_any.ensures.ok

pub returns-clause-told : goal.returns-clause-told
returns-clause-told c =
    IfErr-weaker c.take_any.result (TellsOfStack c.args.stack.now) (TellsOfStackIn c.args.setting.now c.args.stack.now (IsRoleFrom c.args.taken operands.Cvt))
    (any_in c.args.setting.now c.args.stack.now (IsRoleFrom c.args.taken operands.Cvt)) c.take_any.ensures.told
