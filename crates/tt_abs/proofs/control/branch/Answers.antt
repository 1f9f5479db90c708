use Rattle.tt_code.specs.declared.kinds.Control.TheVariants as control
use Rattle.tt_abs.specs.Representation.Taken.{IsNoRole}
use Rattle.tt_abs.specs.Failures.{IsRoleOfControl}
use Rattle.tt_abs.proofs.Told.{as_none, only_told, stack_step_told, too_few_told}
use Rattle.tt_abs.proofs.control.branch.Goals as goal

pub returns-in_err-condition-clause-told : goal.returns-in_err-condition-clause-told
returns-in_err-condition-clause-told c = stack_step_told IsNoRole (IsRoleOfControl control.If) c.args.setting.now c.args.point.now c.args.state.now _ _ _ (as_none (IsRoleOfControl control.If)) (too_few_told IsNoRole _ _ c.in_err-condition.ensures.told) c.from_residual.ensures.1

pub returns-in_err-moves-clause-told : goal.returns-in_err-moves-clause-told
returns-in_err-moves-clause-told c = stack_step_told IsNoRole (IsRoleOfControl control.If) c.args.setting.now c.args.point.now c.args.state.now _ _ _ (as_none (IsRoleOfControl control.If)) (only_told _ _ c.in_err-moves.ensures.told) c.from_residual-in_err-moves.ensures.1
