use Rattle.tt_setting.specs.declared.failed.Role.TheVariants as role
use Rattle.tt_code.specs.declared.kinds.Control.TheVariants as control
use Rattle.tt_abs.specs.Representation.Taken.{IsNoRole, IsRole}
use Rattle.tt_abs.specs.States.{abstract_of}
use Rattle.tt_abs.specs.Failures.{IsRoleOfControl}
use Rattle.std.proofs.Common.{refl}
use Rattle.tt_abs.proofs.Told.{as_none, as_one, stack_step_told, step_told, too_few_told}
use Rattle.tt_abs.proofs.control.jump.Goals as goal

pub returns-in_err-cell-clause-told : goal.returns-in_err-cell-clause-told
returns-in_err-cell-clause-told c = stack_step_told IsNoRole (IsRoleOfControl control.Jump) c.args.setting.now c.args.point.now c.args.state.now _ _ _ (as_none (IsRoleOfControl control.Jump)) (too_few_told IsNoRole _ _ c.in_err-cell.ensures.told) c.from_residual.ensures.1

pub returns-in_err-target-clause-told : goal.returns-in_err-target-clause-told
returns-in_err-target-clause-told c =
    let told = c.in_err-target.ensures.told (abstract_of c.args.state.now) _ c.in_ok-cell.ensures.ok in
    step_told (IsRole role.Distance 0) (IsRoleOfControl control.Jump) c.args.setting.now c.args.point.now c.args.state.now _ _ _ _ (as_one role.Distance 0 (IsRoleOfControl control.Jump) refl) told c.len.ensures.value c.from_residual-in_err-target.ensures.1
