use Rattle.tt_setting.specs.declared.failed.Role.TheVariants as role
use Rattle.tt_abs.specs.Representation.Taken.{IsNoRole, IsRole}
use Rattle.tt_abs.specs.States.{abstract_of}
use Rattle.tt_abs.proofs.Told.{as_none, stack_step_told, step_told, too_few_told}
use Rattle.tt_abs.proofs.control.jump_if.Goals as goal

pub returns-in_err-condition-clause-told : goal.returns-in_err-condition-clause-told
returns-in_err-condition-clause-told c = stack_step_told IsNoRole (IsRole role.Distance 1) c.args.setting.now c.args.point.now c.args.state.now _ _ _ (as_none (IsRole role.Distance 1)) (too_few_told IsNoRole _ _ c.in_err-condition.ensures.told) c.from_residual.ensures.1

pub returns-in_err-cell-clause-told : goal.returns-in_err-cell-clause-told
returns-in_err-cell-clause-told c = stack_step_told IsNoRole (IsRole role.Distance 1) c.args.setting.now c.args.point.now c.args.state.now _ _ _ (as_none (IsRole role.Distance 1)) (too_few_told IsNoRole _ _ c.in_err-cell.ensures.told) c.from_residual-in_err-cell.ensures.1

pub returns-in_err-moves-clause-told : goal.returns-in_err-moves-clause-told
returns-in_err-moves-clause-told c =
    let told = c.in_err-moves.ensures.told (abstract_of c.args.state.now) _ c.in_ok-cell.ensures.ok in
    step_told (IsRole role.Distance 1) (IsRole role.Distance 1) c.args.setting.now c.args.point.now c.args.state.now _ _ _ _ (λ q n is. is) told c.len.ensures.value c.from_residual-in_err-moves.ensures.1
