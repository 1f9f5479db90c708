use Rattle.tt_code.specs.declared.kinds.Control.TheVariants as control
use Rattle.tt_abs.specs.Representation.Taken.{IsNoRole, IsRole}
use Rattle.tt_setting.specs.declared.failed.Role.TheVariants as role
use Rattle.tt_abs.specs.Failures.{IsRoleOfControl}
use Rattle.std.proofs.Common.{refl, ◌∙◌, rules, sym}
use Rattle.std.specs.Prelude.{FitsSigned}
use Rattle.std.specs.Int.{w32}
use Rattle.std.proofs.lemmas.Int.{to_z-of_z}
use Rattle.tt_abs.proofs.Told.{as_none, as_one, on_top, stack_step_told, too_few_told, unknown_told}
use Rattle.tt_abs.proofs.control.define.Goals as goal

pub returns-in_err-top-clause-told : goal.returns-in_err-top-clause-told
returns-in_err-top-clause-told c = stack_step_told IsNoRole (IsRoleOfControl control.FunctionDefinition) c.args.setting.now c.args.point.now c.args.state.now _ _ _ (as_none (IsRoleOfControl control.FunctionDefinition)) (too_few_told IsNoRole _ _ c.in_err-top.ensures.told) c.from_residual.ensures.1

pub returns-in_err-function-clause-told : goal.returns-in_err-function-clause-told
returns-in_err-function-clause-told c =
    stack_step_told (IsRole role.Function 0) (IsRoleOfControl control.FunctionDefinition) c.args.setting.now c.args.point.now c.args.state.now _ _ _ (as_one role.Function 0 (IsRoleOfControl control.FunctionDefinition) refl) (unknown_told _ _ _ _ _ _ c.in_ok-top.ensures.ok c.in_err-function.ensures.unknown c.in_err-function.ensures.told)
    c.from_residual-in_err-function.ensures.1

pub returns-then-not-is_index-clause-told : goal.returns-then-not-is_index-clause-told
returns-then-not-is_index-clause-told c =
    let fits : FitsSigned w32 c.in_ok-function.function = search rules in
    simp to_z-of_z (
      on_top _ _ _ _ c.in_ok-top.ensures.ok c.in_ok-function.ensures.ok,
      rw c.from.ensures at (simp to_z-of_z at (sym c.is_index.ensures ∙ c.if-not-is_index.true)),
    )
