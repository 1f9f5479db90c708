use Rattle.tt_code.specs.declared.kinds.Control.TheVariants as control
use Rattle.tt_abs.specs.Representation.Taken.{IsNoRole, IsRole}
use Rattle.tt_setting.specs.declared.failed.Role.TheVariants as role
use Rattle.std.proofs.Common.{length, refl}
use Rattle.tt_setting.specs.Settings.{frames_of}
use Rattle.tt_abs.specs.States.{abstract_of}
use Rattle.tt_abs.specs.Failures.{IsRoleOfControl}
use Rattle.tt_abs.proofs.Told.{as_none, as_one, on_top, stack_step_told, step_told, too_few_told, unknown_told}
use Rattle.tt_abs.proofs.control.loop_call.Goals as goal

pub returns-in_err-top-clause-told : goal.returns-in_err-top-clause-told
returns-in_err-top-clause-told c = stack_step_told IsNoRole (IsRoleOfControl control.LoopCall) c.args.setting.now c.args.point.now c.args.state.now _ _ _ (as_none (IsRoleOfControl control.LoopCall)) (too_few_told IsNoRole _ _ c.in_err-top.ensures.told) c.from_residual.ensures.1

pub returns-in_err-callee-clause-told : goal.returns-in_err-callee-clause-told
returns-in_err-callee-clause-told c =
    let told = c.in_err-callee.ensures.told (frames_of c.args.point.now) c.args.point.now.offset _ (length c.args.state.now.stack) c.in_ok-top.ensures.ok in
    step_told (IsRole role.Function 0) (IsRoleOfControl control.LoopCall) c.args.setting.now c.args.point.now c.args.state.now _ _ _ _ (as_one role.Function 0 (IsRoleOfControl control.LoopCall) refl) told refl c.from_residual-in_err-callee.ensures.1

pub returns-in_err-second-clause-told : goal.returns-in_err-second-clause-told
returns-in_err-second-clause-told c = stack_step_told IsNoRole (IsRoleOfControl control.LoopCall) c.args.setting.now c.args.point.now c.args.state.now _ _ _ (as_none (IsRoleOfControl control.LoopCall)) (too_few_told IsNoRole _ _ c.in_err-second.ensures.told) c.from_residual-in_err-second.ensures.1

pub returns-in_err-count-clause-told : goal.returns-in_err-count-clause-told
returns-in_err-count-clause-told c =
    stack_step_told (IsRole role.Turns 1) (IsRoleOfControl control.LoopCall) c.args.setting.now c.args.point.now c.args.state.now _ _ _ (as_one role.Turns 1 (IsRoleOfControl control.LoopCall) refl) (unknown_told _ _ _ _ _ _ c.in_ok-second.ensures.ok c.in_err-count.ensures.unknown c.in_err-count.ensures.told)
    c.from_residual-in_err-count.ensures.1

pub returns-in_err-moves-clause-told : goal.returns-in_err-moves-clause-told
returns-in_err-moves-clause-told c =
    let told = c.in_err-moves.ensures.told (abstract_of c.args.state.now) (on_top _ _ _ _ c.in_ok-top.ensures.ok c.in_ok-callee.ensures.number, c.in_ok-callee.ensures.named) in
    step_told IsNoRole (IsRoleOfControl control.LoopCall) c.args.setting.now c.args.point.now c.args.state.now _ _ _ _ (as_none (IsRoleOfControl control.LoopCall)) told c.len.ensures.value c.from_residual-in_err-moves.ensures.1
