use Rattle.std.proofs.Common.{refl}
use Rattle.tt_code.specs.declared.kinds.Control.TheVariants as control
use Rattle.tt_setting.specs.declared.failed.Role.TheVariants as role
use Rattle.tt_abs.specs.Representation.Taken.{IsRole}
use Rattle.tt_abs.specs.Failures.{IsRoleOfControl}
use Rattle.tt_abs.proofs.Told.{answer_as, as_one}
use Rattle.tt_abs.proofs.control.execute_control.Goals as goal

pub returns-in-JumpIfTrue-clause-told : goal.returns-in-JumpIfTrue-clause-told
returns-in-JumpIfTrue-clause-told c =
    rw c.in-JumpIfTrue.is (answer_as c.jump_if.result (IsRole role.Distance 1) (IsRoleOfControl control.JumpIfTrue) c.args.setting.now c.args.point.now c.args.state.now _
    (as_one role.Distance 1 (IsRoleOfControl control.JumpIfTrue) refl) c.jump_if.ensures.told)

pub returns-in-JumpIfFalse-clause-told : goal.returns-in-JumpIfFalse-clause-told
returns-in-JumpIfFalse-clause-told c =
    rw c.in-JumpIfFalse.is (answer_as c.jump_if-in-JumpIfFalse.result (IsRole role.Distance 1) (IsRoleOfControl control.JumpIfFalse) c.args.setting.now c.args.point.now c.args.state.now _
    (as_one role.Distance 1 (IsRoleOfControl control.JumpIfFalse) refl) c.jump_if-in-JumpIfFalse.ensures.told)
