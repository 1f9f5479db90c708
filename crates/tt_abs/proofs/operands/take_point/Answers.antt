use Rattle.tt_code.specs.declared.kinds.Operand.TheVariants as operands
use Rattle.tt_setting.specs.declared.failed.Role.TheVariants as role
use Rattle.std.proofs.Common.{refl, sym, ◌∙◌, rules}
use Rattle.std.specs.Prelude.{FitsSigned}
use Rattle.std.specs.Int.{w32}
use Rattle.std.proofs.lemmas.Int.{to_z-of_z}
use Rattle.tt_setting.specs.Settings.{setting_of}
use Rattle.tt_abs.proofs.Fronts.{tested_takes}
use Rattle.tt_abs.specs.Representation.Taken.{IsRoleFrom, TellsOfOperands}
use Rattle.tt_abs.proofs.Fronts.{told_by}
use Rattle.tt_abs.proofs.Told.{stack_operands}
use Rattle.tt_abs.proofs.operands.take_point.Goals as goal

pub returns-then-is_in-clause-ok : goal.returns-then-is_in-clause-ok
returns-then-is_in-clause-ok c =
    let fits : FitsSigned w32 c.in_ok-number.number = search rules in
    let w = c.in_ok-number.ensures.ok in
    tested_takes _ _ c.args.stack.now w.0 c.args.taken c.in_ok-number.after c.in_ok-number.number w.1 w.2
    (sym (c.zone_within-zone.ensures.points (setting_of c.args.setting.now) _) ∙ simp to_z-of_z at (sym c.is_in.ensures ∙ c.if-is_in.true))

pub returns-in_err-number-clause-told : goal.returns-in_err-number-clause-told
returns-in_err-number-clause-told c =
    told_by c.from_residual.result c.in_err-number.field-0.0 (TellsOfOperands c.args.setting.now c.args.graphics.now c.args.stack.now (IsRoleFrom c.args.taken (operands.Point c.args.within)))
    (stack_operands c.args.setting.now c.args.graphics.now c.args.stack.now role.Point c.args.taken (operands.Point c.args.within) c.in_err-number.field-0.0 refl c.in_err-number.ensures.told) c.from_residual.ensures.1
