use Rattle.tt_code.specs.declared.kinds.Operand.TheVariants as operands
use Rattle.tt_setting.specs.declared.failed.Role.TheVariants as role
use Rattle.std.proofs.Common.{refl, sym, ◌∙◌, rules}
use Rattle.std.specs.Prelude.{FitsSigned}
use Rattle.std.specs.Int.{w32}
use Rattle.std.proofs.lemmas.Int.{to_z-of_z}
use Rattle.tt_abs.proofs.Fronts.{tested_takes}
use Rattle.tt_abs.specs.Representation.Taken.{IsRoleFrom, TellsOfStackIn}
use Rattle.tt_abs.proofs.Fronts.{told_by}
use Rattle.tt_abs.proofs.Told.{stack_in}
use Rattle.tt_abs.proofs.operands.take_storage.Goals as goal

pub returns-then-is_index-clause-ok : goal.returns-then-is_index-clause-ok
returns-then-is_index-clause-ok c =
    let fits : FitsSigned w32 c.in_ok-index.index = search rules in
    let w = c.in_ok-index.ensures.ok in
    tested_takes _ _ c.args.stack.now w.0 c.args.taken c.in_ok-index.after c.in_ok-index.index w.1 w.2
    (rw c.from.ensures at (simp to_z-of_z at (sym c.is_index.ensures ∙ c.if-is_index.true)))

pub returns-in_err-index-clause-told : goal.returns-in_err-index-clause-told
returns-in_err-index-clause-told c =
    told_by c.from_residual.result c.in_err-index.field-0.0 (TellsOfStackIn c.args.setting.now c.args.stack.now (IsRoleFrom c.args.taken operands.Storage))
    (stack_in c.args.setting.now c.args.stack.now role.StorageCell c.args.taken operands.Storage c.in_err-index.field-0.0 refl c.in_err-index.ensures.told) c.from_residual.ensures.1
