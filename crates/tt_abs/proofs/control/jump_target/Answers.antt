use Rattle.tt_setting.specs.declared.failed.Role.TheVariants as role
use Rattle.tt_abs.specs.Representation.Taken.{IsRole}
use Rattle.std.proofs.Common.{◌∙◌, ◌∷◌, ap, refl}
use Rattle.tt_abs.specs.Representation.Steps.{TellsOfJump}
use Rattle.tt_abs.proofs.Fronts.{told_by}
use Rattle.tt_abs.proofs.Told.{too_deep_told}
use Rattle.tt_abs.proofs.control.jump_target.Goals as goal

pub returns-in_err-test_depth-clause-told : goal.returns-in_err-test_depth-clause-told
returns-in_err-test_depth-clause-told c =
    told_by c.from_residual.result _ (TellsOfJump c.args.setting.now c.args.point.now c.args.distance c.args.depth)
    (λ a below e. too_deep_told (IsRole role.Distance c.args.distance.under) c.args.setting.now c.args.point.now a c.args.depth _ c.in_err-test_depth.ensures.told c.in_err-test_depth.ensures.deep)
    c.from_residual.ensures.1

pub returns-in-Unknown-clause-told : goal.returns-in-Unknown-clause-told
returns-in-Unknown-clause-told c =
    λ a below e. (below, e ∙ ap (λ x. x ∷ below) c.in-Unknown.is, (refl, refl))
