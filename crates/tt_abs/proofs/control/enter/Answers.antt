use Rattle.tt_abs.specs.Representation.Taken.{IsNoRole}
use Rattle.std.proofs.Common.{◌∙◌, rules, sym}
use Rattle.std.specs.Prelude.{FitsSigned}
use Rattle.std.specs.Int.{w32}
use Rattle.std.proofs.lemmas.Int.{to_z-of_z}
use Rattle.tt_abs.specs.Representation.Steps.{TellsOfEntry}
use Rattle.tt_abs.proofs.Fronts.{told_by}
use Rattle.tt_abs.proofs.Told.{too_deep_told}
use Rattle.tt_abs.proofs.control.enter.Goals as goal

pub returns-in_err-test_depth-clause-told : goal.returns-in_err-test_depth-clause-told
returns-in_err-test_depth-clause-told c =
    told_by c.from_residual.result _ (TellsOfEntry c.args.setting.now c.args.point.now c.args.callee c.args.depth)
    (λ a named. too_deep_told IsNoRole c.args.setting.now c.args.point.now a c.args.depth _ c.in_err-test_depth.ensures.told c.in_err-test_depth.ensures.deep)
    c.from_residual.ensures.1

pub returns-then-is_running-clause-told : goal.returns-then-is_running-clause-told
returns-then-is_running-clause-told c =
    λ a named.
    let fits : FitsSigned w32 c.args.callee.number = search rules in simp to_z-of_z (named.0, (c.args.callee.body, named.1, sym c.is_running.ensures ∙ c.if-is_running.true))
