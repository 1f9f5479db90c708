use Rattle.std.proofs.Common.{◌∙◌, sym, rules, Some, None}
use Rattle.std.specs.Prelude.{FitsSigned}
use Rattle.std.specs.Int.{w32}
use Rattle.std.proofs.lemmas.Int.{to_z-of_z}
use Rattle.tt_setting.specs.Settings.{setting_of}
use Rattle.tt_abs.proofs.CalledLemmas.{called_is, named_is}
use Rattle.tt_abs.specs.States.{abstract_of}
use Rattle.tt_setting.specs.declared.failed.Role.TheVariants as role
use Rattle.tt_abs.specs.Representation.Steps.{TellsOfCall}
use Rattle.tt_abs.proofs.Fronts.{told_by}
use Rattle.tt_abs.proofs.Told.{on_top, unknown_told}
use Rattle.tt_abs.proofs.control.called.Goals as goal

pub returns-in-Some-clause-ok : goal.returns-in-Some-clause-ok
returns-in-Some-clause-ok c =
    let fits : FitsSigned w32 c.in_ok-function.function = search rules in
    called_is (setting_of c.args.setting.now) c.args.state.now.functions c.args.cell c.in_ok-function.function c.from.result (Some c.in-Some.body) c.in_ok-function.ensures.ok c.from.ensures
    (simp to_z-of_z at (sym c.is_index.ensures ∙ c.if-not-is_index.false)) (simp to_z-of_z at c.in-Some.ensures)

pub returns-in-None-clause-refused : goal.returns-in-None-clause-refused
returns-in-None-clause-refused c =
    let fits : FitsSigned w32 c.in_ok-function.function = search rules in
    called_is (setting_of c.args.setting.now) c.args.state.now.functions c.args.cell c.in_ok-function.function c.from.result None c.in_ok-function.ensures.ok c.from.ensures
    (simp to_z-of_z at (sym c.is_index.ensures ∙ c.if-not-is_index.false)) (simp to_z-of_z at c.in-None.ensures)

pub returns-in-Some-clause-named : goal.returns-in-Some-clause-named
returns-in-Some-clause-named c =
    let fits : FitsSigned w32 c.in_ok-function.function = search rules in
    simp to_z-of_z (named_is c.args.state.now.functions c.in_ok-function.function c.from.result (Some c.in-Some.body)
    (simp to_z-of_z at (sym c.is_index.ensures ∙ c.if-not-is_index.false)) (simp to_z-of_z at c.in-Some.ensures))

pub returns-in-None-clause-told : goal.returns-in-None-clause-told
returns-in-None-clause-told c = λ fs at below left e.
    let fits : FitsSigned w32 c.in_ok-function.function = search rules in simp to_z-of_z (
      on_top _ below _ _ e c.in_ok-function.ensures.ok,
      rw c.from.ensures at (simp to_z-of_z at (sym c.is_index.ensures ∙ c.if-not-is_index.false)),
      named_is c.args.state.now.functions c.in_ok-function.function c.from.result None
          (simp to_z-of_z at (sym c.is_index.ensures ∙ c.if-not-is_index.false)) (simp to_z-of_z at c.in-None.ensures),
    )

pub returns-in_err-function-clause-told : goal.returns-in_err-function-clause-told
returns-in_err-function-clause-told c =
    told_by c.from_residual.result _ (TellsOfCall c.args.setting.now c.args.state.now c.args.cell)
    (λ fs at below left e.
    unknown_told _ below _ role.Function 0 _ e c.in_err-function.ensures.unknown c.in_err-function.ensures.told (setting_of c.args.setting.now) fs at (abstract_of c.args.state.now) left)
    c.from_residual.ensures.1

pub returns-then-not-is_index-clause-told : goal.returns-then-not-is_index-clause-told
returns-then-not-is_index-clause-told c =
    λ fs at below left e.
    let fits : FitsSigned w32 c.in_ok-function.function = search rules in simp to_z-of_z (
      on_top _ below _ _ e c.in_ok-function.ensures.ok,
      rw c.from.ensures at (simp to_z-of_z at (sym c.is_index.ensures ∙ c.if-not-is_index.true)),
    )
