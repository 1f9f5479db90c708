use Rattle.std.proofs.Common.{rules, refl, sym, ap, ◌∙◌, List}
use Rattle.std.specs.Prelude.{FitsSigned}
use Rattle.std.specs.Int.{w32}
use Rattle.std.proofs.lemmas.Int.{to_z-of_z}
use Rattle.tt_code.specs.Cut.{Instruction}
use Rattle.tt_code.specs.Structure.{after_fdef}
use Rattle.tt_code.specs.Settings.{body_name}
use Rattle.tt_setting.specs.Settings.{setting_of}
use Rattle.tt_symbolic.proofs.AreaFacts.{fits_there}
use Rattle.tt_symbolic.proofs.Controls.{defines}
use Rattle.tt_symbolic.proofs.control.define.Goals as goal

pub returns : goal.returns
returns c =
    let z : FitsSigned w32 c.in_ok-number.number = search rules in
    defines c.args.setting.now c.args.point.now c.args.state.now c.pop.new.state (record c.pop.new.state { functions = c.put.new.self; offset = c.in-Some.after }) c.in_ok-top.top c.in_ok-number.number c.in_ok-function.function c.in-Some.after c.body_name-body.result c.requires (sym c.may_define.ensures ∙ c.if-not-may_define.false) c.in_ok-top.ensures
    (λ v fits. c.in_ok-number.ensures v (fits_there _ _ v c.as_slice.ensures.value fits)) (simp to_z-of_z at c.in_ok-function.ensures) (search rules) (ap (λ (q : List Instruction). after_fdef q c.args.point.now.offset) (sym c.program.ensures) ∙ sym c.in-Some.ensures.value) (c.body_name-body.ensures ∙ ap (body_name (setting_of c.args.setting.now).kind) c.in_ok-start.ensures) refl refl c.in_ok-put.ensures.ok
