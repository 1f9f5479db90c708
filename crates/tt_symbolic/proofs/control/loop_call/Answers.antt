use Rattle.std.proofs.Common.{rules, sym, ap, ◌∙◌}
use Rattle.std.specs.Prelude.{FitsSigned}
use Rattle.std.specs.Int.{w32}
use Rattle.std.proofs.lemmas.Int.{to_z-of_z}
use Rattle.tt_symbolic_state.specs.declared.state.State.{State}
use Rattle.tt_symbolic.proofs.AreaFacts.{fits_there}
use Rattle.tt_symbolic.proofs.Results.{on_ok}
use Rattle.tt_symbolic.proofs.Controls.{loop_leads}
use Rattle.tt_symbolic.proofs.control.loop_call.Goals as goal

pub repeat-requires : goal.repeat-requires
repeat-requires c = c.requires.offset_is ∙ sym (ap (λ (a : State). a.offset) c.in_ok-count.ensures.same ∙ ap (λ (a : State). a.offset) c.in_ok-top.ensures.same)

pub returns : goal.returns
returns c =
    let z : FitsSigned w32 c.in_ok-function.function = search rules in
    on_ok c.repeat.result _ _ (λ r. loop_leads c.args.setting.now c.args.state.now c.pop.new.state c.pop-2.new.state c.repeat.new.state c.in_ok-top.top c.in_ok-count.count c.in_ok-function.function c.in_ok-body.body c.in_ok-top.ensures c.in_ok-count.ensures (λ v fits. c.in_ok-function.ensures v (fits_there _ _ v c.as_slice.ensures.value fits)) (simp to_z-of_z at c.in_ok-body.ensures) r) c.repeat.ensures
