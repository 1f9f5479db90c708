use Rattle.std.proofs.Common.{◌≡◌, refl, sym, ◌∙◌, subst}
use Rattle.tt_code.specs.Changes.{plain}
use Rattle.tt_code.specs.declared.kinds.Refinement.TheVariants as kinds
use Rattle.tt_setting.specs.Settings.{setting_of}
use Rattle.tt_symbolic_state.specs.declared.state.State.{State}
use Rattle.tt_symbolic.specs.Representation.Plain.{line_of}
use Rattle.tt_symbolic.specs.Representation.Refined.{of_one_line, of_two_line, read_line, write_line}
use Rattle.tt_symbolic.specs.Sound.{Works, keeps_controls}
use Rattle.tt_symbolic.proofs.AreaFacts.{fits_there}
use Rattle.tt_symbolic.proofs.Plains.{plain_works}
use Rattle.tt_symbolic.proofs.RefinedFacts.{changes_work}
use Rattle.tt_symbolic.proofs.Results.{on_ok}
use Rattle.tt_symbolic.proofs.Steppings.{line_works, refined_works}
use Rattle.tt_symbolic.proofs.step.execute_line.Goals.{in-Ordinary, in-ChangesControls+in_ok-count-in-ChangesControls+in_ok-forget_pairs-in-ChangesControls}
use Rattle.tt_symbolic.proofs.step.execute_line.Goals as goal

pub returns-in-ReadsControl : goal.returns-in-ReadsControl
returns-in-ReadsControl c = on_ok c.read_control.result _ _ (line_works (setting_of c.args.setting.now) kinds.ReadsControl read_line (line_of c.args.line.now) c.args.code c.args.state.now c.read_control.new.state c.requires (sym c.refinement.ensures ∙ c.in-ReadsControl.is) refl) c.read_control.ensures

pub returns-in-WritesControl : goal.returns-in-WritesControl
returns-in-WritesControl c = on_ok c.write_control.result _ _ (line_works (setting_of c.args.setting.now) kinds.WritesControl write_line (line_of c.args.line.now) c.args.code c.args.state.now c.write_control.new.state c.requires (sym c.refinement.ensures ∙ c.in-WritesControl.is) refl) c.write_control.ensures

pub returns-in-ChangesControl : goal.returns-in-ChangesControl
returns-in-ChangesControl c = on_ok c.change_control.result _ _ (line_works (setting_of c.args.setting.now) kinds.ChangesControl write_line (line_of c.args.line.now) c.args.code c.args.state.now c.change_control.new.state c.requires (sym c.refinement.ensures ∙ c.in-ChangesControl.is) refl) c.change_control.ensures

pub returns-in-Greatest : goal.returns-in-Greatest
returns-in-Greatest c = on_ok c.compute_exact_of_two.result _ _ (line_works (setting_of c.args.setting.now) kinds.Greatest of_two_line (line_of c.args.line.now) c.args.code c.args.state.now c.compute_exact_of_two.new.state c.requires (sym c.refinement.ensures ∙ c.in-Greatest.is) refl) c.compute_exact_of_two.ensures

pub returns-in-Least : goal.returns-in-Least
returns-in-Least c = on_ok c.compute_exact_of_two-in-Least.result _ _ (line_works (setting_of c.args.setting.now) kinds.Least of_two_line (line_of c.args.line.now) c.args.code c.args.state.now c.compute_exact_of_two-in-Least.new.state c.requires (sym c.refinement.ensures ∙ c.in-Least.is) refl) c.compute_exact_of_two-in-Least.ensures

pub returns-in-Product : goal.returns-in-Product
returns-in-Product c = on_ok c.compute_exact_of_two-in-Product.result _ _ (line_works (setting_of c.args.setting.now) kinds.Product of_two_line (line_of c.args.line.now) c.args.code c.args.state.now c.compute_exact_of_two-in-Product.new.state c.requires (sym c.refinement.ensures ∙ c.in-Product.is) refl) c.compute_exact_of_two-in-Product.ensures

pub returns-in-Quotient : goal.returns-in-Quotient
returns-in-Quotient c = on_ok c.compute_exact_of_two-in-Quotient.result _ _ (line_works (setting_of c.args.setting.now) kinds.Quotient of_two_line (line_of c.args.line.now) c.args.code c.args.state.now c.compute_exact_of_two-in-Quotient.new.state c.requires (sym c.refinement.ensures ∙ c.in-Quotient.is) refl) c.compute_exact_of_two-in-Quotient.ensures

pub returns-in-Floor : goal.returns-in-Floor
returns-in-Floor c = on_ok c.compute_exact_of_one.result _ _ (line_works (setting_of c.args.setting.now) kinds.Floor of_one_line (line_of c.args.line.now) c.args.code c.args.state.now c.compute_exact_of_one.new.state c.requires (sym c.refinement.ensures ∙ c.in-Floor.is) refl) c.compute_exact_of_one.ensures

pub returns-in-Ceiling : goal.returns-in-Ceiling
returns-in-Ceiling c = on_ok c.compute_exact_of_one-in-Ceiling.result _ _ (line_works (setting_of c.args.setting.now) kinds.Ceiling of_one_line (line_of c.args.line.now) c.args.code c.args.state.now c.compute_exact_of_one-in-Ceiling.new.state c.requires (sym c.refinement.ensures ∙ c.in-Ceiling.is) refl) c.compute_exact_of_one-in-Ceiling.ensures

pub returns : goal.returns
returns c = on_ok c.finish.result _ _ (λ finishes.
    let S = setting_of c.args.setting.now in
    let works : Works (λ m. plain S m (line_of c.args.line.now)) keeps_controls c.match-refinement.state c.finish.new.state =
    plain_works S (line_of c.args.line.now) c.match-refinement.state c.finish.new.state c.in_ok-count.count (λ v fits. c.in_ok-count.ensures v (fits_there _ _ v c.as_slice-ranges.ensures.value fits)) (λ v fits. c.in_ok-test_uses.ensures v (fits_there _ _ v c.as_slice-ranges.ensures.value fits)) finishes in
    let from : (a : State) → c.match-refinement.state ≡ a → Works (λ m. plain S m (line_of c.args.line.now)) keeps_controls a c.finish.new.state = λ a is. subst (λ (a : State). Works (λ m. plain S m (line_of c.args.line.now)) keeps_controls a c.finish.new.state) is works in
    elim c.match-refinement.branch [
      | in-Ordinary w ↦ refined_works S kinds.Ordinary (line_of c.args.line.now) c.args.code c.args.state.now c.finish.new.state (sym c.refinement.ensures ∙ w.in-Ordinary.is) (from _ w.state-is)
      | in-ChangesControls+in_ok-count-in-ChangesControls+in_ok-forget_pairs-in-ChangesControls w ↦
          let (top, is, known) = w.in_ok-count-in-ChangesControls.ensures in
          refined_works S kinds.ChangesControls (line_of c.args.line.now) c.args.code c.args.state.now c.finish.new.state (sym c.refinement.ensures ∙ w.in-ChangesControls.is)
          (changes_work (λ m. plain S m (line_of c.args.line.now)) c.args.state.now w.forget_pairs.new.state c.finish.new.state w.in_ok-count-in-ChangesControls.count top is known w.in_ok-forget_pairs-in-ChangesControls.ensures (from _ w.state-is))
    ]) c.finish.ensures
