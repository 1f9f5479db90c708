use Rattle.std.proofs.Common.{arith, refl, ap, ◌∙◌, ℤ, ◌-ℤ◌}
use Rattle.std.proofs.lemmas.Int.{ints}
use Rattle.tt_symbolic.proofs.AreaFacts.{fits_there}
use Rattle.tt_symbolic.proofs.Results.{on_ok}
use Rattle.tt_symbolic_state.specs.Values.{value}
use Rattle.tt_symbolic.proofs.Controls.{ends_return, ends_again}
use Rattle.tt_symbolic.proofs.control.end_function.Goals as goal

pub returns-then-high-le0 : goal.returns-then-high-le0
returns-then-high-le0 c = ends_return c.args.setting.now c.args.state.now c.close.new.state c.go_to.new.state c.in_ok-call.call c.in_ok-call.ensures c.in-Some-checked_add.next (λ v fits. let b = c.in-Some.ensures v (fits_there _ _ v c.as_slice.ensures.value fits) in omega (arith, ints)) c.in-Some-checked_add.ensures.1 c.go_to.ensures

pub returns : goal.returns
returns c = on_ok c.enter.result _ _ (λ o. ends_again c.args.setting.now c.args.state.now c.close.new.state c.enter.new.state c.in_ok-call.call c.in_ok-call.ensures (record { body = c.in_ok-call.call.body; call = c.in_ok-call.call.call; left = c.in-Some-difference.left }) (λ v fits. let b = c.in-Some.ensures v (fits_there _ _ v c.as_slice.ensures.value fits) in omega (arith, ints)) refl refl
    (λ v. c.in-Some-difference.ensures v ∙ ap (λ (x : ℤ). value v c.in_ok-call.call.left -ℤ x) (c.known.ensures v)) o) c.enter.ensures
