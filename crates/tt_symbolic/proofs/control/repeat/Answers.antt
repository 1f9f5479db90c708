use Rattle.std.proofs.Common.{arith, refl, ap, ◌∙◌, ℕ, ℤ, ◌-ℤ◌, ◌+◌}
use Rattle.tt_symbolic_state.specs.Values.{value}
use Rattle.std.proofs.lemmas.Int.{ints}
use Rattle.tt_symbolic.proofs.AreaFacts.{fits_there}
use Rattle.tt_symbolic.proofs.Results.{on_ok}
use Rattle.tt_symbolic.proofs.Controls.{repeats_none, repeats_some}
use Rattle.tt_symbolic.proofs.control.repeat.Goals as goal

pub returns-then-high-le0 : goal.returns-then-high-le0
returns-then-high-le0 c = repeats_none c.args.state.now c.go_to.new.state c.args.body c.in_ok-next.next c.args.count (λ v fits. let b = c.in-Some.ensures v (fits_there _ _ v c.as_slice.ensures.value fits) in omega (arith, ints)) (c.in_ok-next.ensures ∙ ap (λ (n : ℕ). n + 1) c.requires) c.go_to.ensures

pub returns : goal.returns
returns c = on_ok c.enter.result _ _ (λ o. repeats_some c.args.state.now c.enter.new.state c.args.body c.args.count (record { body = c.args.body; call = c.args.state.now.offset; left = c.in-Some-difference.left }) (λ v fits. let b = c.in-Some.ensures v (fits_there _ _ v c.as_slice.ensures.value fits) in omega (arith, ints)) refl refl
    (λ v. c.in-Some-difference.ensures v ∙ ap (λ (x : ℤ). value v c.args.count -ℤ x) (c.known.ensures v)) o) c.enter.ensures
