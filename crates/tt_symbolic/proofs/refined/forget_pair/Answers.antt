use Rattle.std.proofs.Common.{rules}
use Rattle.std.specs.Prelude.{FitsSigned}
use Rattle.std.specs.Int.{w64}
use Rattle.std.proofs.lemmas.Int.{to_z-of_z}
use Rattle.tt_symbolic.proofs.AreaFacts.{fits_there}
use Rattle.tt_symbolic.proofs.RefinedFacts.{forgets_pair}
use Rattle.tt_symbolic.proofs.refined.forget_pair.Goals as goal

pub returns : goal.returns
returns c =
    let l : FitsSigned w64 c.in-Ok.low = search rules in
    let h : FitsSigned w64 c.in-Ok.high = search rules in
    forgets_pair c.args.pair c.args.state.now c.forget.new.entries c.in_ok-place.place c.in-Ok.low c.in-Ok.high c.in_ok-place.ensures (λ v fits. c.in-Ok.ensures v (fits_there _ _ v c.as_slice.ensures.value fits)) (simp to_z-of_z at c.forget.ensures)
