use Rattle.std.proofs.Common.{rules}
use Rattle.std.specs.Prelude.{FitsSigned}
use Rattle.std.specs.Int.{w64}
use Rattle.std.proofs.lemmas.Int.{to_z-of_z}
use Rattle.tt_symbolic.proofs.AreaFacts.{stores, stores_between, fits_there}
use Rattle.tt_symbolic.proofs.Results.{on_ok}
use Rattle.tt_symbolic.proofs.changes.store.Goals as goal

pub returns-in-Ok : goal.returns-in-Ok
returns-in-Ok c = on_ok c.store_at.result _ _ (λ h. stores c.args.state.now c.store_at.new.state c.args.count c.args.at c.args.position c.in-Ok.index c.in_ok-place.place c.in_ok-cell.cell h c.in_ok-place.ensures
    (λ v fits. c.in-Ok.ensures v (fits_there _ _ v c.as_slice-ranges.ensures.value fits)) c.in_ok-cell.ensures (λ v fits. c.is_in_machine.ensures (search rules) v (fits_there _ _ v c.as_slice-ranges.ensures.value fits))) c.store_at.ensures

pub returns : goal.returns
returns c =
    let l : FitsSigned w64 c.in_ok-low.low = search rules in
    let h : FitsSigned w64 c.in_ok-low.high = search rules in
    stores_between c.args.state.now c.store_between.new.state c.args.count c.args.at c.args.position c.in_ok-low.low c.in_ok-low.high c.in_ok-place.place c.in_ok-cell.cell (simp to_z-of_z at c.store_between.ensures) c.in_ok-place.ensures
    (λ v fits. c.in_ok-low.ensures v (fits_there _ _ v c.as_slice-ranges.ensures.value fits)) c.in_ok-cell.ensures (λ v fits. c.is_in_machine.ensures (search rules) v (fits_there _ _ v c.as_slice-ranges.ensures.value fits))
