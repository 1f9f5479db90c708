use Rattle.std.proofs.Common.{rules, refl}
use Rattle.std.specs.Prelude.{FitsSigned}
use Rattle.std.specs.Int.{w64}
use Rattle.std.proofs.lemmas.Int.{to_z-of_z}
use Rattle.tt_setting.specs.Settings.{setting_of}
use Rattle.tt_symbolic.proofs.AreaFacts.{fits_there}
use Rattle.tt_symbolic.proofs.RefinedFacts.{write_works, write_between}
use Rattle.tt_symbolic.proofs.refined.write_control.Goals as goal

pub returns-in-Ok : goal.returns-in-Ok
returns-in-Ok c = write_works (setting_of c.args.setting.now) c.args.state.now c.cut.new.state (record c.cut.new.state { controls = c.put.new.self }) c.in_ok-cell.cell c.in_ok-place.place c.in-Ok.index c.in_ok-cell.ensures c.in_ok-place.ensures (λ v fits. c.is_in_machine.ensures c.if-not-is_in_machine.false v (fits_there _ _ v c.as_slice.ensures.value fits)) (λ v fits. c.is_index.ensures c.if-not-is_index.false v (fits_there _ _ v c.as_slice-2.ensures.value fits)) (λ v fits. c.in-Ok.ensures v (fits_there _ _ v c.as_slice-3.ensures.value fits)) c.cut.ensures refl c.in_ok-put.ensures.ok

pub returns : goal.returns
returns c =
    let l : FitsSigned w64 c.in_ok-low.low = search rules in
    let h : FitsSigned w64 c.in_ok-low.high = search rules in
    write_between (setting_of c.args.setting.now) c.args.state.now c.cut-2.new.state (record c.cut-2.new.state { controls = c.forget.new.entries }) c.in_ok-cell.cell c.in_ok-place.place c.in_ok-low.low c.in_ok-low.high c.in_ok-cell.ensures c.in_ok-place.ensures (λ v fits. c.is_in_machine.ensures c.if-not-is_in_machine.false v (fits_there _ _ v c.as_slice.ensures.value fits)) (λ v fits. c.is_index.ensures c.if-not-is_index.false v (fits_there _ _ v c.as_slice-2.ensures.value fits)) (λ v fits. c.in_ok-low.ensures v (fits_there _ _ v c.as_slice-4.ensures.value fits)) c.cut-2.ensures refl (simp to_z-of_z at c.forget.ensures)
