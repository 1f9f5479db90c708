use Rattle.tt_setting.specs.Settings.{setting_of}
use Rattle.tt_symbolic.proofs.Results.{on_ok}
use Rattle.tt_symbolic.proofs.AreaFacts.{fits_there}
use Rattle.tt_symbolic.proofs.RefinedFacts.{read_at, read_any}
use Rattle.tt_symbolic.proofs.refined.read_control.Goals as goal

pub returns-in-Ok : goal.returns-in-Ok
returns-in-Ok c = on_ok c.put_control.result _ _ (read_at (setting_of c.args.setting.now) c.args.state.now c.cut.new.state c.put_control.new.state c.in_ok-cell.cell c.in-Ok.index c.in_ok-cell.ensures (λ v fits. c.is_index.ensures c.if-not-is_index.false v (fits_there _ _ v c.as_slice.ensures.value fits)) (λ v fits. c.in-Ok.ensures v (fits_there _ _ v c.as_slice-2.ensures.value fits)) c.cut.ensures) c.put_control.ensures

pub returns-in-Err : goal.returns-in-Err
returns-in-Err c = on_ok c.put_any.result _ _ (read_any (setting_of c.args.setting.now) c.args.state.now c.cut-in-Err.new.state c.put_any.new.state c.in_ok-cell.cell c.in_ok-cell.ensures (λ v fits. c.is_index.ensures c.if-not-is_index.false v (fits_there _ _ v c.as_slice.ensures.value fits)) c.cut-in-Err.ensures) c.put_any.ensures
