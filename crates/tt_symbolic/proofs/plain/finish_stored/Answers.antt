use Rattle.tt_symbolic.proofs.AreaFacts.{fits_there}
use Rattle.tt_symbolic.proofs.Plains.{finishes_stored, finishes_stored_any}
use Rattle.tt_symbolic.proofs.plain.finish_stored.Goals as goal

pub returns-in_ok-put_stored-in-Ok : goal.returns-in_ok-put_stored-in-Ok
returns-in_ok-put_stored-in-Ok c = finishes_stored c.args.count c.in-Ok.index c.args.position c.in_ok-cell.cell c.args.state.now c.cut.new.state c.put_stored.new.state c.in_ok-cell.ensures (λ v fits. c.in-Ok.ensures v (fits_there _ _ v c.as_slice.ensures.value fits)) c.cut.ensures c.in_ok-put_stored-in-Ok.ensures

pub returns-in_ok-put_any-in-Err : goal.returns-in_ok-put_any-in-Err
returns-in_ok-put_any-in-Err c = finishes_stored_any c.args.count c.args.position c.args.state.now c.cut-in-Err.new.state c.put_any.new.state c.cut-in-Err.ensures c.in_ok-put_any-in-Err.ensures
