use Rattle.tt_symbolic.proofs.AreaFacts.{changed_more}
use Rattle.tt_symbolic.proofs.changes.update_all.Goals as goal

pub loop-change-preserved : goal.loop-change-preserved
loop-change-preserved c = changed_more c.args.count c.loop-change.change-index c.args.changes.now _ c.args.state.now c.loop-change.state c.update.new.state c.loop-change-test.true c.loop-change.invariant c.in_ok-update.ensures
