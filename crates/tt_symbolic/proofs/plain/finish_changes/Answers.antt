use Rattle.tt_symbolic.proofs.Plains.{finishes_changes}
use Rattle.tt_symbolic.proofs.plain.finish_changes.Goals as goal

pub returns : goal.returns
returns c = finishes_changes c.args.count c.args.changes.now c.args.state.now c.update_all.new.state c.cut.new.state c.in_ok-update_all.ensures c.cut.ensures
