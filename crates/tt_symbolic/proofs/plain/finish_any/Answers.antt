use Rattle.tt_symbolic.proofs.Plains.{finishes_any}
use Rattle.tt_symbolic.proofs.plain.finish_any.Goals as goal

pub returns : goal.returns
returns c = finishes_any c.args.count c.args.state.now c.cut.new.state c.put_any.new.state c.cut.ensures c.in_ok-put_any.ensures
