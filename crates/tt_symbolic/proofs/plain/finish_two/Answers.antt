use Rattle.tt_symbolic.proofs.Plains.{finishes_two}
use Rattle.tt_symbolic.proofs.plain.finish_two.Goals as goal

pub returns : goal.returns
returns c = finishes_two c.args.count c.args.state.now c.cut.new.state c.put_any.new.state c.put_any-2.new.state c.cut.ensures c.in_ok-put_any.ensures c.in_ok-put_any-2.ensures
