use Rattle.tt_symbolic.proofs.RefinedFacts.{pairs_more, pairs_none}
use Rattle.tt_symbolic.proofs.refined.forget_pairs.Goals as goal

pub loop-pair-init : goal.loop-pair-init
loop-pair-init c = pairs_none c.args.state.now

pub loop-pair-preserved : goal.loop-pair-preserved
loop-pair-preserved c = pairs_more c.loop-pair.pair c.args.state.now c.loop-pair.state c.forget_pair.new.state c.loop-pair.invariant c.in_ok-forget_pair.ensures
