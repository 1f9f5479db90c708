use Rattle.std.proofs.Common.{rules}
use Rattle.tt_symbolic.proofs.Keepings.{pairs_none_more}
use Rattle.tt_symbolic.proofs.kept.are_pairs_none_of.Goals as goal

pub loop-pair-preserved : goal.loop-pair-preserved
loop-pair-preserved c = pairs_none_more c.args.numbers.now c.loop-pair.pair c.args.state.now c.loop-pair.invariant (c.is_pair_none_of.ensures (search rules))
