use Rattle.std.proofs.Common.{arith}
use Rattle.tt_names.proofs.PostLemmas.{has_indices}
use Rattle.tt_names.proofs.post.index_of.Goals as goal

pub u16_at-requires : goal.u16_at-requires
u16_at-requires c = let there = has_indices c.args.post.now c.requires.format in omega arith
