use Rattle.std.proofs.Common.{arith}
use Rattle.tt_find.proofs.successor.resolve_successor.Goals as goal

pub unreachable-requires : goal.unreachable-requires
unreachable-requires c =
    let (before, frames, above, (f, fs, at, last)) = c.in-Beyond.ensures in
    let (call, turn) = c.requires.countable f fs at in omega arith
