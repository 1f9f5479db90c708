use Rattle.std.proofs.Common.{arith, refl}
use Rattle.tt_abs.proofs.CodedCells.{lowest_from_places}
use Rattle.tt_abs.proofs.stack.Stack.has_same_lowest.Goals as goal

pub returns : goal.returns
returns c = (
  λ _. lowest_from_places c.args.self.now c.args.other.now c.args.count c.requires.enough c.requires.enough_there (λ k lt. c.loop-place.invariant k (omega arith)),
  λ _. refl,
)
