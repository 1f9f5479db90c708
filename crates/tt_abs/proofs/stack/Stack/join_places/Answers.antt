use Rattle.std.proofs.Common.{arith}
use Rattle.tt_abs.proofs.StackOrders.{least_from_places}
use Rattle.tt_abs.proofs.stack.Stack.join_places.Goals as goal

pub returns : goal.returns
returns c =
    least_from_places c.args.self.now c.args.other.now c.loop-place.self c.requires c.loop-place.invariant.depth (λ k lt. c.loop-place.invariant.done k (omega arith))
