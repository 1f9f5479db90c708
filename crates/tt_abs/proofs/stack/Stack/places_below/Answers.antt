use Rattle.std.proofs.Common.{refl, arith}
use Rattle.tt_abs.proofs.StackOrders.{below_from_places}
use Rattle.tt_abs.proofs.stack.Stack.places_below.Goals as goal

pub returns : goal.returns
returns c = (λ _. below_from_places c.args.self.now c.args.other.now c.requires (λ k lt. c.loop-place.invariant.cells k (omega arith)), λ _. refl)
