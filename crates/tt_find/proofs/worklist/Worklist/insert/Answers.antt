use Rattle.std.specs.Prelude.{ℕ, Option}
use Rattle.std.proofs.Common.{subst, sym}
use Rattle.tt_find.specs.Representation.Worklist.{AreInOrder}
use Rattle.tt_find.proofs.Waits.{order_grown, order_replaced}
use Rattle.tt_find.proofs.worklist.Worklist.insert.Goals as goal

pub invariant_of-self-in-Less : goal.invariant_of-self-in-Less
invariant_of-self-in-Less c =
    let I : Option (ℕ × ℕ) → Type 0 = λ x. AreInOrder x c.self.inside.rest in
    order_replaced c.args.point c.in-Some.next c.self.inside.rest c.insert.new.self c.in-Less.ensures (subst I c.in-Some.is c.self.invariant) c.in_default-insert.ensures.keys

pub invariant_of-self-in_default-insert-2 : goal.invariant_of-self-in_default-insert-2
invariant_of-self-in_default-insert-2 c =
    let I : Option (ℕ × ℕ) → Type 0 = λ x. AreInOrder x c.self.inside.rest in
    let J : Option (ℕ × ℕ) → Type 0 = λ x. AreInOrder x c.insert-in-Greater.new.self in
    subst J (sym c.in-Some.is)
    (order_grown c.args.point c.in-Some.next c.self.inside.rest c.insert-in-Greater.new.self c.in-Greater.ensures (subst I c.in-Some.is c.self.invariant) c.in_default-insert-2.ensures.keys)
