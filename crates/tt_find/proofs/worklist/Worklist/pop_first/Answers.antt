use Rattle.std.proofs.Common.{ℕ, Option, subst}
use Rattle.tt_find.specs.Representation.Worklist.{AreInOrder}
use Rattle.tt_find.proofs.Waits.{popped_apart}
use Rattle.tt_find.proofs.worklist.Worklist.pop_first.Goals as goal

pub returns-in-Some-clause-apart : goal.returns-in-Some-clause-apart
returns-in-Some-clause-apart c =
    let I : Option (ℕ × ℕ) → Type 0 = λ x. AreInOrder x c.self.inside.rest in
    popped_apart c.in-Some.point c.self.inside.rest c.pop_first-self-inside.new.self c.pop_first-self-inside.result (subst I c.in-Some.is c.self.invariant) c.pop_first-self-inside.ensures.removal
