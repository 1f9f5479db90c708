use Rattle.std.proofs.Common.{ℕ, List, subst}
use Rattle.tt_code.specs.declared.machine.Frame.{Frame}
use Rattle.tt_family.specs.Built.{AscendsByKey}
use Rattle.tt_family.proofs.Ascending.{IsFinished-from}
use Rattle.tt_family.proofs.builder.Builder.is_ascending.Goals as goal

pub returns : goal.returns
returns c = λ t.
    let R : List (ℕ × Frame) → Type 0 = λ x. AscendsByKey x in
    IsFinished-from _ _ _ _ c.self.view_is c.self.invariant (subst R c.as_slice.ensures.value (c.ascends.ensures t))
