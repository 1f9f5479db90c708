use Rattle.std.proofs.Common.{arith, inl, inr, refl, subst, sym, List}
use Rattle.tt_symbolic_check.specs.declared.walk.Pending.{Pending}
use Rattle.tt_symbolic_check.specs.Walking.{IsIn}
use Rattle.tt_symbolic_check.proofs.Walkings.{in_removed}
use Rattle.tt_symbolic_check.proofs.walk.take_pending.Goals as goal

pub returns-clause-some : goal.returns-clause-some
returns-clause-some c =
    let old = c.args.walk.now.pending.items in
    record {
      pending = λ q h. elim (in_removed old c.args.place c.remove.result q (omega arith) c.remove.ensures.value h) [
        | inl left ↦ inl (subst (λ (l : List Pending). IsIn l q) (sym c.remove.ensures.items) left)
        | inr same ↦ inr same
      ];
      heads = refl;
      ends = refl;
    }
