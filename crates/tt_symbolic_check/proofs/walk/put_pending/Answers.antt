use Rattle.std.proofs.Common.{refl, subst, sym, List}
use Rattle.tt_symbolic_state.specs.declared.state.State.{State}
use Rattle.tt_symbolic_check.specs.declared.walk.Pending.{Pending}
use Rattle.tt_symbolic_check.specs.Walking.{IsIn}
use Rattle.tt_symbolic_check.proofs.Walkings.{in_insert, insert_in}
use Rattle.tt_symbolic_check.proofs.walk.put_pending.Goals as goal

pub returns : goal.returns
returns c =
    let old = c.args.walk.now.pending.items in
    let p : Pending = record { state = c.args.state; may_stop = c.args.may_stop } in
    record {
      waits = subst (λ (l : List Pending). IsIn l p) (sym c.in_ok-insert.ensures.items) (insert_in old c.min-place.result p);
      pending = λ q h. subst (λ (l : List Pending). IsIn l q) (sym c.in_ok-insert.ensures.items) (in_insert old c.min-place.result p q h);
      heads = refl {A = List State};
      ends = refl {A = List State};
    }
