use Rattle.std.proofs.Common.{subst, sym}
use Rattle.std.specs.Box.{with_value}
use Rattle.tt_symbolic_state.specs.declared.state.State.{State}
use Rattle.tt_symbolic_check.specs.Copying.{IsCopy, IsUpper}
use Rattle.tt_symbolic_check.proofs.Walkings.{parts_split, split_reaches}
use Rattle.tt_symbolic_check.proofs.walk.split_up.Goals as goal

pub returns : goal.returns
returns c =
    let copied = subst (λ (y : State). IsCopy y c.in_ok-low.low.value) c.deref.ensures c.in_ok-low.ensures in
    let boxed = subst (λ (y : State). IsCopy c.args.entry.state.value y) (sym c.deref_mut.ensures.value) copied in
    let upper = subst (λ (y : State). IsUpper c.args.split y c.raise.new.state) c.deref_mut-2.ensures.value c.raise.ensures in
    λ setting kept. split_reaches setting kept c.args.entry.state.value c.args.entry.may_stop (with_value c.in_ok-low.low c.lower.new.state) (with_value c.args.entry.state c.raise.new.state) c.args.walk.now c.put_pending.new.walk c.put_pending-2.new.walk
    (parts_split c.args.split c.args.entry.state.value c.deref_mut.result.now c.lower.new.state c.raise.new.state boxed c.lower.ensures upper)
    c.in_ok-put_pending.ensures c.in_ok-put_pending-2.ensures
