use Rattle.std.proofs.Common.{subst}
use Rattle.tt_symbolic_state.specs.declared.state.State.{State}
use Rattle.tt_symbolic_check.specs.Copying.{IsCopy}
use Rattle.tt_symbolic_check.proofs.Walkings.{head_reaches}
use Rattle.tt_symbolic_check.proofs.walk.begin_head.Goals as goal

pub returns : goal.returns
returns c = λ setting kept. head_reaches setting kept c.args.entry.state c.args.entry.may_stop c.in_ok-head.head c.args.walk.now c.put_head.new.walk c.put_pending.new.walk
    (subst (λ (y : State). IsCopy y c.in_ok-head.head) c.deref.ensures c.in_ok-head.ensures)
    c.in_ok-put_head.ensures
    c.in_ok-put_pending.ensures
