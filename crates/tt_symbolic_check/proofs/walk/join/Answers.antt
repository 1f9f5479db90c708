use Rattle.std.proofs.Common.{subst, Bool}
use Rattle.std.proofs.lemmas.Result.{on_ok_weaker}
use Rattle.tt_symbolic_check.specs.Walking.{PutsPending}
use Rattle.tt_symbolic_check.proofs.Walkings.{join_reaches}
use Rattle.tt_symbolic_check.proofs.walk.join.Goals as goal

pub returns : goal.returns
returns c =
    let other = c.in-Some.other in
    let walk = c.take_pending.new.walk in
    let new = c.put_pending-2.new.walk in
    on_ok_weaker c.put_pending-2.result (λ puts setting kept. join_reaches setting kept c.args.entry.state.value c.args.entry.may_stop other c.args.joined c.args.walk.now walk new c.in-Some.ensures.some c.requires.one (c.requires.other other c.in-Some.ensures.found)
    (subst (λ (b : Bool). PutsPending c.args.joined b walk new) c.both.ensures puts)) c.put_pending-2.ensures
