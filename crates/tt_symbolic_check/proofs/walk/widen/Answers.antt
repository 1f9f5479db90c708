use Rattle.std.proofs.lemmas.Result.{on_ok_weaker}
use Rattle.tt_symbolic_check.proofs.Walkings.{widen_reaches}
use Rattle.tt_symbolic_check.proofs.walk.widen.Goals as goal

pub returns : goal.returns
returns c = on_ok_weaker c.put_pending.result (λ puts setting kept. widen_reaches setting kept c.args.entry.state.value c.args.entry.may_stop c.args.wider c.args.walk.now c.put_pending.new.walk c.requires puts) c.put_pending.ensures
