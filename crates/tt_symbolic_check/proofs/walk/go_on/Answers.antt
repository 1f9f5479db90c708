use Rattle.std.proofs.lemmas.Result.{on_ok_weaker}
use Rattle.tt_symbolic_check.proofs.Walkings.{go_reaches}
use Rattle.tt_symbolic_check.proofs.walk.go_on.Goals as goal

pub returns-in-Go : goal.returns-in-Go
returns-in-Go g c = on_ok_weaker c.carry_on.result (λ reaches. go_reaches c.args.setting.now c.args.kept.now c.args.walk.now c.carry_on.new.walk c.args.entry.may_stop c.args.entry.state.value reaches) c.carry_on.ensures
