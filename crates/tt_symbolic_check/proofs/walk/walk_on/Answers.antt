use Rattle.tt_symbolic_check.proofs.Walkings.{nothing_reaches, reaches_none, reaches_on, take_reaches}
use Rattle.tt_symbolic_check.proofs.walk.walk_on.Goals as goal

pub loop-step-init : goal.loop-step-init
loop-step-init g c = reaches_none c.args.setting.now c.args.kept.now c.args.walk.now

pub loop-step-preserved : goal.loop-step-preserved
loop-step-preserved g c = reaches_on c.args.setting.now c.args.kept.now c.args.walk.now c.loop-step.walk c.go_on.new.walk c.loop-step.invariant (take_reaches c.args.setting.now c.args.kept.now c.loop-step.walk c.take_next.new.walk c.go_on.new.walk c.in-Some.entry c.in-Some.ensures.some c.in_default-go_on.ensures)

pub returns-in_default-clause-finishes : goal.returns-in_default-clause-finishes
returns-in_default-clause-finishes g c =
    let n = c.take_next.ensures.none c.in_default.is in
    record { none_pending = n.pending; reaches = reaches_on c.args.setting.now c.args.kept.now c.args.walk.now c.loop-step.walk c.take_next.new.walk c.loop-step.invariant (nothing_reaches c.args.setting.now c.args.kept.now c.loop-step.walk c.take_next.new.walk n) }
