use Rattle.std.proofs.Common.{drop}
use Rattle.tt_symbolic_state.specs.Shows.{values}
use Rattle.tt_symbolic_cells.specs.Taking.{below_bound}
use Rattle.tt_symbolic_cells.proofs.Takings.{times_start, times_step, times_end}
use Rattle.tt_symbolic_cells.proofs.operands.take_many.Goals as goal

pub loop-i-init : goal.loop-i-init
loop-i-init c = λ v fits r. times_start (below_bound c.args.bound r) c.args.count (drop c.args.taken (values v c.args.stack.now))

pub loop-i-preserved : goal.loop-i-preserved
loop-i-preserved c = λ v fits r.
    times_step (below_bound c.args.bound r) c.args.count c.loop-i.i _ (drop c.loop-i.after (values v c.args.stack.now)) (drop c.in_ok-after.after (values v c.args.stack.now)) c.loop-i-test.true (c.loop-i.invariant v fits r) (c.in_ok-after.ensures v fits r)

pub returns : goal.returns
returns c = λ v fits r. times_end (below_bound c.args.bound r) c.args.count c.loop-i.i _ (drop c.loop-i.after (values v c.args.stack.now)) c.loop-i-test.false (c.loop-i.invariant v fits r)
