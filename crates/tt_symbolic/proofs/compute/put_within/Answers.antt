use Rattle.tt_symbolic.proofs.Results.{on_ok, range_put}
use Rattle.tt_symbolic.proofs.compute.put_within.Goals as goal

pub returns : goal.returns
returns c = on_ok c.put-2.result _ _ (λ h. range_put c.args.state.now c.fresh.new.state c.put-2.new.state c.in_ok-cell.cell c.args.range c.in_ok-cell.ensures h) c.put-2.ensures
