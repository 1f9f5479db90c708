use Rattle.tt_symbolic.proofs.Results.{on_ok}
use Rattle.tt_symbolic.proofs.Plains.{any_put}
use Rattle.tt_symbolic.proofs.plain.put_any.Goals as goal

pub returns : goal.returns
returns c = on_ok c.put.result _ _ (any_put c.args.state.now c.fresh.new.state c.put.new.state c.in_ok-cell.cell c.in_ok-cell.ensures) c.put.ensures
