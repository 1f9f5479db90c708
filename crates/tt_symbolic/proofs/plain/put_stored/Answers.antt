use Rattle.tt_symbolic.proofs.Results.{on_ok}
use Rattle.tt_symbolic.proofs.Plains.{stored_put}
use Rattle.tt_symbolic.proofs.plain.put_stored.Goals as goal

pub returns-in_ok-cell-in-None : goal.returns-in_ok-cell-in-None
returns-in_ok-cell-in-None c = on_ok c.put-in-None.result _ _ (stored_put c.args.index c.args.state.now c.list_stored.new.state c.put-in-None.new.state c.in_ok-cell-in-None.cell c.in_ok-cell-in-None.ensures) c.put-in-None.ensures
