use Rattle.tt_symbolic.proofs.Results.{cell_put, on_ok}
use Rattle.tt_symbolic.proofs.compute.put_answer.Goals as goal

pub returns-in-Exactly : goal.returns-in-Exactly
returns-in-Exactly c = on_ok c.put.result _ _ (λ h. rw c.in-Exactly.is (cell_put c.args.state.now c.put.new.state c.in-Exactly.cell h)) c.put.ensures

pub returns-in-Within : goal.returns-in-Within
returns-in-Within c = on_ok c.put_within.result _ _ (λ h. rw c.in-Within.is h) c.put_within.ensures
