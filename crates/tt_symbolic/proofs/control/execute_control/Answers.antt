use Rattle.tt_symbolic.proofs.Results.{on_ok}
use Rattle.tt_symbolic.proofs.control.execute_control.Goals as goal

pub returns-in-JumpIfTrue : goal.returns-in-JumpIfTrue
returns-in-JumpIfTrue c = on_ok c.jump_if.result _ _ (λ h. rw c.in-JumpIfTrue.is h) c.jump_if.ensures

pub returns-in-JumpIfFalse : goal.returns-in-JumpIfFalse
returns-in-JumpIfFalse c = on_ok c.jump_if-in-JumpIfFalse.result _ _ (λ h. rw c.in-JumpIfFalse.is h) c.jump_if-in-JumpIfFalse.ensures
