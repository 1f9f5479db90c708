use Rattle.std.proofs.Common.{List, subst}
use Rattle.tt_symbolic_state.specs.declared.cell.Range.{Range}
use Rattle.tt_symbolic_cells.specs.Answers.{AnswersResult}
use Rattle.tt_symbolic.proofs.Results.{two_computes, on_ok}
use Rattle.tt_symbolic.proofs.compute.compute_two.Goals as goal

pub returns : goal.returns
returns c = on_ok c.put_answer.result _ _ (two_computes c.args.operation c.args.state.now c.pop.new.state c.pop-2.new.state c.put_answer.new.state c.in_ok-second.second c.in_ok-top.top c.result_of_two-answer.result c.requires c.in_ok-top.ensures c.in_ok-second.ensures
    (subst (λ (l : List Range). AnswersResult c.args.operation c.in_ok-second.second c.in_ok-top.top l c.result_of_two-answer.result) c.as_slice.ensures.value c.result_of_two-answer.ensures)) c.put_answer.ensures
