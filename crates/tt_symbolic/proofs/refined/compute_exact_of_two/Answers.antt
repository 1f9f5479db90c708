use Rattle.std.proofs.Common.{subst, List}
use Rattle.tt_setting.specs.Settings.{setting_of}
use Rattle.tt_symbolic_state.specs.declared.cell.Range.{Range}
use Rattle.tt_symbolic_cells.specs.Answers.{AnswersExact}
use Rattle.tt_symbolic.proofs.Results.{on_ok}
use Rattle.tt_symbolic.proofs.RefinedFacts.{exact_two}
use Rattle.tt_symbolic.proofs.refined.compute_exact_of_two.Goals as goal

pub returns : goal.returns
returns c = on_ok c.put_answer.result _ _ (exact_two c.args.operation (setting_of c.args.setting.now) c.args.state.now c.pop.new.state c.pop-2.new.state c.put_answer.new.state c.in_ok-second.second c.in_ok-top.top c.answer_of_two-answer.result c.requires c.in_ok-top.ensures c.in_ok-second.ensures
    (subst (λ (l : List Range). AnswersExact c.args.operation c.in_ok-second.second c.in_ok-top.top l c.answer_of_two-answer.result) c.as_slice.ensures.value c.answer_of_two-answer.ensures)) c.put_answer.ensures
