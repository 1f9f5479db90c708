use Rattle.hintcheck.proofs.ExplanationLemmas.{explained_by}
use Rattle.hintcheck.proofs.commands.explain_program.explain_in_object.Goals as goal

pub returns-in_ok-print_explanation-in-Ok-clause-status : goal.returns-in_ok-print_explanation-in-Ok-clause-status
returns-in_ok-print_explanation-in-Ok-clause-status g c =
    let told = c.in-Ok.told in
    let (bytes, answered) = c.in-Ok.ensures.answered in
    explained_by c.args.request.options.profile told.by bytes c.args.request.word.now told.explained c.exit_status.result c.in-Ok.ensures.asked answered c.exit_status.ensures.status
