use Rattle.hintcheck.proofs.ExplanationLemmas.{explained_by}
use Rattle.hintcheck.proofs.commands.explain_program.explain_in_lines.Goals as goal

pub returns-clause-status : goal.returns-clause-status
returns-clause-status g c = explained_by c.args.request.options.profile c.in_ok-by.by c.deref-2.result.now c.args.request.word.now c.in_ok-explained.explained c.exit_status.result c.in_ok-by.ensures.asked c.in_ok-explained.ensures.answered c.exit_status.ensures.status
