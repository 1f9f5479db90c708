use Rattle.hintcheck.proofs.ExplanationLemmas.{failed_text}
use Rattle.hintcheck.proofs.symbolic_explanation.tell_program.Goals as goal

pub returns-in_err-explain_symbolic : goal.returns-in_err-explain_symbolic
returns-in_err-explain_symbolic g c = record {
  failures = failed_text (Unit {0}) c.in_err-explain_symbolic.field-0.0 c.from_residual-in_err-explain_symbolic.result _ _ c.in_err-explain_symbolic.ensures.failures c.from_residual-in_err-explain_symbolic.ensures.1;
}
