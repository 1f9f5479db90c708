use Rattle.tt_setting.specs.Settings.{setting_of}
use Rattle.hintcheck_explain.specs.declared.asked.Explained.{Explained}
use Rattle.hintcheck_programs.proofs.ProgramVerdictLemmas.{HasFlow}
use Rattle.hintcheck.proofs.ExplanationLemmas.{answered, failed_text}
use Rattle.hintcheck.proofs.explanation.explain_in.Goals as goal

pub returns-in_err-explain-clause-failures : goal.returns-in_err-explain-clause-failures
returns-in_err-explain-clause-failures g c = failed_text Explained c.in_err-explain.field-0.0 c.from_residual.result _ _ c.in_err-explain.ensures.failures c.from_residual.ensures.1

pub returns-clause-answered : goal.returns-clause-answered
returns-clause-answered g c = λ x subject same.
    let s = c.args.setting.now in
    let h : HasFlow (setting_of s) s.start.now = record { range = c.range_facts.ensures.range; short = c.range_facts.ensures.short; ascends = c.requires.ascends; fits = c.requires.fits } in
    answered x s c.args.asked.program c.in_ok-explain.field-0 subject same h c.in_ok-explain.ensures.answered
