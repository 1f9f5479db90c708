use Rattle.std.proofs.lemmas.Result.{IfErr-weaker}
use Rattle.hintcheck_programs.proofs.ProgramVerdictLemmas.{passed_on}
use Rattle.hintcheck_fonts.proofs.SymbolicAnswers.{answer_refuses}
use Rattle.hintcheck_fonts.proofs.symbolic_check.SymbolicCheckJudge.judge.Goals as goal

pub returns-in_err-self-in-Font-clause-refused : goal.returns-in_err-self-in-Font-clause-refused
returns-in_err-self-in-Font-clause-refused c = λ x is.
    let e = c.in_err-self-in-Font in
    passed_on c.from_residual.result e.field-0.0 _ c.from_residual.ensures.1 (answer_refuses x c.args.setting.now c.args.start.now e.field-0.0 is e.ensures.answer)

pub returns-in_err-self-in-Cvt-clause-refused : goal.returns-in_err-self-in-Cvt-clause-refused
returns-in_err-self-in-Cvt-clause-refused c = λ x is.
    let e = c.in_err-self-in-Cvt in
    let f = c.from_residual-in_err-self-in-Cvt in
    passed_on f.result e.field-0.0 _ f.ensures.1 (answer_refuses x c.args.setting.now c.args.start.now e.field-0.0 is e.ensures.answer)

pub returns-in-Glyph-clause-refused : goal.returns-in-Glyph-clause-refused
returns-in-Glyph-clause-refused c = λ x is.
    IfErr-weaker c.check_glyph.result _ _ (λ fault answer. answer_refuses x c.args.setting.now c.args.start.now fault is answer) (c.check_glyph.ensures.answer c.args.start.now)
