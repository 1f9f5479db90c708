use Rattle.std.proofs.Common.{Bor, ap, subst}
use Rattle.std.proofs.lemmas.Result.{IfOk-weaker}
use Rattle.tt_font.specs.Reading.{FontData}
use Rattle.hintcheck.specs.Explanations.{TellsProgram}
use Rattle.hintcheck_programs.specs.Representation.ProgramOrder.{stage_of}
use Rattle.hintcheck.proofs.AnswerLemmas.{unwritten_failures}
use Rattle.hintcheck.proofs.ExplanationLemmas.{next_told}
use Rattle.hintcheck.proofs.explanation.explain_judged.Goals as goal

pub returns-clause-tells : goal.returns-clause-tells
returns-clause-tells g c =
    let programs = c.refused_before.new.programs in
    let (x, next, name, kept) = c.in_ok-refused.ensures.there c.in_default.is in
    let font = ap (λ (f : Bor FontData). f.now) c.refused_before.ensures.font in
    IfOk-weaker c.tell_next.result _ _
    (λ e judged. subst (λ (d : FontData). TellsProgram d c.args.called e) font (next_told programs.font.now c.args.called (stage_of programs) x e next name kept judged))
    (c.tell_next.ensures.answered x next)

pub returns-in_err-refused-clause-failures : goal.returns-in_err-refused-clause-failures
returns-in_err-refused-clause-failures g c = unwritten_failures c.in_err-refused.field-0.0 c.from_residual.result _ c.from_residual.ensures.1 c.in_err-refused.ensures.unwritten
