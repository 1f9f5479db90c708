use Rattle.std.proofs.Common.{inl, inr, subst}
use Rattle.std.proofs.lemmas.Result.{IfOk-weaker}
use Rattle.tt_code.specs.Settings.{Setting as MachineSetting}
use Rattle.tt_family.specs.Contents.{family_of}
use Rattle.hintcheck_programs.specs.Representation.FontVerdicts.{ComesToEnd}
use Rattle.hintcheck_programs.specs.ProgramVerdicts.{with_start}
use Rattle.hintcheck_programs.proofs.EmptyPrograms.{least_without_instructions}
use Rattle.hintcheck_programs.proofs.FontEnds.{least_of}
use Rattle.hintcheck_programs.proofs.JudgeLaws.{refused_by, started, starts}
use Rattle.hintcheck_programs.proofs.finding.FindingJudge.judge.Goals as goal

pub returns-then-is_empty_glyph-clause-accepted : goal.returns-then-is_empty_glyph-clause-accepted
returns-then-is_empty_glyph-clause-accepted c = λ x p.
    let empty = c.is_empty_glyph.ensures.empty c.if-is_empty_glyph.true in
    let glyph = c.is_empty_glyph.ensures.glyph c.if-is_empty_glyph.true in
    record {
      least = least_without_instructions (with_start x c.args.start.now) c.args.setting.now (starts x c.args.setting.now c.args.start p).cut p.setting c.requires.0 empty glyph;
      found = elim [
        | inl certificate ↦ absurd (c.is_for_verdict.ensures c.if-is_for_verdict.true certificate)
        | inr comes ↦ absurd (glyph (subst (λ (t : MachineSetting). ComesToEnd t.kind) p.setting comes))
      ];
    }

pub returns-clause-refused : goal.returns-clause-refused
returns-clause-refused c = λ x p.
    let X = with_start x c.args.start.now in
    let subject = starts x c.args.setting.now c.args.start p in
    refused_by X (started c.args.setting.now c.args.start) c.find_and_check.result subject (c.find_and_check.ensures.refused X subject)
    (λ points contours k. c.find_and_check.ensures.none_good X points contours subject k)

pub returns-clause-accepted : goal.returns-clause-accepted
returns-clause-accepted c = λ x p.
    let X = with_start x c.args.start.now in
    let main = c.args.setting.now.main.now in
    let subject = starts x c.args.setting.now c.args.start p in
    IfOk-weaker c.find_and_check.result _ _ (λ _ here. record { least = least_of X main (family_of here.found.certificate) here.accepted; found = λ needed. here })
    (c.find_and_check.ensures.accepted X subject)
