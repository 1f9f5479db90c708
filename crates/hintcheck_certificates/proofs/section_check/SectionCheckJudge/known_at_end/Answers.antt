use Rattle.std.proofs.Common.{◌∙◌, ap, sym}
use Rattle.std.proofs.lemmas.Result.{IfOk-weaker}
use Rattle.tt_code.specs.Cut.{size}
use Rattle.tt_code.specs.Settings.{Setting as MachineSetting}
use Rattle.tt_family.specs.Contents.{family_of}
use Rattle.hintcheck_programs.specs.ProgramVerdicts.{with_start}
use Rattle.hintcheck_certificates.proofs.CheckRefusals.{passed_to_end}
use Rattle.hintcheck_programs.proofs.FontEnds.{listed_at_end}
use Rattle.hintcheck_programs.proofs.JudgeLaws.{comes_with}
use Rattle.hintcheck_certificates.proofs.section_check.SectionCheckJudge.known_at_end.Goals as goal

pub returns-clause-known : goal.returns-clause-known
returns-clause-known c = λ x p.
    IfOk-weaker c.from_slice.result _ _
    (λ known items.
    passed_to_end c.args.self.now.form (with_start x c.args._start.now) c.args.setting.now.main.now c.args.self.now.certificate.now c.len.result c.end_functions.result c.unwrap-functions.result
    known.items (c.requires.accepted x p) c.len.ensures.value c.end_functions.ensures.some c.unwrap-functions.ensures items)
    c.from_slice.ensures.items

pub returns-clause-can_start : goal.returns-clause-can_start
returns-clause-can_start c =
    let (x, p) = c.requires.program in
    IfOk-weaker c.from_slice.result _ _
    (λ known items.
    (passed_to_end c.args.self.now.form (with_start x c.args._start.now) c.args.setting.now.main.now c.args.self.now.certificate.now c.len.result c.end_functions.result c.unwrap-functions.result
    known.items (c.requires.accepted x p) c.len.ensures.value c.end_functions.ensures.some c.unwrap-functions.ensures items).known.ascends)
    c.from_slice.ensures.items

pub unwrap-functions-requires : goal.unwrap-functions-requires
unwrap-functions-requires c =
    let (x, p) = c.requires.program in
    let X = with_start x c.args._start.now in
    let main = c.args.setting.now.main.now in
    let (filling, fills, good) = (c.requires.accepted x p).filled in
    listed_at_end (X.setting main) X.functions (family_of c.args.self.now.certificate.now) filling c.len.result c.end_functions.result fills good
    (comes_with x c.args.setting.now p c.requires.ends) (c.len.ensures.value ∙ ap (λ (t : MachineSetting). size t.main) (sym p.setting)) c.end_functions.ensures.none
