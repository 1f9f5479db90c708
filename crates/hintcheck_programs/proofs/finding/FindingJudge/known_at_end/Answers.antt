use Rattle.std.proofs.Common.{◌∙◌, ap, inr, sym, subst}
use Rattle.std.specs.Option.{option_copied}
use Rattle.std.specs.Prelude.{is_some}
use Rattle.std.proofs.lemmas.Result.{IfOk-weaker}
use Rattle.tt_code.specs.Settings.{Setting as MachineSetting}
use Rattle.hintcheck_programs.specs.Representation.Judges.{AreWithin}
use Rattle.hintcheck_programs.specs.ProgramVerdicts.{with_start}
use Rattle.hintcheck_programs.proofs.JudgeLaws.{comes_with, end_is_found, known_in}
use Rattle.hintcheck_programs.proofs.finding.FindingJudge.known_at_end.Goals as goal

pub returns-clause-known : goal.returns-clause-known
returns-clause-known c = λ x p.
    let lent = sym c.certificate.ensures.value ∙ ap option_copied c.unwrap-certificate.ensures in
    IfOk-weaker c.from_slice.result _ _
    (λ known items.
    known_in c.args.self.now (with_start x c.args._start.now) c.args.setting.now.main.now c.unwrap-certificate.result.now c.len.result c.end_functions.result c.unwrap-functions.result
    known.items (c.requires.accepted x p) (comes_with x c.args.setting.now p c.requires.ends) lent c.len.ensures.value c.end_functions.ensures.some c.unwrap-functions.ensures items)
    c.from_slice.ensures.items

pub returns-clause-can_start : goal.returns-clause-can_start
returns-clause-can_start c =
    let (x, p) = c.requires.program in
    let lent = sym c.certificate.ensures.value ∙ ap option_copied c.unwrap-certificate.ensures in
    IfOk-weaker c.from_slice.result _ _
    (λ known items.
    let there = known_in c.args.self.now (with_start x c.args._start.now) c.args.setting.now.main.now c.unwrap-certificate.result.now c.len.result c.end_functions.result
    c.unwrap-functions.result known.items (c.requires.accepted x p) (comes_with x c.args.setting.now p c.requires.ends) lent c.len.ensures.value c.end_functions.ensures.some
    c.unwrap-functions.ensures items in
    (there.known.ascends, subst (λ (t : MachineSetting). AreWithin t.limits known.items) p.setting there.known.fits))
    c.from_slice.ensures.items

pub unwrap-certificate-requires : goal.unwrap-certificate-requires
unwrap-certificate-requires c =
    let (x, p) = c.requires.program in
    let here = (c.requires.accepted x p).found (inr (comes_with x c.args.setting.now p c.requires.ends)) in
    c.certificate.ensures.variant ∙ ap is_some here.is_kept

pub unwrap-functions-requires : goal.unwrap-functions-requires
unwrap-functions-requires c =
    let (x, p) = c.requires.program in
    let lent = sym c.certificate.ensures.value ∙ ap option_copied c.unwrap-certificate.ensures in
    end_is_found c.args.self.now (with_start x c.args._start.now) c.args.setting.now c.unwrap-certificate.result.now c.len.result c.end_functions.result (c.requires.accepted x p) p.setting
    c.requires.ends lent c.len.ensures.value c.end_functions.ensures.none
