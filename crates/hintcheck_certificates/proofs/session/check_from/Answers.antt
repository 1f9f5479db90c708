use Rattle.std.proofs.Common.{Bor, sym, subst}
use Rattle.std.proofs.lemmas.Result.{err_from_is_err_and}
use Rattle.tt_cert.specs.Answers.{input_at}
use Rattle.tt_font.specs.Reading.{FontData}
use Rattle.tt_stream.proofs.Beginnings.{consumes_then}
use Rattle.hintcheck_programs.specs.Representation.ProgramOrder.{stage_of}
use Rattle.hintcheck_certificates.specs.Representation.SessionStages.{KeepsGood, read_of}
use Rattle.hintcheck_certificates.specs.Sessions.{at_section, standing_at}
use Rattle.hintcheck_certificates.proofs.CheckedSections.{finds_fault}
use Rattle.hintcheck_certificates.proofs.SessionSteps.{stays_good}
use Rattle.hintcheck_certificates.proofs.FailedReads.{cut_short_after}
use Rattle.hintcheck_certificates.proofs.session.check_from.Goals as goal

pub returns-in_err-answer-clause-exact : goal.returns-in_err-answer-clause-exact
returns-in_err-answer-clause-exact g c = λ told.
    let p = err_from_is_err_and c.from_residual-in_err-answer.result c.from_residual-in_err-answer.ensures.1 in
    let header = c.in_ok-progress.ensures.exact (stage_of c.args.programs.now) told in
    let progress = c.in_ok-progress.progress in
    let from = input_at progress.place (g.S.Source.remaining c.progress_of.new.source) in
    rw (p.1, p.2) (finds_fault _ _ _ _ c.in_err-answer.field-0.0 (c.in_err-answer.ensures.exact header.0) (λ place fault. at_section progress.form from place header.1 fault))

pub returns-in_err-answer-clause-beginning : goal.returns-in_err-answer-clause-beginning
returns-in_err-answer-clause-beginning g c = consumes_then _ _ _ c.progress_of.ensures.beginning c.check_section.ensures.beginning

pub returns-clause-good : goal.returns-clause-good
returns-clause-good g c =
    let d = c.args.programs.now.font.now in
    let t = stage_of c.check_section.new.programs in
    subst (λ (f : Bor FontData). KeepsGood f.now t) (sym c.check_section.ensures.font)
    (stays_good d (stage_of c.args.programs.now) t c.in_ok-answer.answer c.in_ok-answer.ensures.sound c.requires.good)

pub returns-clause-beginning : goal.returns-clause-beginning
returns-clause-beginning g c = consumes_then _ _ _ c.progress_of.ensures.beginning c.check_section.ensures.beginning

pub returns-in_err-progress-clause-stopped : goal.returns-in_err-progress-clause-stopped
returns-in_err-progress-clause-stopped g c =
    let p = err_from_is_err_and c.from_residual.result c.from_residual.ensures.1 in
    rw (p.1, p.2) (c.in_err-progress.ensures.stopped (stage_of c.args.programs.now))

pub returns-in_err-answer-clause-stopped : goal.returns-in_err-answer-clause-stopped
returns-in_err-answer-clause-stopped g c =
    let p = err_from_is_err_and c.from_residual-in_err-answer.result c.from_residual-in_err-answer.ensures.1 in
    let progress = c.in_ok-progress.progress in
    let old = g.S.Source.remaining c.args.source.now in
    let mid = g.S.Source.remaining c.progress_of.new.source in
    let new = g.S.Source.remaining c.check_section.new.source in
    rw (p.1, p.2) (cut_short_after (standing_at c.args.programs.now.font.now (stage_of c.args.programs.now) (read_of c.args.read.now)) progress.form progress.place old mid new
    c.in_err-answer.field-0.0 (c.in_ok-progress.ensures.exact (stage_of c.args.programs.now)) c.in_err-answer.ensures.stopped)
