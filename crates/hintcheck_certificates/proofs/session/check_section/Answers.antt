use Rattle.std.proofs.Common.{◌∙◌, ap}
use Rattle.std.proofs.lemmas.Result.{err_from_is_err_and}
use Rattle.tt_cert.specs.Answers.{input_at}
use Rattle.hintcheck_programs.specs.Representation.ProgramOrder.{stage_of}
use Rattle.hintcheck_certificates.specs.declared.section_check.SectionCheck.{SectionCheck}
use Rattle.hintcheck_certificates.proofs.CheckedSections.{finds_decoding}
use Rattle.hintcheck_certificates.proofs.FailedReads.{end_not_read, section_cut_short}
use Rattle.hintcheck_certificates.proofs.SessionSteps.{is_last, no_section_next}
use Rattle.hintcheck_certificates.proofs.SessionSteps.{answer_of_section, ends_there, more_there, sound_answer, still_told}
use Rattle.hintcheck_certificates.proofs.session.check_section.Goals as goal

pub returns-in_err-read_end-clause-exact : goal.returns-in_err-read_end-clause-exact
returns-in_err-read_end-clause-exact g c = λ told.
    let p = err_from_is_err_and c.from_residual.result c.from_residual.ensures.1 in
    let d = c.args.programs.now.font.now in
    let stage = stage_of c.args.programs.now in
    rw (p.1, p.2) (more_there _ c.in_err-read_end.field-0.0 d c.args.progress.now.form stage c.args.progress.now.place (g.S.Source.remaining c.args.source.now) (c.next.ensures.none c.in_default.is)
    c.requires.going c.requires.good c.in_err-read_end.ensures.followed told)

pub returns-in_err-read_end-clause-stopped : goal.returns-in_err-read_end-clause-stopped
returns-in_err-read_end-clause-stopped g c =
    let p = err_from_is_err_and c.from_residual.result c.from_residual.ensures.1 in
    let d = c.args.programs.now.font.now in
    let stage = stage_of c.args.programs.now in
    let last = is_last d stage (c.next.ensures.none c.in_default.is) c.requires.good in
    rw (p.1, p.2) (end_not_read d c.args.progress.now.form stage c.args.progress.now.place _ _ c.in_err-read_end.field-0.0 _ _ c.in_err-read_end.ensures.failures last
    c.in_err-read_end.ensures.unread)

pub returns-in_default-clause-sound : goal.returns-in_default-clause-sound
returns-in_default-clause-sound g c =
    (is_last c.args.programs.now.font.now (stage_of c.args.programs.now) (c.next.ensures.none c.in_default.is) c.requires.good, c.end.ensures.stage)

pub returns-in_default-clause-exact : goal.returns-in_default-clause-exact
returns-in_default-clause-exact g c = λ told.
    let old = g.S.Source.remaining c.args.source.now in
    let new = g.S.Source.remaining c.read_end.new.source in (
      still_told old new c.read_end.ensures.beginning told,
      (
        ends_there c.args.programs.now.font.now (stage_of c.args.programs.now) c.args.progress.now.place old (c.next.ensures.none c.in_default.is) c.requires.going c.requires.good told
            c.in_ok-read_end.ensures.ended.0,
        c.end.ensures.stage,
      ),
    )

pub returns-in_err-certificate-clause-exact : goal.returns-in_err-certificate-clause-exact
returns-in_err-certificate-clause-exact g c = λ told.
    let p = err_from_is_err_and c.from_residual-in_err-certificate.result c.from_residual-in_err-certificate.ensures.1 in
    let d = c.args.programs.now.font.now in
    let stage = stage_of c.args.programs.now in
    let progress = c.args.progress.now in
    let before = input_at progress.place (g.S.Source.remaining c.args.source.now) in
    rw (p.1, p.2) (finds_decoding _ _ _ _ c.in_err-certificate.field-0.0 (c.in_err-certificate.ensures.section told)
    (λ place none. no_section_next d progress.form stage c.in-Some.next before place c.in-Some.ensures.some none))

pub returns-in_err-certificate-clause-stopped : goal.returns-in_err-certificate-clause-stopped
returns-in_err-certificate-clause-stopped g c =
    let p = err_from_is_err_and c.from_residual-in_err-certificate.result c.from_residual-in_err-certificate.ensures.1 in
    let d = c.args.programs.now.font.now in
    let stage = stage_of c.args.programs.now in
    let progress = c.args.progress.now in
    rw (p.1, p.2) (section_cut_short d progress.form stage c.in-Some.next.name progress.place _ _ c.in_err-certificate.field-0.0 _ _ c.in_err-certificate.ensures.failures
    (λ i at none. no_section_next d progress.form stage c.in-Some.next i at c.in-Some.ensures.some none) c.in_err-certificate.ensures.stopped)

pub returns-clause-sound : goal.returns-clause-sound
returns-clause-sound g c =
    sound_answer c.args.programs.now.font.now c.judge_next-judged.new.judge (stage_of c.args.programs.now) (stage_of c.judge_next-judged.new.self) c.in_ok-judged.field-0 c.requires.good
    c.in_ok-judged.ensures.answer

pub returns-clause-exact : goal.returns-clause-exact
returns-clause-exact g c = λ told.
    let section = c.in_ok-certificate.ensures.section told in
    let progress = c.args.progress.now in
    let before = input_at progress.place (g.S.Source.remaining c.args.source.now) in
    let after = input_at c.next_section.new.progress.place (g.S.Source.remaining c.next_section.new.source) in
    let keeps = c.judge_next-judged.ensures.keeps in (
      section.0,
      answer_of_section c.args.programs.now.font.now progress.form before after c.in_ok-certificate.certificate.now c.judge_next-judged.new.judge (stage_of c.args.programs.now)
          (stage_of c.judge_next-judged.new.self) c.in-Some.next c.in_ok-judged.field-0 (ap (λ (j : SectionCheck). j.form) keeps ∙ c.in_ok-certificate.ensures.form)
          (ap (λ (j : SectionCheck). j.certificate.now) keeps) c.in-Some.ensures.some section.1 c.in_ok-judged.ensures.answer,
    )
