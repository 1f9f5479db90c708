use Rattle.std.proofs.lemmas.Result.{err_from_is_err_and}
use Rattle.tt_cert.specs.Answers.{input_at}
use Rattle.hintcheck_certificates.proofs.UpgradeSteps.{comes_on, none_begun, one_begun, one_upgraded}
use Rattle.hintcheck_certificates.proofs.UpgradeReads.{encode_no_read, old_section_cut_short}
use Rattle.hintcheck_certificates.proofs.certificate_upgrade.upgrade_section.Goals as goal

pub returns-in_err-certificate-clause-section : goal.returns-in_err-certificate-clause-section
returns-in_err-certificate-clause-section g c = λ told.
    let p = err_from_is_err_and c.from_residual.result c.from_residual.ensures.1 in
    rw (p.1, p.2) (comes_on _ _ _ _ c.in_err-certificate.field-0.0 (c.in_err-certificate.ensures.section told) (λ place absent. rw (← c.name_of-name.ensures) absent))

pub returns-in_err-certificate-clause-begun : goal.returns-in_err-certificate-clause-begun
returns-in_err-certificate-clause-begun g c = λ told.
    let p = err_from_is_err_and c.from_residual.result c.from_residual.ensures.1 in
    rw p.1
    (none_begun c.args.progress.now.form c.args.number 1 (input_at c.args.progress.now.place (g.S.Source.remaining c.args.source.now)) (g.W.Sink.contents c.args.sink.now))

pub returns-in_err-encode-clause-begun : goal.returns-in_err-encode-clause-begun
returns-in_err-encode-clause-begun g c = λ told.
    let p = err_from_is_err_and c.from_residual-in_err-encode.result c.from_residual-in_err-encode.ensures.1 in
    let progress = c.args.progress.now in
    let section = c.in_ok-certificate.ensures.section told in
    rw p.1
    (one_begun progress.form c.args.number (input_at progress.place (g.S.Source.remaining c.args.source.now))
    (input_at c.next_section.new.progress.place (g.S.Source.remaining c.next_section.new.source)) c.name_of-name.result c.in_ok-certificate.certificate.now (g.W.Sink.contents c.args.sink.now)
    (g.W.Sink.contents c.encode.new.sink) section.1 c.name_of-name.ensures c.in_err-encode.ensures.beginning)

pub returns-clause-section : goal.returns-clause-section
returns-clause-section g c = λ told.
    let progress = c.args.progress.now in
    let section = c.in_ok-certificate.ensures.section told in (
      section.0,
      one_upgraded progress.form c.args.number (input_at progress.place (g.S.Source.remaining c.args.source.now))
          (input_at c.next_section.new.progress.place (g.S.Source.remaining c.next_section.new.source)) c.name_of-name.result c.in_ok-certificate.certificate.now
          (g.W.Sink.contents c.args.sink.now) (g.W.Sink.contents c.encode.new.sink) section.1 c.name_of-name.ensures c.in_ok-encode.ensures.written,
    )

pub returns-in_err-certificate-clause-stopped : goal.returns-in_err-certificate-clause-stopped
returns-in_err-certificate-clause-stopped g c =
    let p = err_from_is_err_and c.from_residual.result c.from_residual.ensures.1 in
    let progress = c.args.progress.now in
    rw (p.1, p.2) (old_section_cut_short progress.form c.args.number progress.place _ _ c.in_err-certificate.field-0.0 c.in_err-certificate.ensures.stopped)

pub returns-in_err-encode-clause-stopped : goal.returns-in_err-encode-clause-stopped
returns-in_err-encode-clause-stopped g c =
    let p = err_from_is_err_and c.from_residual-in_err-encode.result c.from_residual-in_err-encode.ensures.1 in
    rw (p.1, p.2) (encode_no_read _ _ _ c.in_err-encode.field-0.0 _ _ c.in_err-encode.ensures.failures)
