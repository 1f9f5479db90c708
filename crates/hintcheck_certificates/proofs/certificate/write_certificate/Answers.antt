use Rattle.std.proofs.Common.{◌+◌, arith, ap, ◌∙◌}
use Rattle.std.proofs.lemmas.Result.{err_from_is_err_and, on_err_weaker, on_ok_weaker}
use Rattle.hintcheck_certificates.proofs.CertificateWriting.{certificate_written, header_begun, sections_begun}
use Rattle.hintcheck_certificates.proofs.certificate.write_certificate.Goals as goal

pub returns-clause-written : goal.returns-clause-written
returns-clause-written g c =
    let at = g.W.Sink.contents in
    on_ok_weaker c.write_sections.result
    (λ sections.
    certificate_written c.args.font.now (c.from.result + 2) (at c.args.sink.now) (at c.write_header.new.sink) (at c.write_sections.new.sink) c.in_ok-write_header.ensures.written
    (ap (λ n. n + 2) (c.from.ensures ∙ c.glyph_count.ensures)) (omega arith) sections)
    c.write_sections.ensures.written

pub returns-in_err-write_header-clause-begun : goal.returns-in_err-write_header-clause-begun
returns-in_err-write_header-clause-begun g c =
    let p = err_from_is_err_and c.from_residual.result c.from_residual.ensures.1 in
    let at = g.W.Sink.contents in
    rw p.1
    (header_begun c.args.font.now (c.from.result + 2) (at c.args.sink.now) (at c.write_header.new.sink) (ap (λ n. n + 2) (c.from.ensures ∙ c.glyph_count.ensures))
    c.in_err-write_header.ensures.beginning)

pub returns-clause-begun : goal.returns-clause-begun
returns-clause-begun g c =
    let at = g.W.Sink.contents in
    on_err_weaker c.write_sections.result
    (λ sections.
    sections_begun c.args.font.now (c.from.result + 2) (at c.args.sink.now) (at c.write_header.new.sink) (at c.write_sections.new.sink)
    (ap (λ n. n + 2) (c.from.ensures ∙ c.glyph_count.ensures)) c.in_ok-write_header.ensures.written sections)
    c.write_sections.ensures.begun
