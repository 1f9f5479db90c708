use Rattle.std.proofs.Common.{Ok, Err}
use Rattle.std.proofs.lemmas.Result.{err_from_is_err_and}
use Rattle.tt_cert.specs.Sections.{section_of}
use Rattle.tt_cert.proofs.Decoded.{is_found, is_read}
use Rattle.tt_cert.proofs.Families.{is_same}
use Rattle.tt_cert.proofs.reading.Decoder.read_next.Goals as goal

pub returns-in_err-name-clause-only : goal.returns-in_err-name-clause-only
returns-in_err-name-clause-only g c =
    let p = err_from_is_err_and c.from_residual-in_err-name.result c.from_residual-in_err-name.ensures.1 in
    rw (p.1, p.2) (is_read c.args.form (g.S.Source.remaining c.args.source.now) (g.S.Source.remaining c.read_section.new.source) c.args.start (Err c.in_err-name.field-0.0)
    c.ranges.start.fits c.in_err-name.ensures.reads)

pub returns-clause-found : goal.returns-clause-found
returns-clause-found g c =
    is_found c.args.form (g.S.Source.remaining c.args.source.now) (g.S.Source.remaining c.read_section.new.source) c.args.start
    (Ok (c.in_ok-name.name, c.in_ok-name.certificate, c.in_ok-name.after)) c.ranges.start.fits c.in_ok-name.ensures.reads

pub returns-clause-only : goal.returns-clause-only
returns-clause-only g c =
    is_read c.args.form (g.S.Source.remaining c.args.source.now) (g.S.Source.remaining c.read_section.new.source) c.args.start
    (Ok (c.in_ok-name.name, c.in_ok-name.certificate, c.in_ok-name.after)) c.ranges.start.fits c.in_ok-name.ensures.reads

pub returns-in_err-name-clause-same : goal.returns-in_err-name-clause-same
returns-in_err-name-clause-same g c =
    let p = err_from_is_err_and c.from_residual-in_err-name.result c.from_residual-in_err-name.ensures.1 in
    rw (p.1, p.2) (λ name family rest text known.
    is_read c.args.form (g.S.Source.remaining c.args.source.now) (g.S.Source.remaining c.read_section.new.source) c.args.start (Err c.in_err-name.field-0.0)
    c.ranges.start.fits c.in_err-name.ensures.reads (section_of name family) rest text.fits known)

pub returns-clause-same : goal.returns-clause-same
returns-clause-same g c = λ name family rest text known.
    is_same (Ok (c.in_ok-name.name, c.in_ok-name.certificate, c.in_ok-name.after)) name family c.in_ok-name.ensures.finished text.finished
    (is_read c.args.form (g.S.Source.remaining c.args.source.now) (g.S.Source.remaining c.read_section.new.source) c.args.start
    (Ok (c.in_ok-name.name, c.in_ok-name.certificate, c.in_ok-name.after)) c.ranges.start.fits c.in_ok-name.ensures.reads (section_of name family) rest text.fits known)
