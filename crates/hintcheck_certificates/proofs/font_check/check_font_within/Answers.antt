use Rattle.std.proofs.KnownBytes.{Consumes-nil}
use Rattle.tt_stream.proofs.Beginnings.{consumes_beginning}
use Rattle.hintcheck_certificates.specs.CheckedFonts.{bytes_in}
use Rattle.hintcheck_certificates.proofs.OneFont.{check_accepts}
use Rattle.std.proofs.lemmas.Result.{IfErr-weaker}
use Rattle.hintcheck_certificates.proofs.FailedReads.{has_read_weaker}
use Rattle.hintcheck_certificates.proofs.font_check.check_font_within.Goals as goal

pub returns-clause-accepts : goal.returns-clause-accepts
returns-clause-accepts g c = λ told.
    check_accepts c.args.font.now (bytes_in (g.S.Source.remaining c.args.source.now)) c.in_ok-read.read c.check_read_font.result c.in_ok-read.ensures.reads
    (c.check_read_font.ensures.exact told)

pub returns-in_err-read-clause-beginning : goal.returns-in_err-read-clause-beginning
returns-in_err-read-clause-beginning g c = consumes_beginning _ _ _ (Consumes-nil (g.S.Source.remaining c.args.source.now))

pub returns-clause-whole_units : goal.returns-clause-whole_units
returns-clause-whole_units g c =
    let d = c.in_ok-read.read in
    let old = g.S.Source.remaining c.args.source.now in
    let new = g.S.Source.remaining c.check_read_font.new.source in
    IfErr-weaker c.check_read_font.result _ _ (λ e. has_read_weaker old new _ _ e (λ front is. (d, c.in_ok-read.ensures.reads, is))) c.check_read_font.ensures.whole_units
