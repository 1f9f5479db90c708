use Rattle.std.proofs.Common.{◌≡◌, Some, refl}
use Rattle.std.proofs.lemmas.Result.{err_from_is_err_and}
use Rattle.tt_cert.specs.Forms.{form_of}
use Rattle.tt_cert.specs.Readers.{given}
use Rattle.tt_cert.specs.Reading.{form_at, word_at}
use Rattle.tt_cert.proofs.Stops.{stops_in}
use Rattle.tt_cert.proofs.header.read_form_at.Goals as goal

pub returns-in_err-number-clause-stopped : goal.returns-in_err-number-clause-stopped
unfolding form_at
returns-in_err-number-clause-stopped g c =
    let p = err_from_is_err_and c.from_residual.result c.from_residual.ensures.1 in
    let e = c.in_err-number.field-0.0 in
    rw (p.1, p.2) (stops_in word_at (λ p n. given p (form_of n)) _ _ _ e c.in_err-number.ensures.stopped)

pub returns-in-Some-clause-reads : goal.returns-in-Some-clause-reads
unfolding form_at
returns-in-Some-clause-reads g c = λ known.
    let r = c.in_ok-number.ensures.reads known in
    let some : form_of c.in_ok-number.number ≡ Some c.in-Some.form = cc in
    (r.0, rw (r.1, some) refl)
