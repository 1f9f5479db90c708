use Rattle.std.proofs.Common.{refl}
use Rattle.std.proofs.lemmas.Result.{err_from_is_err_and}
use Rattle.tt_cert.specs.Reading.{is_magic, long_at, magic_at}
use Rattle.tt_cert.proofs.Stops.{stops_ruled}
use Rattle.tt_cert.proofs.header.read_magic.Goals as goal

pub returns-clause-reads : goal.returns-clause-reads
unfolding magic_at
returns-clause-reads g c = λ known.
    let r = c.in_ok-magic.ensures.reads known in
    (r.0, rw (r.1, c.if-magic-ne-MAGIC.false) refl)

pub returns-in_err-magic-clause-stopped : goal.returns-in_err-magic-clause-stopped
unfolding magic_at
returns-in_err-magic-clause-stopped g c =
    let p = err_from_is_err_and c.from_residual.result c.from_residual.ensures.1 in
    let e = c.in_err-magic.field-0.0 in
    rw (p.1, p.2) (stops_ruled is_magic long_at _ _ _ e c.in_err-magic.ensures.stopped)
