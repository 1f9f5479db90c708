use Rattle.std.proofs.Common.{drop}
use Rattle.std.specs.Prelude.{slice_index}
use Rattle.std.specs.Int.{from_be_bytes, w16}
use Rattle.std.proofs.lemmas.Result.{err_from_is_err_and}
use Rattle.tt_cert.specs.Readers.{given, unit}
use Rattle.tt_cert.specs.Reading.{name_at, name_of}
use Rattle.tt_cert.proofs.Stops.{stops_in}
use Rattle.tt_cert.proofs.units.read_name.Goals as goal

pub returns-in_err-unit-clause-stopped : goal.returns-in_err-unit-clause-stopped
unfolding name_at
returns-in_err-unit-clause-stopped g c =
    let p = err_from_is_err_and c.from_residual.result c.from_residual.ensures.1 in
    let e = c.in_err-unit.field-0.0 in
    rw (p.1, p.2) (stops_in (unit 3) (λ p u. given p (name_of (slice_index u 0) (from_be_bytes w16 (drop 1 u)))) _ _ _ e c.in_err-unit.ensures.stopped)
