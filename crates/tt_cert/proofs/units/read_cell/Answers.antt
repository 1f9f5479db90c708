use Rattle.std.proofs.Common.{rules}
use Rattle.std.proofs.lemmas.Result.{err_from_is_err_and}
use Rattle.tt_stream.proofs.Beginnings.{consumes_then}
use Rattle.tt_cert.specs.Readers.{unit}
use Rattle.tt_cert.specs.Reading.{cell_at}
use Rattle.tt_cert.proofs.Steady.{unit_steady}
use Rattle.tt_cert.proofs.Stops.{stops_after}
use Rattle.tt_cert.proofs.SteadyUnits.{after_tag, stops_in_number}
use Rattle.tt_cert.proofs.units.read_cell.Goals as goal

pub returns-in_err-number-in-1-clause-beginning : goal.returns-in_err-number-in-1-clause-beginning
returns-in_err-number-in-1-clause-beginning g c = consumes_then _ _ _ c.read_unit.ensures.beginning c.read_unit-in-1.ensures.beginning

pub returns-in_ok-number-in-1-clause-beginning : goal.returns-in_ok-number-in-1-clause-beginning
returns-in_ok-number-in-1-clause-beginning g c = consumes_then _ _ _ c.read_unit.ensures.beginning c.read_unit-in-1.ensures.beginning

pub returns-in_err-number-in-1-clause-stopped : goal.returns-in_err-number-in-1-clause-stopped
unfolding cell_at
returns-in_err-number-in-1-clause-stopped g c =
    let p = err_from_is_err_and c.from_residual-in_err-number-in-1.result c.from_residual-in_err-number-in-1.ensures.1 in
    let e = c.in_err-number-in-1.field-0.0 in
    rw (p.1, p.2) (stops_after (unit 1) after_tag _ _ _ _ _ c.in_ok-unit.unit e (unit_steady 1) c.in_ok-unit.ensures.reads
    (stops_in_number c.args.place _ _ _ c.in_ok-unit.unit e (search rules) c.in_err-number-in-1.ensures.stopped))
