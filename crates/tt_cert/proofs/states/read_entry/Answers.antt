use Rattle.std.proofs.lemmas.Result.{err_from_is_err_and}
use Rattle.tt_stream.proofs.Beginnings.{consumes_then}
use Rattle.tt_cert.specs.Reading.{point_at, state_at}
use Rattle.tt_cert.proofs.Stops.{stops_first, stops_second}
use Rattle.tt_cert.proofs.SteadyUnits.{point_steady}
use Rattle.tt_cert.proofs.states.read_entry.Goals as goal

pub returns-in_err-after-clause-beginning : goal.returns-in_err-after-clause-beginning
returns-in_err-after-clause-beginning g c = consumes_then _ _ _ c.read_point.ensures.beginning c.read_state.ensures.beginning

pub returns-clause-beginning : goal.returns-clause-beginning
returns-clause-beginning g c = consumes_then _ _ _ c.read_point.ensures.beginning c.read_state.ensures.beginning

pub returns-in_err-after-clause-stopped : goal.returns-in_err-after-clause-stopped
returns-in_err-after-clause-stopped g c =
    let p = err_from_is_err_and c.from_residual-in_err-after.result c.from_residual-in_err-after.ensures.1 in
    let e = c.in_err-after.field-0.0 in
    rw (p.1, p.2) (stops_second (point_at c.args.contexts c.args.last) (λ _. state_at c.args.form) _ _ _ _ _ _ e (point_steady c.args.contexts c.args.last)
    c.in_ok-point.ensures.reads c.in_err-after.ensures.stopped)

pub returns-in_err-point-clause-stopped : goal.returns-in_err-point-clause-stopped
returns-in_err-point-clause-stopped g c =
    let p = err_from_is_err_and c.from_residual.result c.from_residual.ensures.1 in
    let e = c.in_err-point.field-0.0 in
    rw (p.1, p.2) (stops_first (point_at c.args.contexts c.args.last) (λ _. state_at c.args.form) _ _ _ e c.in_err-point.ensures.stopped)
