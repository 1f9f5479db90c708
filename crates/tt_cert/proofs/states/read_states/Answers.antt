use Rattle.tt_stream.proofs.Beginnings.{consumes_then}
use Rattle.std.proofs.Common.{[], length}
use Rattle.std.proofs.lemmas.Result.{err_from_is_err_and}
use Rattle.tt_cert.specs.Readers.{list_at}
use Rattle.tt_cert.specs.Reading.{entry_at, long_at, states_at}
use Rattle.tt_cert.proofs.Stops.{stops_in, stops_last}
use Rattle.tt_cert.proofs.SteadyUnits.{long_steady}
use Rattle.tt_cert.proofs.states.read_states.Goals as goal

pub returns-clause-beginning : goal.returns-clause-beginning
returns-clause-beginning g c = consumes_then _ _ _ c.read_long.ensures.beginning c.read_state_list.ensures.beginning

pub returns-clause-stopped : goal.returns-clause-stopped
unfolding states_at
returns-clause-stopped g c =
    stops_last c.read_state_list.result long_at (λ _ n. list_at (entry_at c.args.form (length c.args.builder.contexts)) [] n) _ _ _ _ _ c.in_ok-count.count long_steady
    c.in_ok-count.ensures.reads c.read_state_list.ensures.stopped

pub returns-in_err-count-clause-stopped : goal.returns-in_err-count-clause-stopped
unfolding states_at
returns-in_err-count-clause-stopped g c =
    let p = err_from_is_err_and c.from_residual.result c.from_residual.ensures.1 in
    rw (p.1, p.2) (stops_in long_at (λ _ n. list_at (entry_at c.args.form (length c.args.builder.contexts)) [] n) _ _ _ c.in_err-count.field-0.0 c.in_err-count.ensures.stopped)
