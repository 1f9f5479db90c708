use Rattle.tt_stream.proofs.Beginnings.{consumes_then}
use Rattle.std.proofs.Common.{[]}
use Rattle.tt_cert.specs.Readers.{list_at}
use Rattle.tt_cert.specs.Reading.{context_at, context_count_at, contexts_at}
use Rattle.tt_cert.proofs.Stops.{stops_last}
use Rattle.tt_cert.proofs.SteadyUnits.{count_steady}
use Rattle.tt_cert.proofs.contexts.read_contexts.Goals as goal

pub returns-clause-beginning : goal.returns-clause-beginning
returns-clause-beginning g c = consumes_then _ _ _ c.read_count.ensures.beginning c.read_context_list.ensures.beginning

pub returns-clause-stopped : goal.returns-clause-stopped
unfolding contexts_at
returns-clause-stopped g c =
    stops_last c.read_context_list.result (context_count_at c.args.form) (λ _ n. list_at context_at [] n) _ _ _ _ _ c.in_ok-count.count (count_steady c.args.form)
    c.in_ok-count.ensures.reads c.read_context_list.ensures.stopped
