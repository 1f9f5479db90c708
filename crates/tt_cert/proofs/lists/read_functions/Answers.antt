use Rattle.tt_stream.proofs.Beginnings.{consumes_then}
use Rattle.std.proofs.Common.{[]}
use Rattle.tt_cert.specs.Readers.{list_at}
use Rattle.tt_cert.specs.Reading.{function_at, functions_at, word_at}
use Rattle.tt_cert.proofs.Stops.{stops_last}
use Rattle.tt_cert.proofs.SteadyUnits.{word_steady}
use Rattle.tt_cert.proofs.lists.read_functions.Goals as goal

pub returns-clause-beginning : goal.returns-clause-beginning
returns-clause-beginning g c = consumes_then _ _ _ c.read_word.ensures.beginning c.read_listed.ensures.beginning

pub returns-clause-stopped : goal.returns-clause-stopped
unfolding functions_at
returns-clause-stopped g c =
    stops_last c.read_listed.result word_at (λ _ n. list_at function_at [] n) _ _ _ _ _ c.in_ok-count.count word_steady c.in_ok-count.ensures.reads c.read_listed.ensures.stopped
