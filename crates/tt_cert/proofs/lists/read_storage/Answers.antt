use Rattle.tt_stream.proofs.Beginnings.{consumes_then}
use Rattle.std.proofs.Common.{ℕ, ℤ, List, [], sym, subst}
use Rattle.std.specs.Prelude.{IfErr}
use Rattle.tt_cert.specs.Answers.{StopsAtEnd}
use Rattle.tt_cert.specs.Readers.{Answer, Input, list_at}
use Rattle.tt_cert.specs.Reading.{stored_at, word_at}
use Rattle.tt_cert.proofs.Stops.{stops_last}
use Rattle.tt_cert.proofs.SteadyUnits.{storage_listed, word_steady}
use Rattle.tt_cert.proofs.lists.read_storage.Goals as goal

pub returns-in_ok-count-in-Three-clause-beginning : goal.returns-in_ok-count-in-Three-clause-beginning
returns-in_ok-count-in-Three-clause-beginning g c = consumes_then _ _ _ c.read_word.ensures.beginning c.read_storage_list.ensures.beginning

pub returns-in_ok-count-in-Three-clause-stopped : goal.returns-in_ok-count-in-Three-clause-stopped
returns-in_ok-count-in-Three-clause-stopped g c =
    let r = c.read_storage_list.result in
    let F : (Input → Answer (List (ℕ × ℤ))) → Type 0 =
    λ read. IfErr r (StopsAtEnd c.args.place (g.S.Source.remaining c.args.source.now) (g.S.Source.remaining c.read_storage_list.new.source) read) in
    subst F (sym (storage_listed c.args.form c.in-Three.is))
    (stops_last r word_at (λ _ n. list_at stored_at [] n) _ _ _ _ _ c.in_ok-count-in-Three.count word_steady c.in_ok-count-in-Three.ensures.reads c.read_storage_list.ensures.stopped)
