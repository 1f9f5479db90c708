use Rattle.std.proofs.Common.{rules}
use Rattle.std.proofs.lemmas.Fn.{always_returns_same}
use Rattle.tt_setting.proofs.EntryEdits.{place-from_search}
use Rattle.tt_setting.proofs.sorted_map.search.Goals as goal

pub returns-clause-place : goal.returns-clause-place
returns-clause-place g c =
    let found = c.binary_search_by_key.ensures in
    place-from_search c.args.number c.args.entries.now c.binary_search_by_key.result c.requires found.bound
    (found.position (λ e. e.0) (always_returns_same _ _ _ (λ a r f' k. search rules)))
