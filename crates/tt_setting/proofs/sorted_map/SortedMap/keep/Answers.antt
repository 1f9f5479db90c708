use Rattle.std.proofs.Common.{subst, sym, ap, ◌∙◌, ℕ, List}
use Rattle.tt_setting.specs.Entries.{Ascends}
use Rattle.tt_setting.specs.EntryLists.{common_entries}
use Rattle.tt_setting.specs.EntryLaws.{Ascends-filter}
use Rattle.tt_setting.proofs.sorted_map.SortedMap.keep.Goals as goal

pub invariant_of-self : goal.invariant_of-self
invariant_of-self g c =
    let R = λ (es : List (ℕ × g.row.T.Denot)). Ascends es in subst R (sym c.keep_common.ensures) (Ascends-filter _ c.self.inside.entries.items c.self.invariant)

pub returns : goal.returns
returns g c =
    let same = g.T.PartialEq.eq in
    c.keep_common.ensures ∙ ap (λ (es : List (ℕ × g.row.T.Denot)). common_entries same es c.as_slice.result.now) c.self.view_is
    ∙ ap (λ (es : List (ℕ × g.row.T.Denot)). common_entries same c.args.self.now es) (c.as_slice.ensures.value ∙ c.other.view_is)
