use Rattle.std.proofs.Common.{ℕ, List, subst, sym}
use Rattle.tt_setting.specs.Entries.{Ascends}
use Rattle.tt_setting.specs.EntryLaws.{Ascends-filter}
use Rattle.tt_setting.proofs.sorted_map.SortedMap.remove.Goals as goal

pub invariant_of-self : goal.invariant_of-self
invariant_of-self g c =
    let R = λ (es : List (ℕ × g.row.T.Denot)). Ascends es in subst R (sym c.remove_entry.ensures) (Ascends-filter _ c.self.inside.entries.items c.self.invariant)
