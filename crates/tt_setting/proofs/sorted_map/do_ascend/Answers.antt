use Rattle.std.proofs.Common.{ℕ, ◌≤◌, List, length, drop, sym, subst, arith}
use Rattle.std.proofs.lemmas.List.{drop_all}
use Rattle.tt_setting.proofs.EntriesInTurn.{Rises, rises-ascend}
use Rattle.tt_setting.proofs.sorted_map.do_ascend.Goals as goal

-- no entry is left at the end
rises-end : {V : Type 0} (n i : ℕ) (es : List (ℕ × V)) → length es ≤ i → Rises n (drop i es)
rises-end {V} n i es le = let R : List (ℕ × V) → Type 0 = λ rest. Rises n rest in subst R (sym (drop_all i es le)) tt

pub returns : goal.returns
returns g c is =
    rises-ascend 0 c.args.entries.now
    (c.loop-entry.invariant.1 (rises-end c.loop-entry.least c.loop-entry.entry-index c.args.entries.now (omega arith)))
