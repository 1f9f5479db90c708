use Rattle.std.proofs.Common.{◌≡◌, [], List, ℕ, ◌≤◌, length, drop, ap, sym, ◌∙◌, arith, subst}
use Rattle.std.proofs.lemmas.List.{drop_all}
use Rattle.std.specs.Prelude.{IfOk}
use Rattle.tt_setting.specs.Entries.{with_entries}
use Rattle.tt_setting.proofs.EntriesInTurn.{entries-ascending}
use Rattle.tt_setting.proofs.sorted_map.SortedMap.from_entries.Goals as goal

pub returns-then-do_ascend-clause-in_turn : goal.returns-then-do_ascend-clause-in_turn
returns-then-do_ascend-clause-in_turn g c =
    let e = entries-ascending c.args.entries.now (c.do_ascend.ensures c.if-do_ascend.true) in
    subst (λ es. IfOk c.from_slice.result (λ made. made ≡ es)) (sym e) c.from_slice.ensures

-- at the loop's end
all-put : {V : Type 0} (made es : List (ℕ × V)) (i : ℕ) → length es ≤ i → with_entries made (drop i es) ≡ with_entries [] es
    → made ≡ with_entries [] es
all-put made es i le h = ap (with_entries made) (sym (drop_all i es le)) ∙ h

pub returns-clause-in_turn : goal.returns-clause-in_turn
returns-clause-in_turn g c = all-put c.loop-entry.made c.args.entries.now c.loop-entry.entry-index (omega arith) c.loop-entry.invariant

pub returns-clause-ascending : goal.returns-clause-ascending
returns-clause-ascending g c ascends =
    all-put c.loop-entry.made c.args.entries.now c.loop-entry.entry-index (omega arith) c.loop-entry.invariant
    ∙ entries-ascending c.args.entries.now ascends
