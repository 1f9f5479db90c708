use Rattle.std.proofs.Common.{◌≡◌, ℕ, ◌≤◌, ◌∙◌, ap, sym, arith, List, length, drop, Bool}
use Rattle.std.proofs.lemmas.Bool.{eqb-true, eq-eqb}
use Rattle.std.proofs.lemmas.List.{drop_all, nil_from_length}
use Rattle.tt_abs.specs.EntryOrders.{missing_entries}
use Rattle.tt_abs.specs.EntryLaws.{missing-below}
use Rattle.tt_abs.proofs.entry_order.passes_all.Goals as goal

-- at the loop's end
missing-end : {V : Type 0} (same : V → V → Bool) (mine theirs missing : List (ℕ × V)) (i : ℕ) → length mine ≤ i
    → missing_entries same (drop i mine) missing ≡ missing_entries same mine theirs → missing ≡ missing_entries same mine theirs
missing-end same mine theirs missing i le h = ap (λ a. missing_entries same a missing) (sym (drop_all i mine le)) ∙ h

pub returns : goal.returns
returns g c =
    let end = missing-end g.T.PartialEq.eq c.args.mine.now c.args.theirs.now c.loop-entry.missing.now c.loop-entry.entry-index (omega arith) c.loop-entry.invariant in
    let says = missing-below g.T.PartialEq.eq g.met.T.EntryValue.decides c.args.mine.now c.args.theirs.now c.requires.mine_ascend c.requires.theirs_ascend in (
      λ h. says.0 (sym end ∙ nil_from_length _ (eqb-true _ _ (sym c.is_empty.ensures ∙ h))),
      λ p. c.is_empty.ensures ∙ eq-eqb _ _ (ap length (end ∙ says.1 p)),
    )
