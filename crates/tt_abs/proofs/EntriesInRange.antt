-- The values of a sorted map stay in range when an entry is put or taken away.
use Rattle.std.specs.Prelude.{nat_eq, nat_lt, if◌then◌else◌}
use Rattle.std.specs.List.{AllByRecursion}
use Rattle.std.specs.Result.{OnOk, OnErr}
use Rattle.std.proofs.Common.{◌≡◌, ℕ, List, [], ◌∷◌, Bool, true, false, Result, Ok, Err, sym, subst}
use Rattle.tt_setting.specs.Entries.{with_entry, without_entry}
use Rattle.tt_abs.specs.EntryOrders.{EntriesInRange}
use Rattle.tt_setting.specs.EntryLaws.{Ascends-filter, all-filter}
use Rattle.tt_setting.proofs.EntryEdits.{Ascends-with}

values-with : {V : Type 0} (P : V → Type 0) (n : ℕ) (v : V) (es : List (ℕ × V)) → P v → AllByRecursion (λ e. P e.1) es → AllByRecursion (λ e. P e.1) (with_entry n v es)
values-with {V} P n v [] h all = (h, tt)
values-with {V} P n v (e ∷ es) h all = go (nat_lt n e.0) (nat_eq n e.0) (values-with P n v es h all.1)
  where
    go : (a b : Bool) → AllByRecursion (λ (x : ℕ × V). P x.1) (with_entry n v es)
        → AllByRecursion (λ (x : ℕ × V). P x.1) (if a then (n, v) ∷ e ∷ es else if b then (n, v) ∷ es else e ∷ with_entry n v es)
    go true b ih = (h, all)
    go false true ih = (h, all.1)
    go false false ih = (all.0, ih)

-- after a put that may be refused
pub in_range-put : {V A E : Type 0} (P : V → Type 0) (n : ℕ) (v : V) (old new : List (ℕ × V)) (r : Result A E) → P v
    → OnOk r (new ≡ with_entry n v old) → OnErr r (new ≡ old) → EntriesInRange P old → EntriesInRange P new
in_range-put {V} P n v old new (Ok x) h ok err range = let Q : List (ℕ × V) → Type 0 = λ es. EntriesInRange P es in
    subst Q (sym ok) (record { ascends = Ascends-with n v old range.ascends; values = values-with P n v old h range.values })
in_range-put {V} P n v old new (Err x) h ok err range = let Q : List (ℕ × V) → Type 0 = λ es. EntriesInRange P es in subst Q (sym err) range

pub in_range-without : {V : Type 0} (P : V → Type 0) (n : ℕ) (old new : List (ℕ × V)) → new ≡ without_entry n old → EntriesInRange P old → EntriesInRange P new
in_range-without {V} P n old new e range = let Q : List (ℕ × V) → Type 0 = λ es. EntriesInRange P es in
    subst Q (sym e) (record { ascends = Ascends-filter _ old range.ascends; values = all-filter _ _ old range.values })
