-- The order of sorted maps, as lists of entries in ascending order of their numbers: a list covers
-- more than another if it has only some of that one's entries.
use Rattle.std.specs.Prelude.{◌≡◌, ℕ, ⊤, Bool, if◌then◌else◌, List, [], ◌∷◌, Some, length}
use Rattle.std.specs.List.{AllByRecursion}
use Rattle.tt_abs.specs.Orders.{Order}
use Rattle.tt_setting.specs.Entries.{Ascends, listed}
use Rattle.tt_setting.specs.EntryLists.{begins_with_entry}

-- the first list lists whatever the second does, with the same value
abbrev pub EntriesBelow : {V : Type 0} → List (ℕ × V) → List (ℕ × V) → Type 0
EntriesBelow {V} a b = (n : ℕ) (v : V) → listed b n ≡ Some v → listed a n ≡ Some v

-- the numbers ascend, and the values are in range
pub record EntriesInRange {V : Type 0} (IsInRange : V → Type 0) (es : List (ℕ × V)) : Type 0 where
  pub ascends : Ascends es
  pub values : AllByRecursion (λ e. IsInRange e.1) es

-- the entries after the first, if that is this one, and all of them otherwise
abbrev pub after_entry : {V : Type 0} → (V → V → Bool) → ℕ × V → List (ℕ × V) → List (ℕ × V)
after_entry same e [] = []
after_entry same e (x ∷ xs) = if begins_with_entry same e (x ∷ xs) then xs else x ∷ xs

-- what is left of the second list after a pass along the first
abbrev pub missing_entries : {V : Type 0} → (V → V → Bool) → List (ℕ × V) → List (ℕ × V)
    → List (ℕ × V)
missing_entries same [] b = b
missing_entries same (e ∷ es) b = missing_entries same es (after_entry same e b)

-- the order of these lists, where the values have a range
abbrev pub entry_order : {V : Type 0} → (V → Type 0) → Order (List (ℕ × V))
entry_order IsInRange =
    record {
      InRange = EntriesInRange IsInRange;
      Below = EntriesBelow;
      SameDepth = λ _ _. ⊤;
      left = length;
    }
