-- Lists of entries in ascending order of their numbers: where a number is, and what two of them have
-- in common.
use Rattle.std.specs.Prelude.{◌≡◌, ℕ, zero, suc, ◌<◌, Bool, false, ◌&&◌, nat_eq, nat_lt, if◌then◌else◌, List, [], ◌∷◌, Option, None, Some}
use Rattle.std.specs.List.{AllByRecursion, filter}
use Rattle.std.specs.Bool.{Decides}
use Rattle.tt_setting.specs.Entries.{listed}

-- the test says whether two values are equal
abbrev pub IsEquality : {V : Type 0} → (V → V → Bool) → Type 0
IsEquality {V} same = (v w : V) → Decides (same v w) (v ≡ w)

-- the number is at this index, after smaller ones
abbrev pub IsAt : {V : Type 0} → ℕ → List (ℕ × V) → ℕ → Type 0
IsAt n [] i = ⊥
IsAt n (e ∷ es) zero = e.0 ≡ n
IsAt n (e ∷ es) (suc i) = (e.0 < n) × IsAt n es i

-- the numbers before this index are smaller, and those from it on are greater
abbrev pub IsGap : {V : Type 0} → ℕ → List (ℕ × V) → ℕ → Type 0
IsGap n es zero = AllByRecursion (λ e. n < e.0) es
IsGap n [] (suc i) = ⊥
IsGap n (e ∷ es) (suc i) = (e.0 < n) × IsGap n es i

-- whether the first entry is this one
abbrev pub begins_with_entry : {V : Type 0} → (V → V → Bool) → ℕ × V → List (ℕ × V) → Bool
begins_with_entry same e [] = false
begins_with_entry same e (x ∷ xs) = nat_eq x.0 e.0 && same x.1 e.1

-- the entries from a number on
abbrev pub entries_from : {V : Type 0} → ℕ → List (ℕ × V) → List (ℕ × V)
entries_from n [] = []
entries_from n (x ∷ xs) = if nat_lt x.0 n then entries_from n xs else x ∷ xs

-- whether an option holds this value
abbrev pub holds_value : {V : Type 0} → (V → V → Bool) → Option V → V → Bool
holds_value same None v = false
holds_value same (Some w) v = same w v

-- the entries of the first list that the second has too
abbrev pub common_entries : {V : Type 0} → (V → V → Bool) → List (ℕ × V) → List (ℕ × V)
    → List (ℕ × V)
common_entries same a b = filter (λ e. holds_value same (listed b e.0) e.1) a
