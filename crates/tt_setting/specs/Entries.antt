-- Sorted maps as lists of entries by number: the known functions with their bodies, and the known
-- storage cells and control values with their numbers.
use Rattle.std.specs.Prelude.{ℕ, ◌<◌, List, [], ◌∷◌, Option, None, Some, not, nat_eq, nat_lt, if◌then◌else◌}
use Rattle.std.specs.List.{AllByRecursion, filter}

-- the numbers ascend
abbrev pub Ascends : {V : Type 0} → List (ℕ × V) → Type 0
Ascends [] = Unit {0}
Ascends (e ∷ es) = AllByRecursion (λ f. e.0 < f.0) es × Ascends es

-- what is listed with a number
abbrev pub listed : {V : Type 0} → List (ℕ × V) → ℕ → Option V
listed [] n = None
listed (e ∷ es) n = if nat_eq e.0 n then Some e.1 else listed es n

-- the list with an entry where its number belongs, in place of the one of that number if there is
-- one
abbrev pub with_entry : {V : Type 0} → ℕ → V → List (ℕ × V) → List (ℕ × V)
with_entry n v [] = (n, v) ∷ []
with_entry n v (e ∷ es) =
    if nat_lt n e.0 then (n, v) ∷ e ∷ es
    else if nat_eq n e.0 then (n, v) ∷ es
    else e ∷ with_entry n v es

-- the list after these entries were put into it, one after the other
abbrev pub with_entries : {V : Type 0} → List (ℕ × V) → List (ℕ × V) → List (ℕ × V)
with_entries es [] = es
with_entries es (e ∷ more) = with_entries (with_entry e.0 e.1 es) more

-- the list without the entries of a number
abbrev pub without_entry : {V : Type 0} → ℕ → List (ℕ × V) → List (ℕ × V)
without_entry n es = filter (λ e. not (nat_eq e.0 n)) es
