-- Sets of points, in their order.
use Rattle.std.specs.Prelude.{◌≡◌, ℕ, Option, Some, None, List, [], ◌∷◌}
use Rattle.std.specs.List.{All}
use Rattle.std.specs.BTreeMap.Range.{IsLtBy}
use Rattle.std.specs.BTreeSet.{BTreeSet}
use Rattle.tt_family.specs.Places.{place_cmp}

-- the first point, and the others after it
abbrev pub waiting_of : Option (ℕ × ℕ) → BTreeSet (ℕ × ℕ) → List (ℕ × ℕ)
waiting_of None rest = []
waiting_of (Some next) rest = next ∷ rest.keys

-- the first point is below the others, and where there is none there are no others
abbrev pub AreInOrder : Option (ℕ × ℕ) → BTreeSet (ℕ × ℕ) → Type 0
AreInOrder None rest = rest.keys ≡ []
AreInOrder (Some next) rest = All (IsLtBy place_cmp next) rest.keys
