-- Points in lists, one for each context, and the other points in a tree, as one list by place.
use Rattle.std.specs.Prelude.{◌≡◌, ℕ, suc, ◌≤◌, ◌<◌, Bool, true, false, Option, Some, None, List, [], ◌∷◌, ◌++◌, length, slice_index_or}
use Rattle.std.specs.Ordering.{is_lt}
use Rattle.std.specs.List.{AllByRecursion}
use Rattle.std.specs.List.Sorted.{IsStrictlySortedBy}
use Rattle.std.specs.BTreeMap.{insert_entry}
use Rattle.std.specs.Map.{keys_of}
use Rattle.tt_setting.specs.Entries.{Ascends, listed}
use Rattle.tt_family.specs.Places.{place_cmp, states_of}

-- a slot with its place, which is a context and an offset
abbrev pub Point : Type 0
Point = (ℕ × ℕ) × ℕ

-- the offsets of a list, each with its slot
abbrev pub Offsets : Type 0
Offsets = List (ℕ × ℕ)

-- the points of a context's list
abbrev pub list_points : ℕ → Offsets → List Point
list_points context [] = []
list_points context (e ∷ es) = ((context, e.0), e.1) ∷ list_points context es

-- the points of the lists one after the other: the first list is this context's, and each other one
-- is the next context's
abbrev pub lists_points : ℕ → List Offsets → List Point
lists_points context [] = []
lists_points context (list ∷ lists) = list_points context list ++ lists_points (suc context) lists

-- the points of both lists by place
abbrev pub merged : List Point → List Point → List Point
merged points [] = points
merged points (e ∷ es) = insert_entry place_cmp (merged points es) e.0 e.1

-- the points of the lists and those of the tree, by place
abbrev pub points_in : List Offsets → List Point → List Point
points_in lists rest = merged (lists_points 0 lists) rest

-- a context's list, and an empty one where there is none
abbrev pub list_of : List Offsets → ℕ → Offsets
list_of lists context = slice_index_or lists context []

-- each offset of the list is smaller than this one
abbrev pub AreBelow : ℕ → Offsets → Type 0
AreBelow offset list = AllByRecursion (λ e. e.0 < offset) list

-- both lists ascend, and no place is in both
pub record AreApart (points rest : List Point) : Type 0 where
  pub points_ascend : IsStrictlySortedBy place_cmp (keys_of points)
  pub rest_ascends : IsStrictlySortedBy place_cmp (keys_of rest)
  pub once : (p : ℕ × ℕ) (n : ℕ) → states_of rest p ≡ Some n → states_of points p ≡ None

-- the offsets of each list ascend, and so do the points in the tree; the list of such a point's
-- context has a greater offset, and not the point's own; there are at most 2^32 lists
pub record AreSlotLists (lists : List Offsets) (rest : List Point) : Type 0 where
  pub ascend : (c : ℕ) → Ascends (list_of lists c)
  pub rest_ascends : IsStrictlySortedBy place_cmp (keys_of rest)
  pub unlisted : (c o n : ℕ) → states_of rest (c, o) ≡ Some n → listed (list_of lists c) o ≡ None
  pub early : (c o n : ℕ) → states_of rest (c, o) ≡ Some n → AreBelow o (list_of lists c) → ⊥
  pub fits : length lists ≤ 4294967296

-- the lists from this one on are empty
pub record AreEmptyFrom (used : ℕ) (lists : List Offsets) : Type 0 where
  pub within : used ≤ length lists
  pub unused : (c : ℕ) → used ≤ c → list_of lists c ≡ []

-- empty lists were added
pub record AddsLists (old new : List Offsets) : Type 0 where
  pub points : (c : ℕ) → lists_points c new ≡ lists_points c old
  pub lists : (c : ℕ) → list_of new c ≡ list_of old c
  pub longer : length old ≤ length new

-- the first point and those after it; none where there is no first point
abbrev pub with_first : Option Point → List Point → List Point
with_first None es = []
with_first (Some e) es = e ∷ es

-- whether the first point of the tree comes before the first point of the lists
abbrev pub comes_first : Option Point → Option Point → Bool
comes_first None first = false
comes_first (Some other) None = true
comes_first (Some other) (Some first) = is_lt (place_cmp other.0 first.0)
