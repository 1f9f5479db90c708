-- A family as a function from places to states.
use Rattle.std.specs.Prelude.{◌≡◌, ◌≢◌, ◌↔◌, ◌⊎◌, ℕ, ◌<◌, Bool, true, false, Option, Some, None, List}
use Rattle.std.specs.List.{list_any}
use Rattle.std.specs.declared.cmp.Ordering.{Ordering}
use Rattle.std.specs.Ordering.{nat_cmp, ordering_then}
use Rattle.std.specs.BTreeMap.{is_at}
use Rattle.std.specs.Map.{lookup}
use Rattle.tt_abs.specs.Orders.{Order, IsLeastAbove}

-- how two places compare: by context, and by offset within one context
abbrev pub place_cmp : ℕ × ℕ → ℕ × ℕ → Ordering
place_cmp a b = ordering_then (nat_cmp a.0 b.0) (nat_cmp a.1 b.1)

-- the first of two contexts with offsets comes before the second
abbrev pub IsLess : ℕ × ℕ → ℕ × ℕ → Type 0
IsLess a b = (a.0 < b.0) ⊎ ((a.0 ≡ b.0) × (a.1 < b.1))

-- the states of a map's entries, by place
abbrev pub states_of : {S : Type 0} → List ((ℕ × ℕ) × S) → ℕ × ℕ → Option S
states_of entries place = lookup (is_at (place_cmp place)) entries

-- whether a point is among these
abbrev pub has_point : List (ℕ × ℕ) → ℕ × ℕ → Bool
has_point points point = list_any (is_at (place_cmp point)) points

-- what a place holds after a state was put there, and whether that is new or has changed
abbrev pub PutGives : {S : Type 0} → Order S → Option S → S → Option S → Bool → Type 0
PutGives o None t None changed = ⊥
PutGives o None t (Some u) changed = (u ≡ t) × (changed ≡ true)
PutGives o (Some s) t None changed = ⊥
PutGives o (Some s) t (Some u) changed = IsLeastAbove o s t u × (changed ≡ false ↔ (u ≡ s))

-- new is old with the state put at a place, and the same elsewhere
pub record PutsAt {P S : Type 0} (o : Order S) (old new : P → Option S) (place : P) (state : S)
    (changed : Bool) : Type 0 where
  pub here : PutGives o (old place) state (new place) changed
  pub elsewhere : (p : P) → p ≢ place → new p ≡ old p
