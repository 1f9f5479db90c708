-- Families of abstract values by point, which of them are good, and what is derived. (Cousot and
-- Cousot, "Abstract interpretation": a good family is a post-fixed point of the flow, and what is
-- derived is below each.)
use Rattle.std.specs.Prelude.{◌≡◌, Option, Some}
use Rattle.tt_code.specs.declared.reason.Reason.{Reason}
use Rattle.tt_abs.specs.Orders.{Order, IsLeastAbove}
use Rattle.tt_abs.specs.Flows.{Flow}

-- the family has a value there that is above this one
abbrev pub CoversAt : {P S : Type 0} → Order S → (P → Option S) → P → S → Type 0
CoversAt {P} {S} o family p s = (u : S) × (family p ≡ Some u) × o.Below s u

-- each value of the first family is below the second's at its point
abbrev pub IsBelowFamily : {P S : Type 0} → Order S → (P → Option S) → (P → Option S) → Type 0
IsBelowFamily {P} {S} o family other = (p : P) (s : S) → family p ≡ Some s → CoversAt o other p s

-- each value of the family is in range
abbrev pub IsFamilyInRange : {P S : Type 0} → Order S → (P → Option S) → Type 0
IsFamilyInRange {P} {S} o family = (p : P) (s : S) → family p ≡ Some s → o.InRange s

-- the family's values are in range, it covers the start, none of its values is refused, and it
-- covers what each of them gives
pub record IsGood {P S : Type 0} (o : Order S) (f : Flow P S) (family : P → Option S) : Type 0 where
  pub in_range : IsFamilyInRange o family
  pub start : CoversAt o family f.entry f.start
  pub safe : (p : P) (s : S) (r : Reason) → family p ≡ Some s → f.Refuses p s r → ⊥
  pub closed : (p : P) (s : S) (q : P) (t : S) → family p ≡ Some s → f.Gives p s q t
      → CoversAt o family q t

-- the family's value at the point, if there is one, isn't refused, and what it gives is covered
abbrev pub IsFine : {P S : Type 0} → Order S → Flow P S → (P → Option S) → P → Type 0
IsFine {P} {S} o f family p = (s : S) → family p ≡ Some s
    → ((r : Reason) → f.Refuses p s r → ⊥)
    × ((q : P) (t : S) → f.Gives p s q t → CoversAt o family q t)

-- The derived values: the start, what is given by a derived value that isn't refused, and the least
-- values above two that are derived at one point.
pub data Derived {P S : Type 0} (o : Order S) (f : Flow P S) : P → S → Type 0 where
  started : Derived o f f.entry f.start
  moved : (p q : P) (s t : S) → Derived o f p s → ((r : Reason) → f.Refuses p s r → ⊥)
      → f.Gives p s q t → Derived o f q t
  joined : (p : P) (s t u : S) → Derived o f p s → Derived o f p t → IsLeastAbove o s t u
      → Derived o f p u
