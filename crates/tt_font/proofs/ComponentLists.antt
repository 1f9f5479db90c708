-- The components of a glyph, one after the other.
use Rattle.std.specs.Prelude.{◌≡◌, ℕ, zero, suc, ◌+◌, ◌<◌, ◌≤◌, List, [], ◌∷◌, length, Bool, true, false, nat_le, Option, Some, None, if◌then◌else◌}
use Rattle.std.proofs.Common.{refl, sym, ◌∙◌, ap, arith}
use Rattle.std.proofs.lemmas.Bool.{leb-true}
use Rattle.tt_font.specs.declared.component.Component.{Component}
use Rattle.tt_font.specs.Numbers.{u16_at}
use Rattle.tt_font.specs.Components.{has_flag, has_more, component_size, component_at, listed, components_from, components_at, last_of}

arguments_are_some : (b : Bool) → 2 ≤ (if b then 4 else 2)
arguments_are_some true = omega arith
arguments_are_some false = omega arith

pub size_is_least : (flags : ℕ) → 6 ≤ component_size flags
unfolding component_size
size_is_least flags = let some = arguments_are_some (has_flag flags 0x0001) in omega arith

-- a component lies after its place and in the glyph
pub record IsAfter (place : ℕ) (glyph : List ℕ) (c : Component) : Type 0 where
  pub ascends : place < c.after
  pub within : c.after ≤ length glyph

by_test : (place size : ℕ) (glyph : List ℕ) (flags number : ℕ) (c : Component) (b : Bool) → 6 ≤ size → nat_le (place + size) (length glyph) ≡ b
    → (if b then Some (record { flags = flags; glyph = number; after = place + size }) else None) ≡ Some c → IsAfter place glyph c
by_test place size glyph flags number c true least fits e =
    let le : place + size ≤ length glyph = leb-true _ _ fits in
    let after : place + size ≡ c.after = ap (λ o. after_of o) e in
    record { ascends = omega arith; within = omega arith }
  where
    after_of : Option Component → ℕ
    after_of None = 0
    after_of (Some x) = x.after
by_test place size glyph flags number c false least fits e = absurd (cc)

pub is_after : (place : ℕ) (glyph : List ℕ) (c : Component) → component_at place glyph ≡ Some c → IsAfter place glyph c
unfolding component_at
is_after place glyph c e = by_test place (component_size (u16_at place glyph)) glyph _ _ c (nat_le (place + component_size (u16_at place glyph)) (length glyph)) (size_is_least (u16_at place glyph)) refl e

-- a list that has room for all that follow
same_listed : (f g : ℕ → List Component) (o : Option Component) → ((c : Component) → o ≡ Some c → f c.after ≡ g c.after) → listed f o ≡ listed g o
same_listed f g None same = refl
same_listed f g (Some c) same = ap (λ rest. c ∷ (if has_more c.flags then rest else [])) (same c refl)

none_left : (place : ℕ) (glyph : List ℕ) → length glyph ≤ place → component_at place glyph ≡ None
none_left place glyph le = by_case (component_at place glyph) refl
  where
    by_case : (o : Option Component) → component_at place glyph ≡ o → component_at place glyph ≡ None
    by_case None e = e
    by_case (Some c) e = let is = is_after place glyph c e in let a = is.ascends in let b = is.within in absurd (omega arith)

any_room : (n m place : ℕ) (glyph : List ℕ) → length glyph ≤ place + n → length glyph ≤ place + m → components_from n place glyph ≡ components_from m place glyph
unfolding components_from
any_room zero zero place glyph a b = refl
any_room zero (suc m) place glyph a b = sym (ap (listed (λ after. components_from m after glyph)) (none_left place glyph (omega arith)))
any_room (suc n) zero place glyph a b = ap (listed (λ after. components_from n after glyph)) (none_left place glyph (omega arith))
any_room (suc n) (suc m) place glyph a b =
    same_listed (λ after. components_from n after glyph) (λ after. components_from m after glyph) (component_at place glyph)
    (λ c e. let is = is_after place glyph c e in let ascends = is.ascends in any_room n m c.after glyph (omega arith) (omega arith))

-- the components from a place on: the one there, and those from the place after it on
pub components_at_is : (place : ℕ) (glyph : List ℕ) → components_at place glyph ≡ listed (λ after. components_at after glyph) (component_at place glyph)
unfolding components_at components_from
components_at_is place glyph =
    any_room (length glyph) (suc (length glyph)) place glyph (omega arith) (omega arith)

-- the same by cases
pub none_is_there : (place : ℕ) (glyph : List ℕ) → component_at place glyph ≡ None → components_at place glyph ≡ []
none_is_there place glyph e = components_at_is place glyph ∙ ap (listed (λ after. components_at after glyph)) e

listed_some : (f : ℕ → List Component) (c : Component) (b : Bool) → has_more c.flags ≡ b → listed f (Some c) ≡ c ∷ (if b then f c.after else [])
listed_some f c b e = ap (λ x. c ∷ (if x then f c.after else [])) e

pub one_is_there : (place : ℕ) (glyph : List ℕ) (c : Component) → component_at place glyph ≡ Some c → has_more c.flags ≡ false → components_at place glyph ≡ c ∷ []
one_is_there place glyph c e more =
    components_at_is place glyph ∙ ap (listed (λ after. components_at after glyph)) e ∙ listed_some (λ after. components_at after glyph) c false more

pub more_are_there : (place : ℕ) (glyph : List ℕ) (c : Component) → component_at place glyph ≡ Some c → has_more c.flags ≡ true
    → components_at place glyph ≡ c ∷ components_at c.after glyph
more_are_there place glyph c e more =
    components_at_is place glyph ∙ ap (listed (λ after. components_at after glyph)) e ∙ listed_some (λ after. components_at after glyph) c true more

pub last_is : (c : Component) (cs : List Component) → has_more c.flags ≡ false → last_of (c ∷ cs) ≡ Some c
last_is c cs more = ap (λ b. if b then last_of cs else Some c) more

pub last_goes_on : (c : Component) (cs : List Component) → has_more c.flags ≡ true → last_of (c ∷ cs) ≡ last_of cs
last_goes_on c cs more = ap (λ b. if b then last_of cs else Some c) more
