-- What a map with one write is, as a function from places.
use Rattle.std.specs.Prelude.{◌≡◌, ◌≢◌, ◌⊎◌, ◌<◌, ℕ, false}
use Rattle.std.specs.declared.cmp.Ordering.{Ordering}
use Rattle.std.specs.declared.cmp.Ordering.TheVariants.{Less, Equal, Greater}
use Rattle.std.specs.Ordering.{nat_cmp, ordering_then, is_eq}
use Rattle.std.specs.Cmp.{nat_cmp_is}
use Rattle.std.specs.BTreeMap.{is_at}
use Rattle.std.proofs.Common.{refl, sym, ap, arith, inl, inr}
use Rattle.std.proofs.lemmas.Bool.{cases_lt, cases_eq}
use Rattle.tt_family.specs.Places.{place_cmp}

pub numbers_apart : (x y : ℕ) → x ≢ y → is_eq (nat_cmp x y) ≡ false
numbers_apart x y apart = elim (cases_lt x y) [
  | inl less ↦ ap is_eq (sym (nat_cmp_is x y Less less))
  | inr not_less ↦ let more : y < x = omega arith in ap is_eq (sym (nat_cmp_is x y Greater more))
]

pub then_first : (a b : Ordering) → is_eq a ≡ false → is_eq (ordering_then a b) ≡ false
then_first Less b e = refl
then_first Equal b e = cc
then_first Greater b e = refl

pub then_second : (a b : Ordering) → is_eq b ≡ false → is_eq (ordering_then a b) ≡ false
then_second Less b e = refl
then_second Equal b e = e
then_second Greater b e = refl

pub places_apart : (k p : ℕ × ℕ) → p ≢ k → is_at (place_cmp k) p ≡ false
places_apart (a, b) (c, d) apart = elim (cases_eq a c) [
  | inl same ↦ then_second (nat_cmp a c) (nat_cmp b d) (numbers_apart b d (λ e. apart (cc)))
  | inr other ↦ then_first (nat_cmp a c) (nat_cmp b d) (numbers_apart a c other)
]

pub cases_place : (p k : ℕ × ℕ) → (p ≡ k) ⊎ (p ≢ k)
cases_place (a, b) (c, d) = elim (cases_eq a c) [
  | inl e ↦ elim (cases_eq b d) [ inl e' ↦ inl (cc) | inr f ↦ inr (λ g. f (ap (λ (x : ℕ × ℕ). x.1) g)) ]
  | inr f ↦ inr (λ g. f (ap (λ (x : ℕ × ℕ). x.0) g))
]
