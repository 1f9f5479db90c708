-- Whether entries are the same, by their numbers and a test of their values.
use Rattle.std.proofs.Common.{◌≡◌, ℕ, Bool, List, ap, ◌∙◌, arith, refl, sym}
use Rattle.std.specs.Prelude.{nat_eq, ◌&&◌, ◌↔◌}
use Rattle.std.specs.Int.Bits.{bit_or, bit_xor, or_zero_l, xor_add_and, xor_self}
use Rattle.std.specs.Bool.{Decides}
use Rattle.std.specs.Cmp.Lexicographic.{pointwise}
use Rattle.std.proofs.lemmas.Bool.Decides.{Decides-and, Decides-eqb, Decides-like}
use Rattle.std.proofs.lemmas.Nat.{and_le_l, and_le_r, le_or_l, le_or_r}
use Rattle.std.proofs.lemmas.Slice.Eq.{slice_eq-Decides}
use Rattle.tt_setting.specs.EntryLists.{IsEquality}

-- the differences of numbers, gathered by their bits, are none exactly if there is none yet and the two are equal
pub no_difference : (d a b : ℕ) → (bit_or d (bit_xor a b) ≡ 0) ↔ ((d ≡ 0) × (a ≡ b))
no_difference d a b = (
  λ e. (omega (arith, le_or_l d (bit_xor a b), e), omega (arith, le_or_r d (bit_xor a b), e, xor_add_and a b, and_le_l a b, and_le_r a b)),
  λ p. ap (λ x. bit_or x (bit_xor a b)) p.0 ∙ or_zero_l (bit_xor a b) ∙ ap (λ x. bit_xor x b) p.1 ∙ xor_self b,
)

-- whether two entries are the same
entry-decides : {V : Type 0} (same : V → V → Bool) → IsEquality same → (x y : ℕ × V) → Decides (nat_eq x.0 y.0 && same x.1 y.1) (x ≡ y)
entry-decides {V} same decides x y =
    Decides-like _ (λ p. λ i. (p.0 i, p.1 i)) (λ q. (ap (λ (e : ℕ × V). e.0) q, ap (λ (e : ℕ × V). e.1) q))
    (Decides-and _ _ (Decides-eqb x.0 y.0) (decides x.1 y.1))

-- whether two lists of entries are the same
pub entries-decide : {V : Type 0} (same : V → V → Bool) → IsEquality same → (a b : List (ℕ × V)) (r : Bool)
    → r ≡ pointwise (λ (x y : ℕ × V). nat_eq x.0 y.0 && same x.1 y.1) a b → Decides r (a ≡ b)
entries-decide same decides a b r e = slice_eq-Decides (entry-decides same decides) a b r e

-- the differences of pairs, gathered by their bits, are none exactly if there is none yet and the two are equal
pub no_difference_of_pairs : (d x : ℕ) (a b : ℕ × ℕ) → x ≡ bit_xor a.0 b.0 → (bit_or d (bit_or x (bit_xor a.1 b.1)) ≡ 0) ↔ ((d ≡ 0) × (a ≡ b))
no_difference_of_pairs d x a b is = (
  λ e.
      let parts = (no_difference x a.1 b.1).0 (rest e) in
      let first : a.0 ≡ b.0 = ((no_difference 0 a.0 b.0).0 (or_zero_l (bit_xor a.0 b.0) ∙ sym is ∙ parts.0)).1 in
      (front e, (λ i. (first i, parts.1 i))),
  λ p.
      let first : x ≡ 0 = is ∙ sym (or_zero_l (bit_xor a.0 b.0)) ∙ (no_difference 0 a.0 b.0).1 (refl, ap (λ (y : ℕ × ℕ). y.0) p.1) in
      ap (λ n. bit_or n (bit_or x (bit_xor a.1 b.1))) p.0
      ∙ or_zero_l (bit_or x (bit_xor a.1 b.1))
      ∙ (no_difference x a.1 b.1).1 (first, ap (λ (y : ℕ × ℕ). y.1) p.1),
)
  where
    front : bit_or d (bit_or x (bit_xor a.1 b.1)) ≡ 0 → d ≡ 0
    front e = omega (arith, le_or_l d (bit_or x (bit_xor a.1 b.1)), e)

    rest : bit_or d (bit_or x (bit_xor a.1 b.1)) ≡ 0 → bit_or x (bit_xor a.1 b.1) ≡ 0
    rest e = omega (arith, le_or_r d (bit_or x (bit_xor a.1 b.1)), e)
