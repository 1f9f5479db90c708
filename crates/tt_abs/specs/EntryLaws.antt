-- The laws of the order on sorted maps.
use Rattle.std.specs.Prelude.{◌≡◌, ℕ, ◌<◌, ◌≤◌, ◌⊎◌, ◌↔◌, Bool, true, false, ◌&&◌, nat_eq, if◌then◌else◌, List, [], ◌∷◌, Some, length}
use Rattle.std.specs.List.{AllByRecursion}
use Rattle.std.proofs.Common.{refl, sym, ◌∙◌, ap, subst, arith, inl, inr}
use Rattle.std.proofs.lemmas.Bool.{cases_eq, eqb-true, eq-eqb, and_parts, and_from}
use Rattle.tt_abs.specs.Orders.{OrderLaws, IsLeastAbove}
use Rattle.tt_setting.specs.Entries.{Ascends, listed}
use Rattle.tt_setting.specs.EntryLists.{IsEquality, common_entries}
use Rattle.tt_abs.specs.EntryOrders.{EntriesBelow, EntriesInRange, after_entry, missing_entries, entry_order}
use Rattle.tt_setting.specs.EntryLaws.{listed-here, listed-there, all-above, number-above, all-filter, Ascends-filter, listed-filter, holds_value-is}

-- One list below another, with and without first entries.

-- the first list's first entry may be removed, if its number is below all those of the second list
pub below-without_first : {V : Type 0} (x : ℕ × V) (xs b : List (ℕ × V))
    → AllByRecursion (λ e. x.0 < e.0) b → EntriesBelow (x ∷ xs) b → EntriesBelow xs b
below-without_first x xs b above p n v l =
    let lt : x.0 < n = number-above x.0 n v b above l in
    sym (listed-there x xs n (λ q. omega arith)) ∙ p n v l

-- a first entry may be added to the first list
pub below-with_first : {V : Type 0} (x : ℕ × V) (xs b : List (ℕ × V))
    → AllByRecursion (λ e. x.0 < e.0) xs → EntriesBelow xs b → EntriesBelow (x ∷ xs) b
below-with_first x xs b above p n v l =
    let lt : x.0 < n = number-above x.0 n v xs above (p n v l) in
    listed-there x xs n (λ q. omega arith) ∙ p n v l

-- the second list's first entry may be removed
pub below-after_first : {V : Type 0} (a : List (ℕ × V)) (y : ℕ × V) (ys : List (ℕ × V))
    → AllByRecursion (λ e. y.0 < e.0) ys → EntriesBelow a (y ∷ ys) → EntriesBelow a ys
below-after_first a y ys above p n v l =
    let lt : y.0 < n = number-above y.0 n v ys above l in
    p n v (listed-there y ys n (λ q. omega arith) ∙ l)

-- the same first entry may be added to both lists
pub below-same_first : {V : Type 0} (x y : ℕ × V) (xs ys : List (ℕ × V)) → x ≡ y
    → AllByRecursion (λ e. x.0 < e.0) xs → EntriesBelow xs ys → EntriesBelow (x ∷ xs) (y ∷ ys)
below-same_first {V} x y xs ys same above p n v l = elim (cases_eq y.0 n) [
  | inl here ↦ let e : (x ∷ xs) ≡ (y ∷ xs) = ap (λ (z : ℕ × V). z ∷ xs) same in
      ap (λ (es : List (ℕ × V)). listed es n) e ∙ listed-here y xs n here
      ∙ sym (listed-here y ys n here) ∙ l
  | inr other ↦ below-with_first x xs ys above p n v (sym (listed-there y ys n other) ∙ l)
]

-- the first entry of the second list is that of the first, or after it
pub first-below : {V : Type 0} (x y : ℕ × V) (xs ys : List (ℕ × V))
    → AllByRecursion (λ e. x.0 < e.0) xs → EntriesBelow (x ∷ xs) (y ∷ ys) → (x ≡ y) ⊎ (x.0 < y.0)
first-below {V} x y xs ys above p =
    let l : listed (x ∷ xs) y.0 ≡ Some y.1 = p y.0 y.1 (listed-here y ys y.0 refl) in
    elim (cases_eq x.0 y.0) [
      | inl same ↦
          let v : x.1 ≡ y.1 = first-value (sym (listed-here x xs y.0 same) ∙ l) in
          inl (λ i. (same i, v i))
      | inr other ↦ inr (number-above x.0 y.0 y.1 xs above (sym (listed-there x xs y.0 other) ∙ l))
    ]
  where
    first-value : Some x.1 ≡ Some y.1 → x.1 ≡ y.1
    first-value e = cc

-- The laws.

-- a list above another has no more entries
pub entries-length : {V : Type 0} (a b : List (ℕ × V)) → Ascends a → Ascends b → EntriesBelow a b
    → length b ≤ length a
entries-length {V} [] [] ra rb p = omega arith
entries-length {V} [] (y ∷ ys) ra rb p = let l = p y.0 y.1 (listed-here y ys y.0 refl) in cc
entries-length {V} (x ∷ xs) [] ra rb p = omega arith
entries-length {V} (x ∷ xs) (y ∷ ys) ra rb p = elim (first-below x y xs ys ra.0 p) [
  | inl same ↦
      let A : ℕ × V → Type 0 = λ z. AllByRecursion (λ e. z.0 < e.0) ys in
      let ih = entries-length xs ys ra.1 rb.1
      (below-without_first x xs ys (subst A (sym same) rb.0)
      (below-after_first (x ∷ xs) y ys rb.0 p)) in omega arith
  | inr lt ↦
      let ih = entries-length xs (y ∷ ys) ra.1 rb
      (below-without_first x xs (y ∷ ys) (lt, all-above x.0 y.0 ys lt rb.0) p) in omega arith
]

-- a list above another with as many entries is the same
pub entries-same : {V : Type 0} (a b : List (ℕ × V)) → Ascends a → Ascends b → EntriesBelow a b
    → length b ≡ length a → a ≡ b
entries-same {V} [] [] ra rb p e = refl
entries-same {V} [] (y ∷ ys) ra rb p e = absurd (omega arith)
entries-same {V} (x ∷ xs) [] ra rb p e = absurd (omega arith)
entries-same {V} (x ∷ xs) (y ∷ ys) ra rb p e = elim (first-below x y xs ys ra.0 p) [
  | inl same ↦
      let A : ℕ × V → Type 0 = λ z. AllByRecursion (λ e. z.0 < e.0) ys in
      let tail : xs ≡ ys =
      entries-same xs ys ra.1 rb.1
      (below-without_first x xs ys (subst A (sym same) rb.0)
      (below-after_first (x ∷ xs) y ys rb.0 p)) (omega arith) in cc
  | inr lt ↦
      let less = entries-length xs (y ∷ ys) ra.1 rb
      (below-without_first x xs (y ∷ ys) (lt, all-above x.0 y.0 ys lt rb.0) p) in
      absurd (omega arith)
]

-- the laws of the order of sorted maps
pub entry_laws : {V : Type 0} (IsInRange : V → Type 0) → OrderLaws (entry_order IsInRange)
entry_laws IsInRange = record {
  reflexive = λ a n v l. l;
  transitive = λ a b c p q n v l. p n v (q n v l);
  antisymmetric = λ a b ra rb p q.
      let down = entries-length a b ra.ascends rb.ascends p in
      let up = entries-length b a rb.ascends ra.ascends q in
      entries-same a b ra.ascends rb.ascends p (omega arith);
  one_depth = λ _ _ _. tt;
  depth_symmetric = λ _ _ _. tt;
  depth_transitive = λ _ _ _ _ _. tt;
  left_falls = λ a b ra rb. entries-length a b ra.ascends rb.ascends;
  left_strict = λ a b ra rb. entries-same a b ra.ascends rb.ascends;
}

-- Entries that pass a test.

-- the entries that both lists have are the least list above both
pub common_is_least : {V : Type 0} (IsInRange : V → Type 0) (same : V → V → Bool) → IsEquality same
    → (a b : List (ℕ × V)) → EntriesInRange IsInRange a
    → IsLeastAbove (entry_order IsInRange) a b (common_entries same a b)
common_is_least IsInRange same decides a b r = record {
  in_range = record { ascends = Ascends-filter _ a r.ascends; values = all-filter _ _ a r.values };
  left = λ n v l. ((listed-filter _ a r.ascends n v).0 l).0;
  right = λ n v l.
      (holds_value-is same decides (listed b n) v).0 ((listed-filter _ a r.ascends n v).0 l).1;
  least = λ d rd p q n v l.
      (listed-filter _ a r.ascends n v).1
      (p n v l, (holds_value-is same decides (listed b n) v).1 (q n v l));
}

-- Nothing is missing exactly where the first list is below the second.

missing_step : {V : Type 0} (same : V → V → Bool) → IsEquality same
    → (x y : ℕ × V) (xs ys : List (ℕ × V)) (b : Bool) → (nat_eq y.0 x.0 && same y.1 x.1) ≡ b
    → Ascends (x ∷ xs) → Ascends (y ∷ ys)
    → EntriesBelow xs (if b then ys else y ∷ ys) ↔ EntriesBelow (x ∷ xs) (y ∷ ys)
missing_step {V} same decides x y xs ys true is rx ry =
    let both = and_parts _ _ is in
    let number : y.0 ≡ x.0 = eqb-true y.0 x.0 both.0 in
    let value : y.1 ≡ x.1 = (decides y.1 x.1).0 both.1 in
    let equal : x ≡ y = λ i. (sym number i, sym value i) in
    let A : ℕ × V → Type 0 = λ z. AllByRecursion (λ e. z.0 < e.0) ys in (
      below-same_first x y xs ys equal rx.0,
      λ p.
          below-without_first x xs ys (subst A (sym equal) ry.0)
          (below-after_first (x ∷ xs) y ys ry.0 p),
    )
missing_step {V} same decides x y xs ys false is rx ry = (
  below-with_first x xs (y ∷ ys) rx.0,
  λ p. elim (first-below x y xs ys rx.0 p) [
    | inl equal ↦ let t : (nat_eq y.0 x.0 && same y.1 x.1) ≡ true =
        and_from _ _ (eq-eqb y.0 x.0 (ap (λ (z : ℕ × V). z.0) (sym equal)))
        ((decides y.1 x.1).1 (ap (λ (z : ℕ × V). z.1) (sym equal))) in cc
    | inr lt ↦ below-without_first x xs (y ∷ ys) (lt, all-above x.0 y.0 ys lt ry.0) p
  ],
)

Ascends-after : {V : Type 0} (same : V → V → Bool) (e : ℕ × V) (b : List (ℕ × V)) → Ascends b
    → Ascends (after_entry same e b)
Ascends-after same e [] r = tt
Ascends-after same e (x ∷ xs) r = go (nat_eq x.0 e.0 && same x.1 e.1)
  where
    go : (t : Bool) → Ascends (if t then xs else x ∷ xs)
    go true = r.1
    go false = r

-- no entry is missing exactly if the first list is below the second
pub missing-below : {V : Type 0} (same : V → V → Bool) → IsEquality same → (a b : List (ℕ × V))
    → Ascends a → Ascends b → (missing_entries same a b ≡ []) ↔ EntriesBelow a b
missing-below same decides [] [] ra rb = (λ _ n v l. l, λ _. refl)
missing-below same decides [] (y ∷ ys) ra rb =
    (λ e. cc, λ p. let l = p y.0 y.1 (listed-here y ys y.0 refl) in cc)
missing-below {V} same decides (x ∷ xs) [] ra rb =
    let ih = missing-below same decides xs [] ra.1 rb in
    let nothing : (es : List (ℕ × V)) → EntriesBelow es [] = λ es n v l. cc in
    (λ e. nothing (x ∷ xs), λ p. ih.1 (nothing xs))
missing-below same decides (x ∷ xs) (y ∷ ys) ra rb =
    let ih = missing-below same decides xs (after_entry same x (y ∷ ys)) ra.1
    (Ascends-after same x (y ∷ ys) rb) in
    let step = missing_step same decides x y xs ys (nat_eq y.0 x.0 && same y.1 x.1) refl ra rb in
    (λ e. step.0 (ih.0 e), λ p. ih.1 (step.1 p))
