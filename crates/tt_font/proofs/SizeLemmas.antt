-- The sizes, iteration by iteration.
use Rattle.std.specs.Prelude.{◌≡◌, ℕ, zero, suc, ◌+◌, ◌<◌, ◌≤◌, ◌||◌, ◌++◌, List, [], ◌∷◌, length, Bool, true, false, not, nat_lt, min, Some, None, if◌then◌else◌}
use Rattle.std.specs.List.{sum_by, list_any}
use Rattle.std.specs.Option.{option_or}
use Rattle.std.proofs.Common.{refl, sym, ◌∙◌, ap, subst, arith, inl, inr, length-append}
use Rattle.std.proofs.lemmas.List.{get_or_past, get_or_append_left}
use Rattle.std.proofs.Math.Seq.{get_or-append_seam}
use Rattle.std.proofs.lemmas.List.Sums.{sum_by-cons}
use Rattle.std.proofs.lemmas.Bool.{cases_lt, cases_eq, lt-ltb, le-ltb, ltb-false}
use Rattle.tt_font.proofs.FirstBelow.{first_none}
use Rattle.tt_font.specs.declared.outline_size.OutlineSize.{OutlineSize}
use Rattle.tt_font.specs.Numbers.{first_below}
use Rattle.tt_font.specs.Outlines.{Outline, simple, composite, parts, own_points, own_contours, leads_out, starts_chain, total, refused}
use Rattle.tt_font.specs.Conditions.{refused_glyph}
use Rattle.tt_font.specs.Representation.OutlineSizes.{has_parts, is_unresolved, missing_size, size_at, NextSize, NextSizes, SizeIs, SizesAre, size_refuses, AreTotals}

-- ---- one more size

pub size_of_pushed : (sizes : List OutlineSize) (size : OutlineSize) (n id : ℕ) → length sizes ≡ n → id ≡ n → size_at (sizes ++ size ∷ []) id ≡ size
size_of_pushed sizes size n id len same = ap (size_at (sizes ++ size ∷ [])) (same ∙ sym len) ∙ get_or-append_seam sizes size [] missing_size

pub size_before_pushed : (sizes : List OutlineSize) (size : OutlineSize) (id : ℕ) → id < length sizes → size_at (sizes ++ size ∷ []) id ≡ size_at sizes id
size_before_pushed sizes size id lt = get_or_append_left sizes (size ∷ []) missing_size id lt

pub sizes_more : (count : ℕ) (outlines : ℕ → Outline) (k n : ℕ) (sizes pushed : List OutlineSize) (size : OutlineSize) → SizesAre count outlines k n sizes
    → pushed ≡ sizes ++ size ∷ [] → SizeIs count outlines k n size → SizesAre count outlines k (n + 1) pushed
sizes_more count outlines k n sizes pushed size are is here =
    let R : List OutlineSize → Type 0 = λ x. SizesAre count outlines k (n + 1) x in
    subst R (sym is) (record {
      len = let a = are.len in let b = length-append sizes (size ∷ []) in omega arith;
      each = λ id lt. elim (cases_eq id n) [
        | inl same ↦ let T : OutlineSize → Type 0 = λ x. SizeIs count outlines k id x in
            let N : ℕ → Type 0 = λ x. SizeIs count outlines k x size in
            subst T (sym (size_of_pushed sizes size n id are.len same)) (subst N (sym same) here)
        | inr other ↦ let T : OutlineSize → Type 0 = λ x. SizeIs count outlines k id x in
            let a = are.len in
            subst T (sym (size_before_pushed sizes size id (omega arith))) (are.each id (omega arith))
      ];
    })

-- ---- the first sizes

pub size_is_first : (count : ℕ) (outlines : ℕ → Outline) (outline : Outline) (id : ℕ) (size : OutlineSize) → outlines id ≡ outline
    → size.unresolved ≡ has_parts outline → size.points ≡ min (own_points outline) 65536 → size.contours ≡ min (own_contours outline) 65536
    → SizeIs count outlines 0 id size
unfolding total is_unresolved
size_is_first count outlines outline id size is unresolved points contours = record {
  unresolved = unresolved ∙ ap has_parts (sym is);
  points = points ∙ ap (λ o. min (own_points o) 65536) (sym is);
  contours = contours ∙ ap (λ o. min (own_contours o) 65536) (sym is);
}

-- ---- one more iteration

list_any_same : (p q : ℕ → Bool) (xs : List ℕ) → ((c : ℕ) → p c ≡ q c) → list_any p xs ≡ list_any q xs
list_any_same p q [] same = refl
list_any_same p q (x ∷ xs) same = let a = same x in let b = list_any_same p q xs same in cc

min_sum_same : (f g : ℕ → ℕ) (xs : List ℕ) → ((c : ℕ) → f c ≡ min (g c) 65536) → min (sum_by f xs) 65536 ≡ min (sum_by g xs) 65536
min_sum_same f g [] same = refl
min_sum_same f g (x ∷ xs) same =
    let a = same x in let b = min_sum_same f g xs same in let c = sum_by-cons f x xs in let d = sum_by-cons g x xs in omega arith

total_past : (own : Outline → ℕ) (outlines : ℕ → Outline) (k id : ℕ) → own (simple 0 0) ≡ 0 → outlines id ≡ simple 0 0 → total own outlines k id ≡ 0
unfolding total
total_past own outlines zero id none e = ap own e ∙ none
total_past own outlines (suc k) id none e = ap (λ o. own o + sum_by (total own outlines k) (parts o)) e ∙ (let n = none in omega arith)

module _ (count : ℕ) (outlines : ℕ → Outline) (k : ℕ) (sizes : List OutlineSize) (past : (id : ℕ) → count ≤ id → outlines id ≡ simple 0 0) (are : SizesAre count outlines k count sizes) where
  size_past : (id : ℕ) → count ≤ id → size_at sizes id ≡ missing_size
  size_past id le = let same = are.len in get_or_past sizes id missing_size (omega arith)

  bad_at : (id : ℕ) → (size_at sizes id).unresolved ≡ (not (nat_lt id count) || is_unresolved count outlines k id)
  bad_at id = elim (cases_lt id count) [
    | inl lt ↦ (are.each id lt).unresolved ∙ ap (λ b. not b || is_unresolved count outlines k id) (sym (lt-ltb _ _ lt))
    | inr le ↦ ap (λ x. x.unresolved) (size_past id le) ∙ ap (λ b. not b || is_unresolved count outlines k id) (sym (le-ltb _ _ le))
  ]

  points_at : (id : ℕ) → (size_at sizes id).points ≡ min (total own_points outlines k id) 65536
  points_at id = elim (cases_lt id count) [
    | inl lt ↦ (are.each id lt).points
    | inr le ↦ ap (λ x. x.points) (size_past id le) ∙ ap (λ n. min n 65536) (sym (total_past own_points outlines k id refl (past id le)))
  ]

  contours_at : (id : ℕ) → (size_at sizes id).contours ≡ min (total own_contours outlines k id) 65536
  contours_at id = elim (cases_lt id count) [
    | inl lt ↦ (are.each id lt).contours
    | inr le ↦ ap (λ x. x.contours) (size_past id le) ∙ ap (λ n. min n 65536) (sym (total_past own_contours outlines k id refl (past id le)))
  ]

  pub points_capped : (id : ℕ) → (size_at sizes id).points ≤ 65536
  points_capped id = let e = points_at id in omega arith

  pub contours_capped : (id : ℕ) → (size_at sizes id).contours ≤ 65536
  contours_capped id = let e = contours_at id in omega arith

  next_is : (outline : Outline) (id : ℕ) (size : OutlineSize) → outlines id ≡ outline → NextSize sizes outline (size_at sizes id) size → id < count → SizeIs count outlines (suc k) id size
  unfolding total is_unresolved
  next_is (simple p c) id size is same lt =
      let old = are.each id lt in
      let no_more : (own : Outline → ℕ) → sum_by (total own outlines k) (parts (outlines id)) ≡ 0 = λ own. ap (λ o. sum_by (total own outlines k) (parts o)) is in
      record {
        unresolved = ap (λ x. x.unresolved) same ∙ old.unresolved ∙ first_bad k is ∙ sym (ap (λ o. list_any (λ part. not (nat_lt part count) || is_unresolved count outlines k part) (parts o)) is);
        points = ap (λ x. x.points) same ∙ old.points ∙ ap (λ n. min n 65536) (first_total own_points k is)
            ∙ (let none = no_more own_points in omega arith);
        contours = ap (λ x. x.contours) same ∙ old.contours ∙ ap (λ n. min n 65536) (first_total own_contours k is)
            ∙ (let none = no_more own_contours in omega arith);
      }
    where
      first_bad : (m : ℕ) → outlines id ≡ simple p c → is_unresolved count outlines m id ≡ false
      first_bad zero e = ap has_parts e
      first_bad (suc m) e = ap (λ o. list_any (λ part. not (nat_lt part count) || is_unresolved count outlines m part) (parts o)) e

      first_total : (own : Outline → ℕ) (m : ℕ) → outlines id ≡ simple p c → total own outlines m id ≡ own (outlines id)
      first_total own zero e = refl
      first_total own (suc m) e = let none = ap (λ o. sum_by (total own outlines m) (parts o)) e in omega arith
  next_is (composite numbers) id size is adds lt = record {
    unresolved = adds.unresolved ∙ list_any_same _ _ numbers bad_at ∙ sym (ap (λ o. list_any (λ part. not (nat_lt part count) || is_unresolved count outlines k part) (parts o)) is);
    points = adds.points ∙ min_sum_same _ _ numbers points_at
        ∙ (let same = ap (λ o. sum_by (total own_points outlines k) (parts o)) is in let none = ap own_points is in omega arith);
    contours = adds.contours ∙ min_sum_same _ _ numbers contours_at
        ∙ (let same = ap (λ o. sum_by (total own_contours outlines k) (parts o)) is in let none = ap own_contours is in omega arith);
  }

  pub next_iteration : (next : List OutlineSize) → NextSizes outlines sizes count next → SizesAre count outlines (k + 1) count next
  next_iteration next on =
      let K : ℕ → Type 0 = λ x. SizesAre count outlines x count next in
      let e : suc k ≡ k + 1 = omega arith in
      subst K e (record { len = on.len; each = λ id lt. next_is (outlines id) id (size_at next id) refl (on.each id lt) lt })

-- ---- what refuses a glyph

or_mixed : (a b c d : Bool) → ((a || b) || (c || d)) ≡ ((a || c) || (b || d))
or_mixed true b c d = refl
or_mixed false true true d = refl
or_mixed false true false d = refl
or_mixed false false c d = refl

or_assoc : (a b c : Bool) → ((a || b) || c) ≡ (a || (b || c))
or_assoc true b c = refl
or_assoc false b c = refl

list_any_or : (p q r : ℕ → Bool) (xs : List ℕ) → ((x : ℕ) → r x ≡ (p x || q x)) → list_any r xs ≡ (list_any p xs || list_any q xs)
list_any_or p q r [] same = refl
list_any_or p q r (x ∷ xs) same =
    let here = same x in
    let rest = list_any_or p q r xs same in
    let mixed = or_mixed (p x) (q x) (list_any p xs) (list_any q xs) in
    cc

any_at_all : (outlines : ℕ → Outline) (xs : List ℕ) → list_any (starts_chain outlines zero) xs ≡ nat_lt 0 (length xs)
unfolding starts_chain
any_at_all outlines [] = sym (le-ltb 0 0 (omega arith))
any_at_all outlines (x ∷ xs) = sym (lt-ltb 0 (length (x ∷ xs)) (omega arith))

unresolved_is : (count : ℕ) (outlines : ℕ → Outline) (k id : ℕ) → is_unresolved count outlines k id ≡ (leads_out count outlines k id || starts_chain outlines (suc k) id)
unfolding is_unresolved leads_out starts_chain
unresolved_is count outlines zero id = sym (any_at_all outlines (parts (outlines id)))
unresolved_is count outlines (suc k) id =
    list_any_or (λ part. not (nat_lt part count) || leads_out count outlines k part) (starts_chain outlines (suc k)) _ (parts (outlines id))
    (λ part. ap (λ b. not (nat_lt part count) || b) (unresolved_is count outlines k part)
    ∙ sym (or_assoc (not (nat_lt part count)) (leads_out count outlines k part) (starts_chain outlines (suc k) part)))

capped_test : (a : ℕ) → nat_lt 65535 (min a 65536) ≡ nat_lt 65535 a
capped_test a = elim (cases_lt 65535 a) [
  | inl lt ↦ lt-ltb 65535 (min a 65536) (omega arith) ∙ sym (lt-ltb 65535 a lt)
  | inr le ↦ le-ltb 65535 (min a 65536) (omega arith) ∙ sym (le-ltb 65535 a le)
]

pub size_tells : (count : ℕ) (outlines : ℕ → Outline) (id : ℕ) (size : OutlineSize) → SizeIs count outlines 16 id size → size_refuses size ≡ refused count outlines id
unfolding refused
size_tells count outlines id size is =
    let unresolved = is.unresolved ∙ unresolved_is count outlines 16 id in
    let points : nat_lt 65535 size.points ≡ nat_lt 65535 (total own_points outlines 16 id) = ap (nat_lt 65535) is.points ∙ capped_test (total own_points outlines 16 id) in
    let contours : nat_lt 65535 size.contours ≡ nat_lt 65535 (total own_contours outlines 16 id) = ap (nat_lt 65535) is.contours ∙ capped_test (total own_contours outlines 16 id) in
    let split = or_assoc (leads_out count outlines 16 id) (starts_chain outlines 17 id) (nat_lt 65535 (total own_points outlines 16 id) || nat_lt 65535 (total own_contours outlines 16 id)) in
    cc

-- tests that agree below n have one first number
pub first_below_same : (p q : ℕ → Bool) (n : ℕ) → ((id : ℕ) → id < n → p id ≡ q id) → first_below p n ≡ first_below q n
unfolding first_below
first_below_same p q zero same = refl
first_below_same p q (suc n) same =
    let rest = first_below_same p q n (λ id lt. same id (omega arith)) in
    let here = same n (omega arith) in
    ap (λ o. option_or o (if p n then Some n else None)) rest ∙ ap (λ b. option_or (first_below q n) (if b then Some n else None)) here

-- the first size that refuses its glyph is that of the first refused glyph
pub first_refused_is : (count : ℕ) (outlines : ℕ → Outline) (sizes : List OutlineSize) → SizesAre count outlines 16 count sizes
    → first_below (λ id. size_refuses (size_at sizes id)) count ≡ refused_glyph count outlines
unfolding refused_glyph
first_refused_is count outlines sizes are =
    first_below_same (λ id. size_refuses (size_at sizes id)) (refused count outlines) count (λ id lt. size_tells count outlines id (size_at sizes id) (are.each id lt))

or_false_left : (a b : Bool) → (a || b) ≡ false → a ≡ false
or_false_left true b e = cc
or_false_left false b e = refl

or_false_right : (a b : Bool) → (a || b) ≡ false → b ≡ false
or_false_right true b e = cc
or_false_right false b e = e

-- what holds of a glyph that isn't refused
pub record IsTaken (count : ℕ) (outlines : ℕ → Outline) (id : ℕ) : Type 0 where
  pub inside : leads_out count outlines 16 id ≡ false
  pub ends : starts_chain outlines 17 id ≡ false
  pub points : total own_points outlines 16 id ≤ 65535
  pub contours : total own_contours outlines 16 id ≤ 65535

pub is_taken : (count : ℕ) (outlines : ℕ → Outline) (id : ℕ) → refused count outlines id ≡ false → IsTaken count outlines id
unfolding refused
is_taken count outlines id e =
    let rest = or_false_right (leads_out count outlines 16 id) _ e in
    let sizes = or_false_right (starts_chain outlines 17 id) _ rest in
    record {
      inside = or_false_left (leads_out count outlines 16 id) _ e;
      ends = or_false_left (starts_chain outlines 17 id) _ rest;
      points = ltb-false 65535 (total own_points outlines 16 id) (or_false_left _ _ sizes);
      contours = ltb-false 65535 (total own_contours outlines 16 id) (or_false_right (nat_lt 65535 (total own_points outlines 16 id)) _ sizes);
    }

pub all_taken : (count : ℕ) (outlines : ℕ → Outline) → refused_glyph count outlines ≡ None → (id : ℕ) → id < count → IsTaken count outlines id
unfolding refused_glyph
all_taken count outlines none id lt = is_taken count outlines id (first_none (refused count outlines) count none id lt)

pub sums_are_exact : (count : ℕ) (outlines : ℕ → Outline) (sizes : List OutlineSize) → SizesAre count outlines 16 count sizes
    → refused_glyph count outlines ≡ None → AreTotals outlines count sizes
sums_are_exact count outlines sizes are none id lt =
    let taken = all_taken count outlines none id lt in
    let is = are.each id lt in
    let points = is.points in
    let contours = is.contours in
    let points_most = taken.points in
    let contours_most = taken.contours in
    (omega arith, omega arith)

-- an iteration that changes nothing is followed by iterations that change nothing
pub stays_so : (count : ℕ) (outlines : ℕ → Outline) (k j : ℕ) (sizes : List OutlineSize) → ((id : ℕ) → count ≤ id → outlines id ≡ simple 0 0)
    → NextSizes outlines sizes count sizes → SizesAre count outlines k count sizes → SizesAre count outlines (k + j) count sizes
stays_so count outlines k zero sizes past same are =
    let K : ℕ → Type 0 = λ x. SizesAre count outlines x count sizes in
    let e : k ≡ k + 0 = omega arith in
    subst K e are
stays_so count outlines k (suc j) sizes past same are =
    let K : ℕ → Type 0 = λ x. SizesAre count outlines x count sizes in
    let e : (k + j) + 1 ≡ k + suc j = omega arith in
    subst K e (next_iteration count outlines (k + j) sizes past (stays_so count outlines k j sizes past same are) sizes same)
