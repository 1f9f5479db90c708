-- Sets of glyphs from which glyphs are taken out, one after the other.
use Rattle.std.proofs.Common.{◌≡◌, ◌≢◌, ◌↔◌, ℕ, zero, suc, ◌+◌, ◌<◌, ◌≤◌, List, [], ◌∷◌, length, Bool, true, false, None, refl, sym, ◌∙◌, ap, subst, arith, inl, inr, slice_set, not}
use mathlib.Core.Bool.{beq}
use Rattle.std.specs.Prelude.{◌&&◌, ◌||◌, slice_index}
use Rattle.std.specs.List.{list_all}
use Rattle.std.proofs.lemmas.Bool.{cases_eq}
use Rattle.std.proofs.lemmas.List.{get_or-set_same, get_or-set_other, set-get_or, length-set}
use Rattle.tt_font.specs.Chains.{end_of, part_of}
use Rattle.tt_font.specs.FileFaults.{font_fault}
use Rattle.tt_font.specs.Files.{font_outlines}
use Rattle.tt_font.specs.Laws.{IsWay}
use Rattle.tt_font.specs.Outlines.{Outline, parts}
use Rattle.hintcheck_c.specs.Representation.Retained.{HasAllReached, is_in}
use Rattle.hintcheck_c.specs.Representation.Retained.{ReachesOutside, TakesOut}
use Rattle.hintcheck_c.proofs.Chains.{at_most_16, reached_on, reaches_part}

-- ---- one step over all glyphs

-- the set, once the glyphs below n have been looked at
pub record IsTaken (outlines : ℕ → Outline) (before : List Bool) (n : ℕ) (set : List Bool) : Type 0 where
  pub len : length set ≡ length before
  pub stays : (id : ℕ) → is_in set id ≡ true → is_in before id ≡ true
  pub parts_stay : (id i : ℕ) → id < n → is_in set id ≡ true → i < length (parts (outlines id)) → is_in before (part_of outlines id i) ≡ true
  pub cause : (id : ℕ) → is_in set id ≡ false → ReachesOutside outlines before id

-- where a list passes a test, each element does; where it doesn't, some element doesn't
each_passes : (test : ℕ → Bool) (xs : List ℕ) (i : ℕ) → list_all test xs ≡ true → i < length xs → test (slice_index xs i) ≡ true
each_passes test [] i all lt = absurd (omega arith)
each_passes test (x ∷ xs) zero all lt = by_head (test x) all
  where
    by_head : (b : Bool) → (b && list_all test xs) ≡ true → b ≡ true
    by_head true e = refl
    by_head false e = cc
each_passes test (x ∷ xs) (suc i) all lt = each_passes test xs i (by_head (test x) all) (omega arith)
  where
    by_head : (b : Bool) → (b && list_all test xs) ≡ true → list_all test xs ≡ true
    by_head true e = e
    by_head false e = cc

record OneFails (test : ℕ → Bool) (xs : List ℕ) : Type 0 where
  place : ℕ
  below : place < length xs
  fails : test (slice_index xs place) ≡ false

one_fails : (test : ℕ → Bool) (xs : List ℕ) → list_all test xs ≡ false → OneFails test xs
one_fails test [] e = absurd (cc)
one_fails test (x ∷ xs) e = by_head (test x) refl (λ rest. one_fails test xs rest)
  where
    by_head : (b : Bool) → test x ≡ b → (list_all test xs ≡ false → OneFails test xs) → OneFails test (x ∷ xs)
    by_head false here on = record { place = 0; below = omega arith; fails = here }
    by_head true here on =
        let rest = on (sym (ap (λ b. b && list_all test xs) here) ∙ e) in
        let lt = rest.below in
        record { place = suc rest.place; below = omega arith; fails = rest.fails }

-- one glyph more is looked at
module _ (outlines : ℕ → Outline) (before set : List Bool) (n : ℕ) (taken : IsTaken outlines before n set) (inside : n < length set) where
  here : (stays : Bool) → is_in (slice_set set n stays) n ≡ stays
  here stays = get_or-set_same set n stays false inside

  there : (stays : Bool) (id : ℕ) → id ≢ n → is_in (slice_set set n stays) id ≡ is_in set id
  there stays id other = get_or-set_other set n id stays false other

  same : is_in set n ≡ true → (id : ℕ) → is_in (slice_set set n true) id ≡ is_in set id
  same was id = elim (cases_eq id n) [
    | inl e ↦ ap (is_in (slice_set set n true)) e ∙ here true ∙ sym was ∙ ap (is_in set) (sym e)
    | inr other ↦ there true id other
  ]

  one_stays : is_in set n ≡ true → list_all (is_in set) (parts (outlines n)) ≡ true → IsTaken outlines before (n + 1) (slice_set set n true)
  one_stays was all = record {
    len = length-set set n true ∙ taken.len;
    stays = λ id e. taken.stays id (sym (same was id) ∙ e);
    parts_stay = λ id i lt e part. elim (cases_eq id n) [
      | inl this ↦ (let P : ℕ → Type 0 = λ x. i < length (parts (outlines x)) in
          ap (λ x. is_in before (part_of outlines x i)) this ∙ taken.stays (part_of outlines n i) (each_passes (is_in set) (parts (outlines n)) i all (subst P this part)))
      | inr other ↦ taken.parts_stay id i (omega arith) (sym (same was id) ∙ e) part
    ];
    cause = λ id e. taken.cause id (sym (same was id) ∙ e);
  }

  one_goes : ReachesOutside outlines before n → IsTaken outlines before (n + 1) (slice_set set n false)
  one_goes cause = record {
    len = length-set set n false ∙ taken.len;
    stays = λ id e. elim (cases_eq id n) [
      | inl this ↦ (let no : is_in (slice_set set n false) id ≡ false = ap (is_in (slice_set set n false)) this ∙ here false in absurd (cc))
      | inr other ↦ taken.stays id (sym (there false id other) ∙ e)
    ];
    parts_stay = λ id i lt e part. elim (cases_eq id n) [
      | inl this ↦ (let no : is_in (slice_set set n false) id ≡ false = ap (is_in (slice_set set n false)) this ∙ here false in absurd (cc))
      | inr other ↦ taken.parts_stay id i (omega arith) (sym (there false id other) ∙ e) part
    ];
    cause = λ id e. elim (cases_eq id n) [
      | inl this ↦ (let R : ℕ → Type 0 = ReachesOutside outlines before in subst R (sym this) cause)
      | inr other ↦ taken.cause id (sym (there false id other) ∙ e)
    ];
  }

  by_parts : OneFails (is_in set) (parts (outlines n)) → ReachesOutside outlines before n
  by_parts fails =
      let on = taken.cause (part_of outlines n fails.place) fails.fails in
      record { other = on.other; reached = reached_on outlines n _ on.other (reaches_part outlines n fails.place fails.below) on.reached; outside = on.outside }

  one_more : (was all : Bool) → is_in set n ≡ was → list_all (is_in set) (parts (outlines n)) ≡ all → IsTaken outlines before (n + 1) (slice_set set n (was && all))
  one_more true true is parts_are = one_stays is parts_are
  one_more true false is parts_are = one_goes (by_parts (one_fails (is_in set) (parts (outlines n)) parts_are))
  one_more false all is parts_are = one_goes (taken.cause n is)

  pub glyph_more : IsTaken outlines before (n + 1) (slice_set set n (is_in set n && list_all (is_in set) (parts (outlines n))))
  glyph_more = one_more (is_in set n) (list_all (is_in set) (parts (outlines n))) refl refl

-- a set that is as it was at this glyph is as it was
stays_same : (before set : List Bool) (n : ℕ) (stays : Bool) → is_in set n ≡ stays → set ≡ before → slice_set set n stays ≡ before
stays_same before set n stays e same = ap (slice_set set n) (sym e) ∙ set-get_or set n false ∙ same

pub still_same : (before set : List Bool) (n : ℕ) (changed was stays : Bool) → is_in set n ≡ was → (changed || not (beq was stays)) ≡ false
    → (changed ≡ false → set ≡ before) → slice_set set n stays ≡ before
still_same before set n true was stays e h same = cc
still_same before set n false true true e h same = stays_same before set n true e (same refl)
still_same before set n false true false e h same = cc
still_same before set n false false true e h same = cc
still_same before set n false false false e h same = stays_same before set n false e (same refl)

-- ---- all steps

-- the set, once k steps have been made
pub record IsRetained (outlines : ℕ → Outline) (before : List Bool) (k : ℕ) (set : List Bool) : Type 0 where
  pub len : length set ≡ length before
  pub ends_stay : (id : ℕ) (way : List ℕ) → is_in set id ≡ true → IsWay outlines id way → length way ≤ k → is_in before (end_of outlines id way) ≡ true
  pub cause : (id : ℕ) → is_in set id ≡ false → ReachesOutside outlines before id

pub step_more : (outlines : ℕ → Outline) (before set after : List Bool) (k : ℕ) → IsRetained outlines before k set → TakesOut outlines set after → IsRetained outlines before (k + 1) after
step_more outlines before set after k retained taken = record {
  len = taken.len ∙ retained.len;
  ends_stay = more_ends;
  cause = λ id e. let first = taken.cause id e in let on = retained.cause first.other first.outside in
      record { other = on.other; reached = reached_on outlines id first.other on.other first.reached on.reached; outside = on.outside };
}
  where
    more_ends : (id : ℕ) (way : List ℕ) → is_in after id ≡ true → IsWay outlines id way → length way ≤ k + 1 → is_in before (end_of outlines id way) ≡ true
    more_ends id [] e steps le = retained.ends_stay id [] (taken.stays id e) tt (omega arith)
    more_ends id (i ∷ way) e steps le = retained.ends_stay (part_of outlines id i) way (taken.parts_stay id i e steps.0) steps.1 (omega arith)

-- where a step takes nothing out, nor do those after it
any_steps : (outlines : ℕ → Outline) (before set : List Bool) (k n : ℕ) → IsRetained outlines before k set → TakesOut outlines set set → IsRetained outlines before (n + k) set
any_steps outlines before set k zero retained none = let R : ℕ → Type 0 = λ j. IsRetained outlines before j set in let e : k ≡ 0 + k = omega arith in subst R e retained
any_steps outlines before set k (suc n) retained none =
    let R : ℕ → Type 0 = λ j. IsRetained outlines before j set in
    let e : (n + k) + 1 ≡ suc n + k = omega arith in
    subst R e (step_more outlines before set set (n + k) (any_steps outlines before set k n retained none) none)

-- a set is closed where each chain from one of its glyphs ends in the first set
closed_by : (outlines : ℕ → Outline) (before set : List Bool) → ((id : ℕ) (way : List ℕ) → is_in set id ≡ true → IsWay outlines id way → is_in before (end_of outlines id way) ≡ true)
    → ((id : ℕ) → is_in set id ≡ false → ReachesOutside outlines before id) → (id : ℕ) → (is_in set id ≡ true) ↔ HasAllReached outlines before id
closed_by outlines before set ends_stay cause id = (
  λ e other reached. ap (is_in before) (sym reached.ends) ∙ ends_stay id reached.way e reached.steps,
  λ all. by_value (is_in set id) refl all,
)
  where
    by_value : (b : Bool) → is_in set id ≡ b → HasAllReached outlines before id → is_in set id ≡ true
    by_value true e all = e
    by_value false e all =
        let outside = cause id e in
        let inside : is_in before outside.other ≡ true = all outside.other outside.reached in
        let not = outside.outside in
        absurd (cc)

pub closed_early : (outlines : ℕ → Outline) (before set : List Bool) (k : ℕ) → IsRetained outlines before k set → TakesOut outlines set set
    → (id : ℕ) → (is_in set id ≡ true) ↔ HasAllReached outlines before id
closed_early outlines before set k retained none =
    closed_by outlines before set (λ id way e steps. (any_steps outlines before set k (length way) retained none).ends_stay id way e steps (omega arith)) retained.cause

pub closed_after_16 : (bytes : List ℕ) (before set : List Bool) → font_fault bytes ≡ None → IsRetained (font_outlines bytes) before 16 set
    → (id : ℕ) → (is_in set id ≡ true) ↔ HasAllReached (font_outlines bytes) before id
closed_after_16 bytes before set none retained =
    closed_by (font_outlines bytes) before set (λ id way e steps. retained.ends_stay id way e steps (at_most_16 bytes none id way steps)) retained.cause
