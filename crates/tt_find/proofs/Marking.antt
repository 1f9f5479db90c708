-- What is kept, after an offset was marked.
use Rattle.std.specs.Prelude.{◌≡◌, ◌≢◌, ◌⊎◌, ℕ, ◌<◌, false, cond, Option, Some, None, length, slice_index_or, slice_set}
use Rattle.std.specs.Vec.{with_item}
use Rattle.std.proofs.Common.{refl, sym, ◌∙◌, ap, inl, inr}
use Rattle.std.proofs.lemmas.Bool.{cases_Bool, cases_eq, cases_lt}
use Rattle.std.proofs.lemmas.List.{get_or-set_other, get_or-set_same, get_or_past}
use Rattle.tt_abs.specs.declared.state.State.{State}
use Rattle.tt_abs.specs.StateFlow.{Place}
use Rattle.tt_setting.specs.Spots.{spot_of}
use Rattle.tt_setting.specs.declared.spot.Spot.{Spot}
use Rattle.tt_setting.specs.declared.spot.Spot.TheVariants.{Main, Font, Prep}
use Rattle.tt_find.specs.Representation.OffsetMarks.{SetsMark, list_of, mark_at, mark_of}
use Rattle.tt_find.specs.Representation.Solvers.{AreKept}
use Rattle.tt_find.specs.declared.marks.Mark.{Mark}
use Rattle.tt_find.specs.declared.marks.Mark.TheVariants.{Free, Kept, Passed}
use Rattle.tt_find.specs.declared.marks.OffsetMarks.{OffsetMarks}
use Rattle.tt_find.proofs.Points.{same_or_apart, slot_elsewhere, slot_here, with_slot}

cases_spot : (a b : Spot) → (a ≡ b) ⊎ (a ≢ b)
cases_spot Main Main = inl refl
cases_spot Main Font = inr (λ e. cc)
cases_spot Main Prep = inr (λ e. cc)
cases_spot Font Main = inr (λ e. cc)
cases_spot Font Font = inl refl
cases_spot Font Prep = inr (λ e. cc)
cases_spot Prep Main = inr (λ e. cc)
cases_spot Prep Font = inr (λ e. cc)
cases_spot Prep Prep = inl refl

-- a place is at the offset that was marked, or not
cases_at : (spot : Spot) (offset : ℕ) (p : Place) → ((spot_of p.0 ≡ spot) × (p.1 ≡ offset)) ⊎ ((spot_of p.0 ≡ spot) × (p.1 ≡ offset) → ⊥)
cases_at spot offset p = elim (cases_spot (spot_of p.0) spot) [
  | inr apart ↦ inr (λ h. apart h.0)
  | inl same ↦ elim (cases_eq p.1 offset) [
    | inl e ↦ inl (same, e)
    | inr apart ↦ inr (λ h. apart h.1)
  ]
]

-- what is known of an offset is one of three
cases_mark : (m : Mark) → (m ≡ Free) ⊎ (m ≡ Passed) ⊎ (m ≡ Kept)
cases_mark Free = inl refl
cases_mark Passed = inr (inl refl)
cases_mark Kept = inr (inr refl)

module _ (old new : OffsetMarks) (q : Place) (mark : Mark) (sets : SetsMark old new (spot_of q.0) q.1 mark) where
  marked_here : (p : Place) → (spot_of p.0 ≡ spot_of q.0) × (p.1 ≡ q.1) → mark_at new p ≡ mark
  marked_here p (spot, offset) = (λ i. mark_of new (spot i) (offset i)) ∙ sets.here

  was_here : (p : Place) → (spot_of p.0 ≡ spot_of q.0) × (p.1 ≡ q.1) → mark_at old p ≡ mark_at old q
  was_here p (spot, offset) = λ i. mark_of old (spot i) (offset i)

  as_before : (p : Place) → ((spot_of p.0 ≡ spot_of q.0) × (p.1 ≡ q.1) → ⊥) → mark_at new p ≡ mark_at old p
  as_before p apart = sets.elsewhere (spot_of p.0) p.1 apart

-- the state at a place that wasn't passed is the kept one
pub kept_here : (marks : OffsetMarks) (stored filled : Place → Option State) (q : Place) → AreKept marks stored filled → mark_at marks q ≢ Passed → stored q ≡ filled q
kept_here marks stored filled q kept fresh = elim (cases_mark (mark_at marks q)) [
  | inl free ↦ let (a, b) = kept.free q free in a ∙ sym b
  | inr (inl passed) ↦ absurd (fresh passed)
  | inr (inr is) ↦ kept.kept q is
]

-- a kept state is that of the filled family
pub kept_state : (marks : OffsetMarks) (stored filled : Place → Option State) (q : Place) (a : State) → AreKept marks stored filled → stored q ≡ Some a → filled q ≡ Some a
kept_state marks stored filled q a kept at =
    sym (kept_here marks stored filled q kept (λ passed. let no_such : None ≡ Some a = sym (kept.passed q passed) ∙ at in cc)) ∙ at

-- where states aren't kept there is none
pub none_kept : (marks : OffsetMarks) (stored filled : Place → Option State) (q : Place) → AreKept marks stored filled → mark_at marks q ≢ Kept → stored q ≡ None
none_kept marks stored filled q kept fresh = elim (cases_mark (mark_at marks q)) [
  | inl free ↦ (kept.free q free).0
  | inr (inl passed) ↦ kept.passed q passed
  | inr (inr is) ↦ absurd (fresh is)
]

-- a state was put at a place at which states are kept from then on
pub kept_put : (old new : OffsetMarks) (stored stored' filled : Place → Option State) (q : Place) → AreKept old stored filled → SetsMark old new (spot_of q.0) q.1 Kept
    → mark_at old q ≢ Passed → ((p : Place) → p ≢ q → stored' p ≡ stored p) → AreKept new stored' (with_slot filled q (stored' q))
kept_put old new stored stored' filled q kept sets fresh elsewhere = record {
  kept = λ p is. elim (same_or_apart p q) [
    | inl same ↦ ap stored' same ∙ sym (slot_here filled q (stored' q)) ∙ ap (with_slot filled q (stored' q)) (sym same)
    | inr apart ↦ elsewhere p apart ∙ stored_is p is ∙ sym (slot_elsewhere filled q (stored' q) p apart)
  ];
  passed = λ p is. elim (cases_at (spot_of q.0) q.1 p) [
    | inl at ↦ absurd (let no_such : Kept ≡ Passed = sym (marked_here old new q Kept sets p at) ∙ is in cc)
    | inr apart ↦ elsewhere p (λ e. apart (ap (λ (x : Place). spot_of x.0) e, ap (λ (x : Place). x.1) e)) ∙ kept.passed p (sym (as_before old new q Kept sets p apart) ∙ is)
  ];
  free = λ p is. elim (cases_at (spot_of q.0) q.1 p) [
    | inl at ↦ absurd (let no_such : Kept ≡ Free = sym (marked_here old new q Kept sets p at) ∙ is in cc)
    | inr apart ↦
        let other : p ≢ q = λ e. apart (ap (λ (x : Place). spot_of x.0) e, ap (λ (x : Place). x.1) e) in
        let (a, b) = kept.free p (sym (as_before old new q Kept sets p apart) ∙ is) in
        (elsewhere p other ∙ a, slot_elsewhere filled q (stored' q) p other ∙ b)
  ];
}
  where
    stored_is : (p : Place) → mark_at new p ≡ Kept → stored p ≡ filled p
    stored_is p is = elim (cases_at (spot_of q.0) q.1 p) [
      | inl at ↦ kept_here old stored filled p kept (λ passed. fresh (sym (was_here old new q Kept sets p at) ∙ passed))
      | inr apart ↦ kept.kept p (sym (as_before old new q Kept sets p apart) ∙ is)
    ]

-- a state went over a place at which states aren't kept
pub kept_passed : (old new : OffsetMarks) (stored filled : Place → Option State) (q : Place) (slot : Option State) → AreKept old stored filled → SetsMark old new (spot_of q.0) q.1 Passed
    → mark_at old q ≢ Kept → AreKept new stored (with_slot filled q slot)
kept_passed old new stored filled q slot kept sets fresh = record {
  kept = λ p is. elim (cases_at (spot_of q.0) q.1 p) [
    | inl at ↦ absurd (let no_such : Passed ≡ Kept = sym (marked_here old new q Passed sets p at) ∙ is in cc)
    | inr apart ↦ kept.kept p (sym (as_before old new q Passed sets p apart) ∙ is) ∙ sym (slot_elsewhere filled q slot p (other p apart))
  ];
  passed = λ p is. elim (cases_at (spot_of q.0) q.1 p) [
    | inl at ↦ none_kept old stored filled p kept (λ k. fresh (sym (was_here old new q Passed sets p at) ∙ k))
    | inr apart ↦ kept.passed p (sym (as_before old new q Passed sets p apart) ∙ is)
  ];
  free = λ p is. elim (cases_at (spot_of q.0) q.1 p) [
    | inl at ↦ absurd (let no_such : Passed ≡ Free = sym (marked_here old new q Passed sets p at) ∙ is in cc)
    | inr apart ↦
        let (a, b) = kept.free p (sym (as_before old new q Passed sets p apart) ∙ is) in
        (a, slot_elsewhere filled q slot p (other p apart) ∙ b)
  ];
}
  where
    other : (p : Place) → ((spot_of p.0 ≡ spot_of q.0) × (p.1 ≡ q.1) → ⊥) → p ≢ q
    other p apart = λ e. apart (ap (λ (x : Place). spot_of x.0) e, ap (λ (x : Place). x.1) e)

-- an offset of a program's list is marked

not_everywhere : (marks : OffsetMarks) (spot : Spot) (offset : ℕ) → mark_of marks spot offset ≢ Kept → (marks.everywhere ≡ false) × (offset < length (list_of marks spot))
not_everywhere marks spot offset fresh = (is, lt)
  where
    is : marks.everywhere ≡ false
    is = elim (cases_Bool marks.everywhere) [
      | inl all ↦ absurd (fresh (ap (λ b. cond b Kept (slice_index_or (list_of marks spot) offset Kept)) all))
      | inr some ↦ some
    ]

    lt : offset < length (list_of marks spot)
    lt = elim (cases_lt offset (length (list_of marks spot))) [
      | inl within ↦ within
      | inr past ↦ absurd (fresh (ap (λ b. cond b Kept (slice_index_or (list_of marks spot) offset Kept)) is ∙ get_or_past (list_of marks spot) offset Kept past))
    ]

sets_from : (old new : OffsetMarks) (spot : Spot) (offset : ℕ) (mark : Mark) → mark_of old spot offset ≢ Kept → new.everywhere ≡ old.everywhere
    → list_of new spot ≡ slice_set (list_of old spot) offset mark → ((other : Spot) → other ≢ spot → list_of new other ≡ list_of old other) → SetsMark old new spot offset mark
sets_from old new spot offset mark fresh same here others =
    let (is, lt) = not_everywhere old spot offset fresh in
    record {
      here = ap (λ b. cond b Kept (slice_index_or (list_of new spot) offset Kept)) (same ∙ is) ∙ ap (λ x. slice_index_or x offset Kept) here
          ∙ get_or-set_same (list_of old spot) offset mark Kept lt;
      elsewhere = λ other at distinct.
          ap (λ b. cond b Kept (slice_index_or (list_of new other) at Kept)) (same ∙ is)
          ∙ at_other other at distinct
          ∙ sym (ap (λ b. cond b Kept (slice_index_or (list_of old other) at Kept)) is);
      everywhere = same;
    }
  where
    at_other : (other : Spot) (at : ℕ) → ((other ≡ spot) × (at ≡ offset) → ⊥) → slice_index_or (list_of new other) at Kept ≡ slice_index_or (list_of old other) at Kept
    at_other other at distinct = elim (cases_spot other spot) [
      | inr differs ↦ ap (λ x. slice_index_or x at Kept) (others other differs)
      | inl is ↦
          let there : list_of new other ≡ slice_set (list_of old other) offset mark =
          ap (list_of new) is ∙ here ∙ ap (λ x. slice_set (list_of old x) offset mark) (sym is) in
          ap (λ x. slice_index_or x at Kept) there ∙ get_or-set_other (list_of old other) offset at mark Kept (λ e. distinct (is, e))
    ]

pub sets_main : (old : OffsetMarks) (spot : Spot) (offset : ℕ) (mark : Mark) → spot ≡ Main → mark_of old spot offset ≢ Kept
    → SetsMark old (record old { main = with_item old.main offset mark }) spot offset mark
sets_main old spot offset mark is fresh = sets_from old (record old { main = with_item old.main offset mark }) spot offset mark fresh refl
    (ap (list_of (record old { main = with_item old.main offset mark })) is ∙ ap (λ x. slice_set (list_of old x) offset mark) (sym is)) others
  where
    others : (other : Spot) → other ≢ spot → list_of (record old { main = with_item old.main offset mark }) other ≡ list_of old other
    others Main apart = absurd (apart (sym is))
    others Font apart = refl
    others Prep apart = refl

pub sets_font : (old : OffsetMarks) (spot : Spot) (offset : ℕ) (mark : Mark) → spot ≡ Font → mark_of old spot offset ≢ Kept
    → SetsMark old (record old { font = with_item old.font offset mark }) spot offset mark
sets_font old spot offset mark is fresh = sets_from old (record old { font = with_item old.font offset mark }) spot offset mark fresh refl
    (ap (list_of (record old { font = with_item old.font offset mark })) is ∙ ap (λ x. slice_set (list_of old x) offset mark) (sym is)) others
  where
    others : (other : Spot) → other ≢ spot → list_of (record old { font = with_item old.font offset mark }) other ≡ list_of old other
    others Main apart = refl
    others Font apart = absurd (apart (sym is))
    others Prep apart = refl

pub sets_prep : (old : OffsetMarks) (spot : Spot) (offset : ℕ) (mark : Mark) → spot ≡ Prep → mark_of old spot offset ≢ Kept
    → SetsMark old (record old { prep = with_item old.prep offset mark }) spot offset mark
sets_prep old spot offset mark is fresh = sets_from old (record old { prep = with_item old.prep offset mark }) spot offset mark fresh refl
    (ap (list_of (record old { prep = with_item old.prep offset mark })) is ∙ ap (λ x. slice_set (list_of old x) offset mark) (sym is)) others
  where
    others : (other : Spot) → other ≢ spot → list_of (record old { prep = with_item old.prep offset mark }) other ≡ list_of old other
    others Main apart = refl
    others Font apart = refl
    others Prep apart = absurd (apart (sym is))
