-- The walk through the points of a family, those that it leaves out included.
use Rattle.std.specs.Prelude.{◌≡◌, ◌≢◌, ◌↔◌, ◌&&◌, ◌==◌, ◌⊎◌, ℕ, ◌+◌, ◌*◌, ◌-◌, ◌<◌, ◌≤◌, ◌^◌, Bool, true, false, cond, Option, Some, None, IfSome, List, [], ◌∷◌, ◌++◌, length, slice_get, zero, suc}
use Rattle.std.specs.Bool.{Decides}
use Rattle.std.specs.List.{AllByRecursion}
use Rattle.std.specs.List.Sorted.{IsStrictlySortedBy}
use Rattle.std.specs.Map.{keys_of}
use Rattle.std.specs.Borrow.{Bor}
use Rattle.std.specs.BTreeMap.{is_at}
use Rattle.std.specs.declared.cmp.Ordering.TheVariants.{Less}
use Rattle.std.proofs.Common.{refl, sym, ◌∙◌, ap, subst, arith, inl, inr, append-nil, append_assoc, length-append}
use Rattle.std.proofs.lemmas.Bool.{cases_lt, cases_eq, cases_Bool}
use Rattle.std.proofs.lemmas.Bool.Decides.{Decides-eqb, Decides-and}
use Rattle.tt_code.specs.Settings.{Setting, is_main_end}
use Rattle.tt_code.specs.declared.reason.Reason.{Reason}
use Rattle.tt_code.specs.declared.reason.Reason.TheVariants.{Target}
use Rattle.tt_abs.specs.declared.state.State.{State}
use Rattle.tt_abs.specs.Lines.{EndsAt, Precedes}
use Rattle.tt_abs.specs.StateFlow.{Place, GivesState, RefusesState}
use Rattle.tt_abs.proofs.FlowOfStates.{given_one}
use Rattle.tt_abs.proofs.LineLaws.{between_refused, ends_once, precedes_place}
use Rattle.tt_family.specs.Contents.{Contents, HasContext, IsFamily, family_of, frames_at, number_of, same_frames}
use Rattle.tt_family.specs.Numbers.{at-number_of, same_frames-decides}
use Rattle.tt_family.specs.Places.{IsLess, place_cmp, states_of}
use Rattle.tt_family.specs.Puts.{number_at, place_of}
use Rattle.tt_family.specs.Checks.{FitOffsetsBefore, BreaksAt, IsFilledBy, IsFirstBreakOnTheWay, IsSoundAt, Names, WasAdded, point_key_of}
use Rattle.tt_family.specs.Representation.Cursors.{Entry, IsAtPoint, IsCarried, IsComingAfter, IsEntry, IsOnWay, IsPassed, IsRead, IsUnlisted, IsWalkedThrough, IsWalkedTo, MayLeaveOut, to_come}
use Rattle.tt_family.specs.Fillings.{IsAfter}
use Rattle.tt_setting.specs.declared.refusal.Refusal.{Refusal}
use Rattle.tt_setting.specs.declared.refusal.Refusal.TheVariants.{Refused, Exhausted}
use Rattle.tt_family.specs.declared.listing.Listing.{Listing}
use Rattle.tt_family.specs.declared.listing.Listing.TheVariants.{Whole, Sparse}
use Rattle.tt_family.specs.declared.cursor.Cursor.{Cursor}
use Rattle.tt_family.proofs.FillingLaws.{some_or_none}
use Rattle.tt_family.proofs.KeyOrders.{less_self, less_trans, less_past, less_or_not, less_next, less_on, here_on, not_next, less_from_cmp}
use Rattle.tt_family.proofs.Puts.{cases_place, places_apart}
use Rattle.tt_family.proofs.Moves.{IsFoundAll, entry_found}
use Rattle.tt_family.proofs.Landings.{state_there}

-- Entries of a list.

seam : {A : Type 0} (xs ys : List A) (x : A) → slice_get (xs ++ x ∷ ys) (length xs) ≡ Some x
seam [] ys x = refl
seam (z ∷ zs) ys x = seam zs ys x

-- a state that is found is in the list under its key
entry_of : (es : List Entry) (key : ℕ × ℕ) (a : State) → states_of es key ≡ Some a → (i : ℕ) × (e : Entry) × (slice_get es i ≡ Some e) × (e.0 ≡ key) × (e.1 ≡ a)
entry_of [] key a at = absurd (cc)
entry_of (e ∷ es) key a at = elim (cases_Bool (is_at (place_cmp key) e.0)) [
  | inl here ↦
      let value : Some e.1 ≡ Some a = sym (ap (λ b. cond b (Some e.1) (states_of es key)) here) ∙ at in
      (0, e, refl, same_key here, cc)
  | inr apart ↦
      let rest : states_of es key ≡ Some a = sym (ap (λ b. cond b (Some e.1) (states_of es key)) apart) ∙ at in
      let (i, d, at_i, key_is, value_is) = entry_of es key a rest in
      (suc i, d, at_i, key_is, value_is)
]
  where
    same_key : is_at (place_cmp key) e.0 ≡ true → e.0 ≡ key
    same_key here = elim (cases_place e.0 key) [
      | inl same ↦ same
      | inr other ↦ absurd (let no_such : true ≡ false = sym here ∙ places_apart key e.0 other in cc)
    ]

one_of_keys : (P : ℕ × ℕ → Type 0) (es : List Entry) (i : ℕ) (e : Entry) → AllByRecursion P (keys_of es) → slice_get es i ≡ Some e → P e.0
one_of_keys P [] i e h at = absurd (cc)
one_of_keys P (x ∷ xs) zero e h at = let same : x ≡ e = cc in let Q : Entry → Type 0 = λ y. P y.0 in subst Q same h.0
one_of_keys P (x ∷ xs) (suc i) e h at = one_of_keys P xs i e h.1 at

sorted_at : (es : List Entry) (i j : ℕ) (d e : Entry) → IsStrictlySortedBy place_cmp (keys_of es) → i < j → slice_get es i ≡ Some d → slice_get es j ≡ Some e
    → place_cmp d.0 e.0 ≡ Less
unfolding IsStrictlySortedBy
sorted_at [] i j d e h lt at_i at_j = absurd (cc)
sorted_at (x ∷ xs) i zero d e h lt at_i at_j = absurd (omega arith)
sorted_at (x ∷ xs) zero (suc j) d e h lt at_i at_j =
    let same : x ≡ d = cc in
    let L : Entry → Type 0 = λ y. place_cmp y.0 e.0 ≡ Less in
    subst L same (one_of_keys (λ k. place_cmp x.0 k ≡ Less) xs j e h.0 at_j)
sorted_at (x ∷ xs) (suc i) (suc j) d e h lt at_i at_j = sorted_at xs i j d e h.1 (omega arith) at_i at_j

pub taken : (next : Option (ℕ × ℕ × Bor State)) (entries entries' : List Entry) → (next ≡ None → entries ≡ [])
    → IfSome next (λ (e : ℕ × ℕ × Bor State). entries ≡ ((e.0, e.1), e.2.now) ∷ entries') → entries ≡ to_come next entries'
taken None entries entries' none some = none refl
taken (Some e) entries entries' none some = some

-- where none was read ahead none is to come
pub ended : (next : Option (ℕ × ℕ × Bor State)) (entries : List Entry) → ((e : ℕ × ℕ × Bor State) → next ≡ Some e → ⊥) → to_come next entries ≡ []
ended None entries none = refl
ended (Some e) entries none = absurd (none e refl)

-- the entry that comes after one of the family is one of it too
pub read_behind : (v : Contents) (before : List Entry) (x : Entry) (others others' : List Entry) (next : Option (ℕ × ℕ × Bor State)) → v.states ≡ before ++ x ∷ others
    → others ≡ to_come next others' → IsFoundAll v → IsEntry v next
read_behind v before x others others' None split rest all = tt
read_behind v before x others others' (Some e) split rest all =
    let y : Entry = ((e.0, e.1), e.2.now) in
    let whole : v.states ≡ before ++ x ∷ y ∷ others' = split ∙ ap (λ l. before ++ x ∷ l) rest in
    entry_found v (before ++ x ∷ []) others' y (whole ∙ sym (append_assoc before (x ∷ []) (y ∷ others'))) all

-- how far the walk may go before it comes to a listed state
abbrev pub left_from : Option ℕ → ℕ
left_from None = 0
left_from (Some o) = 4294967296 - o

-- a step of the walk leaves less of it
pub way_shorter : (n n' : ℕ) (old new : Option ℕ) (offset : ℕ) → (n' < n) ⊎ ((n' ≡ n) × (old ≡ Some offset)) → ((o : ℕ) → new ≡ Some o → offset < o) → offset < 2 ^ 32
    → n' * 4294967297 + left_from new < n * 4294967297 + left_from old
way_shorter n n' old None offset how ahead small = elim how [
  | inl lt ↦ omega arith
  | inr (same, is) ↦ let left : left_from old ≡ 4294967296 - offset = ap left_from is in omega arith
]
way_shorter n n' old (Some o) offset how ahead small = elim how [
  | inl lt ↦ omega arith
  | inr (same, is) ↦
      let left : left_from old ≡ 4294967296 - offset = ap left_from is in
      let lt = ahead o refl in omega arith
]

-- What is read, and what is to come.

module _ (v : Contents) (ascends : IsStrictlySortedBy place_cmp (keys_of v.states)) where
  -- the first that is to come comes before the others
  coming_from_first : (x : Entry) (rest : List Entry) (done : List Entry) → v.states ≡ done ++ x ∷ rest → (i : ℕ) (e : Entry) → length done ≤ i → slice_get v.states i ≡ Some e
      → ((i ≡ length done) × (e ≡ x)) ⊎ (IsLess x.0 e.0)
  coming_from_first x rest done split i e le at =
      let at_x : slice_get v.states (length done) ≡ Some x = ap (λ l. slice_get l (length done)) split ∙ seam done rest x in
      elim (cases_eq i (length done)) [
        | inl same ↦
            let both : Some e ≡ Some x = sym at ∙ ap (slice_get v.states) same ∙ at_x in
            let one : e ≡ x = cc in
            inl (same, one)
        | inr other ↦ inr (less_from_cmp x.0 e.0 (sorted_at v.states (length done) i x e ascends (omega arith) at_x at))
      ]

  nothing_past : (done : List Entry) → v.states ≡ done ++ [] → (i : ℕ) (e : Entry) → length done ≤ i → slice_get v.states i ≡ Some e → ⊥
  nothing_past done split i e le at = past done i (ap (λ l. slice_get l i) (sym (split ∙ append-nil done)) ∙ at) le
    where
      past : (es : List Entry) (i : ℕ) → slice_get es i ≡ Some e → length es ≤ i → ⊥
      past [] i at le = cc
      past (x ∷ xs) zero at le = omega arith
      past (x ∷ xs) (suc i) at le = past xs i at (omega arith)

  -- where the next entry is after a place, so is each to come
  coming_after : (next : Option (ℕ × ℕ × Bor State)) (others done : List Entry) → v.states ≡ done ++ to_come next others → (k : ℕ × ℕ) → IsComingAfter next k
      → (i : ℕ) (e : Entry) → length done ≤ i → slice_get v.states i ≡ Some e → IsLess k e.0
  coming_after None others done split k after i e le at = absurd (nothing_past done split i e le at)
  coming_after (Some x) others done split k after i e le at = elim (coming_from_first ((x.0, x.1), x.2.now) others done split i e le at) [
    | inl (same, one) ↦ let L : Entry → Type 0 = λ y. IsLess k y.0 in subst L (sym one) after
    | inr less ↦ less_trans k (x.0, x.1) e.0 after less
  ]

  -- a listed state was read, or is to come
  read_or_coming : (entries : List Entry) (reached : ℕ × ℕ) → (read : IsRead v entries reached) → (key : ℕ × ℕ) (a : State) → states_of v.states key ≡ Some a
      → (i : ℕ) × (e : Entry) × (slice_get v.states i ≡ Some e) × (e.0 ≡ key) × ((IsLess key reached × (key.1 < 2 ^ 32)) ⊎ (length read.done ≤ i))
  read_or_coming entries reached read key a at =
      let (i, e, at_i, key_is, value) = entry_of v.states key a at in
      elim (cases_lt i (length read.done)) [
        | inl lt ↦
            let B : ℕ × ℕ → Type 0 = λ k. IsLess k reached × (k.1 < 2 ^ 32) in
            (i, e, at_i, key_is, inl (subst B key_is (read.read i e lt at_i)))
        | inr ge ↦ (i, e, at_i, key_is, inr ge)
      ]

  -- where the next entry is after a place, each listed state was read or is after it
  read_or_after : (next : Option (ℕ × ℕ × Bor State)) (others : List Entry) (reached : ℕ × ℕ) → IsRead v (to_come next others) reached → (k : ℕ × ℕ) → IsComingAfter next k
      → (key : ℕ × ℕ) (a : State) → states_of v.states key ≡ Some a → IsLess key reached ⊎ IsLess k key
  read_or_after next others reached read k after key a at =
      let (i, e, at_i, key_is, how) = read_or_coming (to_come next others) reached read key a at in
      elim how [
        | inl (less, small) ↦ inl less
        | inr le ↦ inr (subst (IsLess k) key_is (coming_after next others read.done read.split k after i e le at_i))
      ]

  -- where the next entry is after an offset just after the point, nothing is listed there
  pub unlisted_after : (next : Option (ℕ × ℕ × Bor State)) (others : List Entry) (c o after : ℕ) → IsRead v (to_come next others) (c, o + 1) → o < after → IsUnlisted v next c after
  unlisted_after next others c o after read lt coming = elim (some_or_none (states_of v.states (c, after))) [
    | inl (a, at) ↦ elim (read_or_after next others (c, o + 1) read (c, after) coming (c, after) a at) [
      | inl less ↦ absurd (elim less [ inl lt' ↦ omega arith | inr (same, lt') ↦ omega arith ])
      | inr less ↦ absurd (less_self (c, after) less)
    ]
    | inr none ↦ none
  ]

  -- the states of the contexts before are at offsets of 32 bits
  pub told_at : (entries : List Entry) (c n : ℕ) → IsRead v entries (c, n) → FitOffsetsBefore v c
  told_at entries c n read d o a less at =
      let (i, e, at_i, key_is, how) = read_or_coming entries (c, n) read (d, o) a at in
      elim how [
        | inl (less', small) ↦ small
        | inr le ↦ absurd (read.coming i e le at_i (subst (λ k. IsLess k (c, n)) (sym key_is) (inl less)))
      ]

  -- the next entry is read
  pub read_next : (x : Entry) (rest : List Entry) (reached : ℕ × ℕ) → IsRead v (x ∷ rest) reached → x.0.1 < 2 ^ 32 → IsRead v rest (x.0.0, x.0.1 + 1)
  read_next x rest reached read small =
      let long = length-append read.done (x ∷ []) in
      let at_x : slice_get v.states (length read.done) ≡ Some x = ap (λ l. slice_get l (length read.done)) read.split ∙ seam read.done rest x in
      let past : IsLess x.0 reached → ⊥ = read.coming (length read.done) x (omega arith) at_x in
      record {
        done = read.done ++ x ∷ [];
        split = read.split ∙ sym (append_assoc read.done (x ∷ []) rest);
        read = λ i e lt at. elim (cases_lt i (length read.done)) [
          | inl less ↦
              let (before, small') = read.read i e less at in
              (less_on e.0 x.0.0 x.0.1 (less_past e.0 x.0 reached before past), small')
          | inr ge ↦ elim (coming_from_first x rest read.done read.split i e ge at) [
            | inl (same, one) ↦
                let R : Entry → Type 0 = λ y. IsLess y.0 (x.0.0, x.0.1 + 1) × (y.0.1 < 2 ^ 32) in
                subst R (sym one) (here_on x.0.0 x.0.1, small)
            | inr less ↦ absurd (
                let i_is : i ≡ length read.done = omega arith in
                let both : Some e ≡ Some x = sym at ∙ ap (slice_get v.states) i_is ∙ at_x in
                let one : e ≡ x = cc in
                less_self x.0 (subst (λ (y : Entry). IsLess x.0 y.0) one less))
          ]
        ];
        coming = λ i e le at less. elim (coming_from_first x rest read.done read.split i e (omega arith) at) [
          | inl (same, one) ↦ omega arith
          | inr more ↦ not_next x.0 e.0 more less
        ];
      }

  -- what is carried to a place before the next entry leaves all to come
  pub read_carried : (next : Option (ℕ × ℕ × Bor State)) (others : List Entry) (reached : ℕ × ℕ) (c o : ℕ) → IsRead v (to_come next others) reached → (IsLess (c, o) reached → ⊥)
      → IsComingAfter next (c, o) → IsRead v (to_come next others) (c, o + 1)
  read_carried next others reached c o read past after = record {
    done = read.done;
    split = read.split;
    read = λ i e lt at.
        let (before, small) = read.read i e lt at in
        (less_on e.0 c o (less_past e.0 (c, o) reached before past), small);
    coming = λ i e le at less. not_next (c, o) e.0 (coming_after next others read.done read.split (c, o) after i e le at) less;
  }

-- Families with one more state.

abbrev same_place : Place → Place → Bool
same_place p q = same_frames p.0 q.0 && (p.1 == q.1)

same_place-decides : (p q : Place) → Decides (same_place p q) (p ≡ q)
same_place-decides p q =
    let both = Decides-and (same_frames p.0 q.0) (p.1 == q.1) (same_frames-decides p.0 q.0) (Decides-eqb p.1 q.1) in (
      (λ t. let h = both.0 t in λ i. (h.0 i, h.1 i)),
      (λ e. both.1 (ap (λ (x : Place). x.0) e, ap (λ (x : Place). x.1) e)),
    )

same_or_apart : (p q : Place) → (p ≡ q) ⊎ (p ≢ q)
same_or_apart p q = elim (cases_Bool (same_place p q)) [
  | inl t ↦ inl ((same_place-decides p q).0 t)
  | inr f ↦ inr (λ e. let no_such : true ≡ false = sym ((same_place-decides p q).1 e) ∙ f in cc)
]

abbrev with_state : (Place → Option State) → Place → State → Place → Option State
with_state filled q t p = cond (same_place p q) (Some t) (filled p)

with_here : (filled : Place → Option State) (q : Place) (t : State) → with_state filled q t q ≡ Some t
with_here filled q t = ap (λ b. cond b (Some t) (filled q)) ((same_place-decides q q).1 refl)

with_other : (filled : Place → Option State) (q : Place) (t : State) (p : Place) → p ≢ q → with_state filled q t p ≡ filled p
with_other filled q t p apart = elim (cases_Bool (same_place p q)) [
  | inl same ↦ absurd (apart ((same_place-decides p q).0 same))
  | inr f ↦ ap (λ b. cond b (Some t) (filled p)) f
]

pub line_of : (s : Setting) (listing : Listing) (p q : Place) → MayLeaveOut listing s p q → Precedes s p q
line_of s Whole p q may = absurd may
line_of s Sparse p q may = may

-- where a state may be left out just after an instruction

pub left_out_by : (s : Setting) (listing : Listing) (p : Place) → listing ≡ Sparse → (after : Option ℕ) → ((q : Place) → IsAfter p.0 after q ↔ Precedes s p q)
    → (q : Place) → IsAfter p.0 after q ↔ MayLeaveOut listing s p q
left_out_by s listing p is after h = let A : Listing → Type 0 = λ l. (q : Place) → IsAfter p.0 after q ↔ MayLeaveOut l s p q in subst A (sym is) h

pub nothing_added : (s : Setting) (p : Place) (end : ℕ) → EndsAt s p end → is_main_end s p.0 end ≡ true → (q : Place) → IsAfter p.0 None q ↔ Precedes s p q
nothing_added s p end ends last q = (
  (λ h. let no_such = h.1 in absurd (cc)),
  (λ h.
      let offset : q.1 ≡ end = ends_once s p q.1 end h.ends ends in
      let here : is_main_end s q.0 q.1 ≡ is_main_end s p.0 end = λ i. is_main_end s (h.calls i) (offset i) in
      let no_such : true ≡ false = sym last ∙ sym here ∙ h.inside in absurd (cc)),
)

pub added_there : (s : Setting) (p : Place) (end : ℕ) → EndsAt s p end → is_main_end s p.0 end ≡ false → (q : Place) → IsAfter p.0 (Some end) q ↔ Precedes s p q
added_there s p end ends goes_on q = (
  (λ h.
      let both : Some end ≡ Some q.1 = h.1 in
      let offset : end ≡ q.1 = cc in
      record {
        calls = h.0;
        ends = subst (EndsAt s p) offset ends;
        inside = (λ i. is_main_end s (h.0 i) (sym offset i)) ∙ goes_on;
      }),
  (λ h. (h.calls, ap Some (ends_once s p end q.1 ends h.ends))),
)

-- The walk.

module _ (s : Setting) (listing : Listing) (v : Contents) (family : IsFamily v) where
  place_at : (p : Place) (c o : ℕ) → HasContext v.contexts p.0 → ◌≡◌ {A = ℕ × ℕ} (point_key_of v p) (c, o) → p ≡ place_of v c o
  place_at p c o has e =
      let number : number_of v.contexts p.0 ≡ c = ap (λ (k : ℕ × ℕ). k.0) e in
      let offset : p.1 ≡ o = ap (λ (k : ℕ × ℕ). k.1) e in
      let frames : p.0 ≡ frames_at v.contexts c = sym (at-number_of v.contexts p.0 has) ∙ ap (frames_at v.contexts) number in
      λ i. (frames i, offset i)

  key_at : (c o : ℕ) → c < length v.contexts → ◌≡◌ {A = ℕ × ℕ} (point_key_of v (place_of v c o)) (c, o)
  key_at c o lt = λ i. (number_at v c family lt i, o)

  listed_key : (p : Place) (a : State) → family_of v p ≡ Some a → states_of v.states (point_key_of v p) ≡ Some a
  listed_key p a at = at

  -- at the start nothing is walked
  pub nothing_walked : (walk : Cursor) (others : List Entry) → v.states ≡ to_come walk.next others → walk.carried ≡ None → IsOnWay s listing v walk others
  nothing_walked walk others all none = record {
    filled = family_of v;
    reached = (0, 0);
    walked = record {
      filled_by = record {
        keeps = λ p a at. at;
        added = λ q t at none'. absurd (cc);
        sound = λ p a less at. absurd (elim less [ inl lt ↦ omega arith | inr (same, lt) ↦ omega arith ]);
        given = λ p a q t less at gives none'. absurd (elim less [ inl lt ↦ omega arith | inr (same, lt) ↦ omega arith ]);
      };
      held = λ p a at. family.held (number_of v.contexts p.0) p.1 a at;
    };
    read = record {
      done = [];
      split = all;
      read = λ i e lt at. absurd (omega arith);
      coming = λ i e le at less. elim less [ inl lt ↦ omega arith | inr (same, lt) ↦ omega arith ];
    };
    carries = λ o e. absurd (cc);
    carried_all = λ p a at none' past. absurd (cc);
  }

  module _ (filled : Place → Option State) (reached k : ℕ × ℕ) (walked : IsWalkedTo s listing v filled reached)
      (back : (p : Place) (a : State) → filled p ≡ Some a → IsLess (point_key_of v p) k → IsLess (point_key_of v p) reached)
      (on : (p : Place) → IsLess (point_key_of v p) reached → IsLess (point_key_of v p) k) where
    -- the same walk, said of another bound
    walked_on : IsWalkedTo s listing v filled k
    walked_on = record {
      filled_by = record {
        keeps = walked.filled_by.keeps;
        added = λ q t at none.
            let add = walked.filled_by.added q t at none in
            record { before = add.before; state = add.state; walked = on add.before add.walked; there = add.there; just_before = add.just_before; gives = add.gives };
        sound = λ p a less at. walked.filled_by.sound p a (back p a at less) at;
        given = λ p a q t less at gives none. walked.filled_by.given p a q t (back p a at less) at gives none;
      };
      held = walked.held;
    }

  module _ (ascends : IsStrictlySortedBy place_cmp (keys_of v.states)) (walk : Cursor) (others : List Entry) (way : IsOnWay s listing v walk others) where
    -- The walk goes on where a state was carried.
    module _ (o : ℕ) (there : walk.context < length v.contexts) (carried : walk.carried ≡ Some o) (after : IsComingAfter walk.next (walk.context, o)) where
      at_carried_back : (p : Place) (a : State) → way.filled p ≡ Some a → IsLess (point_key_of v p) (walk.context, o) → IsLess (point_key_of v p) way.reached
      at_carried_back p a at less = elim (some_or_none (family_of v p)) [
        | inl (u, listed) ↦ elim (read_or_after v ascends walk.next others way.reached way.read (walk.context, o) after (point_key_of v p) u listed) [
          | inl less' ↦ less'
          | inr more ↦ absurd (less_self (point_key_of v p) (less_trans (point_key_of v p) (walk.context, o) (point_key_of v p) less more))
        ]
        | inr none ↦ elim (less_or_not (point_key_of v p) way.reached) [
          | inl less' ↦ less'
          | inr past ↦ absurd (at_it (way.carried_all p a at none past))
        ]
      ]
        where
          at_it : (o' : ℕ) × (walk.carried ≡ Some o') × (p ≡ place_of v walk.context o') → ⊥
          at_it (o', is, same) =
              let both : Some o' ≡ Some o = sym is ∙ carried in
              let offset : o' ≡ o = cc in
              let key : ◌≡◌ {A = ℕ × ℕ} (point_key_of v p) (walk.context, o) = ap (point_key_of v) same ∙ key_at walk.context o' there ∙ ap (λ x. (walk.context, x)) offset in
              less_self (walk.context, o) (subst (λ x. IsLess x (walk.context, o)) key less)

      pub at_carried : IsAtPoint s listing v walk others o
      at_carried =
          let (here, none, past) = way.carries o carried in
          record {
            filled = way.filled;
            walked = walked_on way.filled way.reached (walk.context, o) way.walked at_carried_back (λ p less. less_past (point_key_of v p) (walk.context, o) way.reached less past);
            here = here;
            read = read_carried v ascends walk.next others way.reached walk.context o way.read past after;
            nothing_after = λ p a at none' far. absurd (go p a at far (way.carried_all p a at none' (λ less. far (less_on (point_key_of v p) walk.context o (less_past (point_key_of v p) (walk.context, o) way.reached less past)))));
          }
        where
          go : (p : Place) (a : State) → way.filled p ≡ Some a → (IsLess (point_key_of v p) (walk.context, o + 1) → ⊥) → (o' : ℕ) × (walk.carried ≡ Some o') × (p ≡ place_of v walk.context o') → ⊥
          go p a at far (o', is, same) =
              let both : Some o' ≡ Some o = sym is ∙ carried in
              let offset : o' ≡ o = cc in
              let key : ◌≡◌ {A = ℕ × ℕ} (point_key_of v p) (walk.context, o) = ap (point_key_of v) same ∙ key_at walk.context o' there ∙ ap (λ x. (walk.context, x)) offset in
              far (subst (λ x. IsLess x (walk.context, o + 1)) (sym key) (here_on walk.context o))

    -- The walk goes on to the next entry.
    module _ (x : ℕ × ℕ × Bor State) (others' : List Entry) (next : walk.next ≡ Some x) (found : IsFoundAll v) (there : walk.context < length v.contexts) (small : x.1 < 2 ^ 32)
        (not_carried : (o : ℕ) → walk.carried ≡ Some o → IsComingAfter walk.next (walk.context, o) → ⊥) where
      abbrev entry : Entry
      entry = ((x.0, x.1), x.2.now)

      read_here : IsRead v (entry ∷ others) way.reached
      read_here = subst (λ n. IsRead v (to_come n others) way.reached) next way.read

      listed_here : states_of v.states (x.0, x.1) ≡ Some x.2.now
      listed_here = entry_found v read_here.done others entry read_here.split found

      within : x.0 < length v.contexts
      within = family.held x.0 x.1 x.2.now listed_here

      family_here : family_of v (place_of v x.0 x.1) ≡ Some x.2.now
      family_here = sym (state_there v (place_of v x.0 x.1) x.0 x.1 family within refl refl) ∙ listed_here

      not_before : IsLess (x.0, x.1) way.reached → ⊥
      not_before = read_here.coming (length read_here.done) entry (omega arith) (ap (λ l. slice_get l (length read_here.done)) read_here.split ∙ seam read_here.done others entry)

      -- what is carried isn't before the entry
      carried_past : (o : ℕ) → walk.carried ≡ Some o → IsLess (walk.context, o) (x.0, x.1) → ⊥
      carried_past o carried less = not_carried o carried (subst (λ n. IsComingAfter n (walk.context, o)) (sym next) less)

      at_listed_back : (p : Place) (a : State) → way.filled p ≡ Some a → IsLess (point_key_of v p) (x.0, x.1) → IsLess (point_key_of v p) way.reached
      at_listed_back p a at less = elim (some_or_none (family_of v p)) [
        | inl (u, listed) ↦
            let (i, e, at_i, key_is, how) = read_or_coming v ascends (entry ∷ others) way.reached read_here (point_key_of v p) u listed in
            elim how [
              | inl (less', small') ↦ less'
              | inr le ↦ absurd (elim (coming_from_first v ascends entry others read_here.done read_here.split i e le at_i) [
                | inl (same, one) ↦
                    let key : ◌≡◌ {A = ℕ × ℕ} (point_key_of v p) (x.0, x.1) = sym key_is ∙ ap (λ (y : Entry). y.0) one in
                    less_self (x.0, x.1) (subst (λ k. IsLess k (x.0, x.1)) key less)
                | inr more ↦
                    let more' : IsLess (x.0, x.1) (point_key_of v p) = subst (λ k. IsLess (x.0, x.1) k) key_is more in
                    less_self (point_key_of v p) (less_trans (point_key_of v p) (x.0, x.1) (point_key_of v p) less more')
              ])
            ]
        | inr none ↦ elim (less_or_not (point_key_of v p) way.reached) [
          | inl less' ↦ less'
          | inr past ↦ absurd (at_it (way.carried_all p a at none past))
        ]
      ]
        where
          at_it : (o : ℕ) × (walk.carried ≡ Some o) × (p ≡ place_of v walk.context o) → ⊥
          at_it (o, is, same) =
              let key : ◌≡◌ {A = ℕ × ℕ} (point_key_of v p) (walk.context, o) = ap (point_key_of v) same ∙ key_at walk.context o there in
              carried_past o is (subst (λ k. IsLess k (x.0, x.1)) key less)

      -- what was carried past the entry has it between, so that it is refused
      lost : (p : Place) (a : State) → way.filled p ≡ Some a → family_of v p ≡ None → (o : ℕ) × (walk.carried ≡ Some o) × (p ≡ place_of v walk.context o) → (b : State)
          → (r : Reason) × RefusesState s (place_of v x.0 x.1) b r
      lost p a at none (o, is, same) b =
          let add = way.walked.filled_by.added p a at none in
          let before = line_of s listing add.before p add.just_before in
          let key_p : ◌≡◌ {A = ℕ × ℕ} (point_key_of v p) (walk.context, o) = ap (point_key_of v) same ∙ key_at walk.context o there in
          let number : number_of v.contexts add.before.0 ≡ walk.context = ap (number_of v.contexts) (sym before.calls) ∙ ap (λ (k : ℕ × ℕ). k.0) key_p in
          let less : IsLess (point_key_of v add.before) (x.0, x.1) = less_past (point_key_of v add.before) (x.0, x.1) way.reached add.walked not_before in
          let offset : p.1 ≡ o = ap (λ (k : ℕ × ℕ). k.1) key_p in
          let (context_is, lt, lt') = between add.before.1 number less o is offset in
          let refused = between_refused s add.before p x.1 b before lt (omega (arith, lt')) in
          let frames : p.0 ≡ frames_at v.contexts x.0 = ap (λ (y : Place). y.0) same ∙ ap (frames_at v.contexts) (sym context_is) in
          (Target, subst (λ fs. RefusesState s (fs, x.1) b Target) frames refused)
        where
          between : (low : ℕ) → number_of v.contexts (way.walked.filled_by.added p a at none).before.0 ≡ walk.context
              → IsLess (number_of v.contexts (way.walked.filled_by.added p a at none).before.0, low) (x.0, x.1) → (o : ℕ) → walk.carried ≡ Some o → p.1 ≡ o
              → (x.0 ≡ walk.context) × (low < x.1) × (x.1 < o)
          between low number less o is offset = elim (less_or_not (walk.context, o) (x.0, x.1)) [
            | inl before ↦ absurd (carried_past o is before)
            | inr not ↦ elim less [
              | inl lt ↦ absurd (not (inl (omega arith)))
              | inr (same', lt) ↦ elim (cases_lt o x.1) [
                | inl lt' ↦ absurd (not (inr (omega arith, lt')))
                | inr ge ↦ elim (cases_eq x.1 o) [
                  | inl one ↦ absurd (listed_there (omega arith) one)
                  | inr other ↦ (omega arith, lt, omega arith)
                ]
              ]
            ]
          ]
            where
              -- a listed state isn't carried
              listed_there : x.0 ≡ walk.context → x.1 ≡ o → ⊥
              listed_there c_is o_is =
                  let (here, none', past) = way.carries o is in
                  let there' : family_of v (place_of v walk.context o) ≡ Some x.2.now =
                  ap (λ (k : ℕ × ℕ). family_of v (place_of v k.0 k.1)) (λ i. (sym c_is i, sym o_is i)) ∙ family_here in
                  cc

      pub at_listed : (new : Cursor) → new.context ≡ x.0 → new.made ≡ x.2.now → others ≡ to_come new.next others' → IsAtPoint s listing v new others' x.1
      at_listed new context made rest =
          record {
            filled = way.filled;
            walked = subst (λ c. IsWalkedTo s listing v way.filled (c, x.1)) (sym context)
                (walked_on way.filled way.reached (x.0, x.1) way.walked at_listed_back (λ p less. less_past (point_key_of v p) (x.0, x.1) way.reached less not_before));
            here = ap (λ c. way.filled (place_of v c x.1)) context ∙ way.walked.filled_by.keeps (place_of v x.0 x.1) x.2.now family_here ∙ ap Some (sym made);
            read = subst (λ (y : ℕ × List Entry). IsRead v y.1 (y.0, x.1 + 1)) (λ i. (sym context i, rest i)) (read_next v ascends entry others way.reached read_here small);
            nothing_after = λ p a at none far b.
                let far' : IsLess (point_key_of v p) (x.0, x.1 + 1) → ⊥ = subst (λ c. IsLess (point_key_of v p) (c, x.1 + 1) → ⊥) context far in
                let past : IsLess (point_key_of v p) way.reached → ⊥ = λ less. far' (less_on (point_key_of v p) x.0 x.1 (less_past (point_key_of v p) (x.0, x.1) way.reached less not_before)) in
                subst (λ c. (r : Reason) × RefusesState s (place_of v c x.1) b r) (sym context) (lost p a at none (way.carried_all p a at none past) b);
          }

    -- after the last point all are walked
    pub walked_through : walk.next ≡ None → walk.carried ≡ None → IsWalkedThrough s listing v
    walked_through next none = record {
      filled = way.filled;
      filled_by = record {
        keeps = way.walked.filled_by.keeps;
        added = λ q t at none'.
            let add = way.walked.filled_by.added q t at none' in
            record { before = add.before; state = add.state; walked = tt; there = add.there; just_before = add.just_before; gives = add.gives };
        sound = λ p a _ at. way.walked.filled_by.sound p a (reached p a at) at;
        given = λ p a q t _ at gives none'. way.walked.filled_by.given p a q t (reached p a at) at gives none';
      };
      held = way.walked.held;
    }
      where
        reached : (p : Place) (a : State) → way.filled p ≡ Some a → IsLess (point_key_of v p) way.reached
        reached p a at = elim (some_or_none (family_of v p)) [
          | inl (u, listed) ↦
              let (i, e, at_i, key_is, how) = read_or_coming v ascends (to_come walk.next others) way.reached way.read (point_key_of v p) u listed in
              elim how [
                | inl (less, small) ↦ less
                | inr le ↦ absurd (nothing_past v ascends way.read.done (way.read.split ∙ ap (λ n. way.read.done ++ to_come n others) next) i e le at_i)
              ]
          | inr none' ↦ elim (less_or_not (point_key_of v p) way.reached) [
            | inl less ↦ less
            | inr past ↦ let (o, is, same) = way.carried_all p a at none' past in absurd (cc)
          ]
        ]

  module _ (walk : Cursor) (others : List Entry) (offset : ℕ) (point : IsAtPoint s listing v walk others offset) (there : walk.context < length v.contexts) where
    abbrev pub here_is : Place
    here_is = place_of v walk.context offset

    -- what is broken there is broken first
    pub first_on_way : (fault : Refusal) → Names (BreaksAt s (family_of v) (MayLeaveOut listing s here_is) here_is walk.made) fault
        → Names (IsFirstBreakOnTheWay s (MayLeaveOut listing s) v) fault
    first_on_way (Refused spot o failed) (q, e, f, breaks) = (
      q,
      e,
      f,
      record {
        place = here_is;
        state = walk.made;
        filled = point.filled;
        filled_by = subst (λ (k : ℕ × ℕ). IsFilledBy s (MayLeaveOut listing s) (family_of v) (λ p. IsLess (point_key_of v p) k) point.filled) (sym (key_at walk.context offset there)) point.walked.filled_by;
        here = point.here;
        breaks = breaks;
      },
    )
    first_on_way (Exhausted by) h = tt

    module _ (new : Cursor) (context : new.context ≡ walk.context) (next : new.next ≡ walk.next)
        (passed : IsPassed s (family_of v) (MayLeaveOut listing s here_is) here_is walk.made new.carried new.made) where
      -- a walked place is the point or came before
      walked_or_here : (p : Place) (a : State) → point.filled p ≡ Some a → IsLess (point_key_of v p) (walk.context, offset + 1) → IsLess (point_key_of v p) (walk.context, offset) ⊎ ((p ≡ here_is) × (a ≡ walk.made))
      walked_or_here p a at less = elim (less_next (point_key_of v p) walk.context offset less) [
        | inl less' ↦ inl less'
        | inr same ↦
            let place = place_at p walk.context offset (point.walked.held p a at) same in
            let at' : point.filled here_is ≡ Some a = ap point.filled (sym place) ∙ at in
            let here = point.here in
            let state : a ≡ walk.made = cc in
            inr (place, state)
      ]

      on_sound : (p : Place) (a : State) → IsLess (point_key_of v p) (walk.context, offset + 1) → point.filled p ≡ Some a → IsSoundAt s (family_of v) (MayLeaveOut listing s p) p a
      on_sound p a less at = elim (walked_or_here p a at less) [
        | inl less' ↦ point.walked.filled_by.sound p a less' at
        | inr (place, state) ↦
            let S : Place × State → Type 0 = λ x. IsSoundAt s (family_of v) (MayLeaveOut listing s x.0) x.0 x.1 in
            subst S (λ i. (sym place i, sym state i)) passed.sound
      ]

      gives_here : (p : Place) (a : State) (q : Place) (t : State) → p ≡ here_is → a ≡ walk.made → GivesState s p a q t → GivesState s here_is walk.made q t
      gives_here p a q t place state gives = let G : Place × State → Type 0 = λ x. GivesState s x.0 x.1 q t in subst G (λ i. (place i, state i)) gives

      -- nothing was added after the point
      added_before : (p : Place) (a : State) → point.filled p ≡ Some a → family_of v p ≡ None → (IsLess (point_key_of v p) (walk.context, offset + 1) → ⊥) → ⊥
      added_before p a at none far = let (r, refused) = point.nothing_after p a at none far walk.made in passed.sound.safe r refused

      read_on : IsRead v (to_come new.next others) (walk.context, offset + 1)
      read_on = subst (λ n. IsRead v (to_come n others) (walk.context, offset + 1)) (sym next) point.read

      pub on_without : new.carried ≡ None → IsOnWay s listing v new others
      on_without none = record {
        filled = point.filled;
        reached = (walk.context, offset + 1);
        walked = record {
          filled_by = record {
            keeps = point.walked.filled_by.keeps;
            added = λ q t at none'.
                let add = point.walked.filled_by.added q t at none' in
                record {
                  before = add.before;
                  state = add.state;
                  walked = less_on (point_key_of v add.before) walk.context offset add.walked;
                  there = add.there;
                  just_before = add.just_before;
                  gives = add.gives;
                };
            sound = on_sound;
            given = λ p a q t less at gives none'. elim (walked_or_here p a at less) [
              | inl less' ↦ point.walked.filled_by.given p a q t less' at gives none'
              | inr (place, state) ↦ let (u, listed, below) = passed.closed none q t (gives_here p a q t place state gives) in absurd (cc)
            ];
          };
          held = point.walked.held;
        };
        read = read_on;
        carries = λ o e. absurd (cc);
        carried_all = λ p a at none' far. absurd (added_before p a at none' far);
      }

      module _ (o : ℕ) (carried : new.carried ≡ Some o) where
        c : IsCarried s (family_of v) (MayLeaveOut listing s here_is) here_is walk.made o new.made
        c = passed.added o carried

        abbrev to : Place
        to = place_of v walk.context o

        ahead : offset < o
        ahead = (line_of s listing here_is to c.may).ends.forward

        key_to : ◌≡◌ {A = ℕ × ℕ} (point_key_of v to) (walk.context, o)
        key_to = key_at walk.context o there

        far_to : (p : Place) → p ≡ to → IsLess (point_key_of v p) (walk.context, offset + 1) → ⊥
        far_to p same less =
            let less' : IsLess (walk.context, o) (walk.context, offset + 1) = subst (λ k. IsLess k (walk.context, offset + 1)) (ap (point_key_of v) same ∙ key_to) less in
            let lt = ahead in
            elim less' [ inl lt' ↦ omega arith | inr (same', lt') ↦ omega arith ]

        not_there : (a : State) → point.filled to ≡ Some a → ⊥
        not_there a at = added_before to a at c.none (far_to to refl)

        apart_from : (p : Place) (a : State) → point.filled p ≡ Some a → p ≢ to
        apart_from p a at same = not_there a (ap point.filled (sym same) ∙ at)

        abbrev filled' : Place → Option State
        filled' = with_state point.filled to new.made

        kept : (p : Place) (a : State) → point.filled p ≡ Some a → filled' p ≡ Some a
        kept p a at = with_other point.filled to new.made p (apart_from p a at) ∙ at

        back : (p : Place) (a : State) → p ≢ to → filled' p ≡ Some a → point.filled p ≡ Some a
        back p a apart at = sym (with_other point.filled to new.made p apart) ∙ at

        walked_back : (p : Place) (a : State) → IsLess (point_key_of v p) (walk.context, offset + 1) → filled' p ≡ Some a → point.filled p ≡ Some a
        walked_back p a less at = back p a (λ same. far_to p same less) at

        -- what the point gives at a place without a state is what is carried
        gives_carried : (q : Place) (t : State) → GivesState s here_is walk.made q t → family_of v q ≡ None → filled' q ≡ Some t
        gives_carried q t gives none = elim (passed.sound.closed q t gives) [
          | inl (u, listed, below) ↦ absurd (cc)
          | inr (none', may) ↦
              let same : q ≡ to = precedes_place s here_is q to (line_of s listing here_is q may) (line_of s listing here_is to c.may) in
              let G : Place → Type 0 = λ x. GivesState s here_is walk.made x t in
              let state : t ≡ new.made = given_one s here_is walk.made to t new.made (subst G same gives) c.gives in
              ap filled' same ∙ with_here point.filled to new.made ∙ ap Some (sym state)
        ]

        pub on_with : IsOnWay s listing v new others
        on_with = record {
          filled = filled';
          reached = (walk.context, offset + 1);
          walked = record {
            filled_by = record {
              keeps = λ p a at. kept p a (point.walked.filled_by.keeps p a at);
              added = λ q t at none. elim (same_or_apart q to) [
                | inl same ↦ new_added q t same at
                | inr apart ↦ old_added q t (point.walked.filled_by.added q t (back q t apart at) none)
              ];
              sound = λ p a less at. on_sound p a less (walked_back p a less at);
              given = λ p a q t less at gives none. elim (walked_or_here p a (walked_back p a less at) less) [
                | inl less' ↦ kept q t (point.walked.filled_by.given p a q t less' (walked_back p a less at) gives none)
                | inr (place, state) ↦ gives_carried q t (gives_here p a q t place state gives) none
              ];
            };
            held = λ p a at. elim (same_or_apart p to) [
              | inl same ↦ subst (λ (x : Place). HasContext v.contexts x.0) (sym same) (point.walked.held here_is walk.made point.here)
              | inr apart ↦ point.walked.held p a (back p a apart at)
            ];
          };
          read = read_on;
          carries = λ o' is.
              let both : Some o' ≡ Some o = sym is ∙ carried in
              let offset_is : o' ≡ o = cc in
              let place : place_of v new.context o' ≡ to = λ i. (frames_at v.contexts (context i), offset_is i) in
              let key : ◌≡◌ {A = ℕ × ℕ} (new.context, o') (walk.context, o) = λ i. (context i, offset_is i) in (
                ap filled' place ∙ with_here point.filled to new.made,
                ap (family_of v) place ∙ c.none,
                λ less. far_to to refl (subst (λ k. IsLess k (walk.context, offset + 1)) (key ∙ sym key_to) less),
              );
          carried_all = λ p a at none far. elim (same_or_apart p to) [
            | inl same ↦ (o, carried, same ∙ ap (λ x. place_of v x o) (sym context))
            | inr apart ↦ absurd (added_before p a (back p a apart at) none far)
          ];
        }
          where
            new_added : (q : Place) (t : State) → q ≡ to → filled' q ≡ Some t → WasAdded s (MayLeaveOut listing s) (λ p. IsLess (point_key_of v p) (walk.context, offset + 1)) filled' q t
            new_added q t same at =
                let at' : Some new.made ≡ Some t = sym (with_here point.filled to new.made) ∙ ap filled' (sym same) ∙ at in
                let state : new.made ≡ t = cc in
                let here : filled' here_is ≡ Some walk.made = kept here_is walk.made point.here in
                let less : IsLess (point_key_of v here_is) (walk.context, offset + 1) = subst (λ k. IsLess k (walk.context, offset + 1)) (sym (key_at walk.context offset there)) (here_on walk.context offset) in
                let W : Place × State → Type 0 = λ x. WasAdded s (MayLeaveOut listing s) (λ p. IsLess (point_key_of v p) (walk.context, offset + 1)) filled' x.0 x.1 in
                subst W (λ i. (sym same i, state i)) (record { before = here_is; state = walk.made; walked = less; there = here; just_before = c.may; gives = c.gives })

            old_added : (q : Place) (t : State) → WasAdded s (MayLeaveOut listing s) (λ p. IsLess (point_key_of v p) (walk.context, offset)) point.filled q t
                → WasAdded s (MayLeaveOut listing s) (λ p. IsLess (point_key_of v p) (walk.context, offset + 1)) filled' q t
            old_added q t add = record {
              before = add.before;
              state = add.state;
              walked = less_on (point_key_of v add.before) walk.context offset add.walked;
              there = kept add.before add.state add.there;
              just_before = add.just_before;
              gives = add.gives;
            }

      -- with what is carried or without
      pub on_way : IsOnWay s listing v new others
      on_way = elim (some_or_none new.carried) [ inl (o, carried) ↦ on_with o carried | inr none ↦ on_without none ]
