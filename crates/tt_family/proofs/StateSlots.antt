-- What becomes of states in slots when a slot is written or a place gets one.
use Rattle.std.specs.Prelude.{◌≡◌, ◌≢◌, ◌↔◌, ◌⊎◌, ℕ, ◌+◌, ◌≤◌, ◌<◌, Bool, true, false, IsFalse, cond, Option, Some, None, List, [], ◌∷◌, length, slice_index_or, slice_set, slice_get, suc}
use Rattle.std.specs.declared.cmp.Ordering.{Ordering}
use Rattle.std.specs.declared.cmp.Ordering.TheVariants.{Less, Equal, Greater}
use Rattle.std.specs.Ordering.{match_ordering}
use Rattle.std.specs.Option.{option_map}
use Rattle.std.specs.List.{All}
use Rattle.std.specs.List.Sorted.{IsStrictlySortedBy}
use Rattle.std.specs.Map.{keys_of, set_value}
use Rattle.std.specs.BTreeMap.{is_at, insert_entry}
use Rattle.std.proofs.Common.{refl, sym, ◌∙◌, ap, subst, arith, inl, inr}
use Rattle.std.proofs.lemmas.Bool.{cases_lt, cases_Bool}
use Rattle.std.proofs.lemmas.Cmp.{eq_by_cmp_equiv, tied_itself}
use Rattle.std.proofs.lemmas.List.{get_or-set_same, get_or-set_other}
use Rattle.std.proofs.lemmas.Map.Entries.{lookup_from_place, place_from_lookup}
use Rattle.std.proofs.lemmas.Map.Keys.{IsDistinct-from_sorted, Less-from_sorted}
use Rattle.std.proofs.lemmas.Option.{slice_get-map, slice_get_read, slice_get_within, slice_get-get_or, get_or_from_slice_get}
use Rattle.tt_abs.specs.Orders.{IsLeastAbove}
use Rattle.tt_abs.specs.declared.state.State.{State}
use Rattle.tt_abs.specs.States.{state_order, start_of}
use Rattle.tt_family.specs.Places.{place_cmp, states_of, PutGives, PutsAt}
use Rattle.tt_family.specs.Puts.{ReweighsStates}
use Rattle.tt_family.specs.Representation.StateSlots.{state_in, states_in, AreSlots, AgreesBelow, AreFirstSlots}
use Rattle.tt_family.proofs.Puts.{cases_place, places_apart}
use Rattle.tt_family.proofs.Putting.{place_total, sums_written, sums_added}
use Rattle.tt_family.proofs.PlaceEntries.{insert_ascends, insert_here, insert_elsewhere, insert_length}

abbrev Slots : Type 0
Slots = List ((ℕ × ℕ) × ℕ)

-- an entry's value is what its place has
entry_at : {X : Type 0} (es : List ((ℕ × ℕ) × X)) (i : ℕ) (e : (ℕ × ℕ) × X) → IsStrictlySortedBy place_cmp (keys_of es) → slice_get es i ≡ Some e
    → states_of es e.0 ≡ Some e.1
entry_at es i e ascends at = lookup_from_place (eq_by_cmp_equiv place_total) es i e.0 e.1 (IsDistinct-from_sorted place_cmp (keys_of es) ascends) at

keys_of-states_in : (slots : List State) (es : Slots) → keys_of (states_in slots es) ≡ keys_of es
keys_of-states_in slots [] = refl
keys_of-states_in slots (e ∷ es) = ap (λ l. e.0 ∷ l) (keys_of-states_in slots es)

pub length-states_in : (slots : List State) (es : Slots) → length (states_in slots es) ≡ length es
length-states_in slots [] = refl
length-states_in slots (e ∷ es) = let ih = length-states_in slots es in omega arith

states_of-states_in : (slots : List State) (es : Slots) (p : ℕ × ℕ) → states_of (states_in slots es) p ≡ option_map (state_in slots) (states_of es p)
states_of-states_in slots [] p = refl
states_of-states_in slots (e ∷ es) p =
    elim (is_at (place_cmp p) e.0) as (λ b. cond b (Some (state_in slots e.1)) (states_of (states_in slots es) p) ≡ option_map (state_in slots) (cond b (Some e.1) (states_of es p))) [
      | true ↦ refl
      | false ↦ states_of-states_in slots es p
    ]

-- where the slots of the places hold the same, so do the places
same_states_in : (slots slots' : List State) (es : Slots) → ((i : ℕ) (e : (ℕ × ℕ) × ℕ) → slice_get es i ≡ Some e → state_in slots' e.1 ≡ state_in slots e.1)
    → states_in slots' es ≡ states_in slots es
same_states_in slots slots' [] same = refl
same_states_in slots slots' (e ∷ es) same =
    let first : state_in slots' e.1 ≡ state_in slots e.1 = same 0 e refl in
    let rest = same_states_in slots slots' es (λ i d at. same (suc i) d at) in
    λ t. (e.0, first t) ∷ rest t

insert_states_in : (slots : List State) (es : Slots) (k : ℕ × ℕ) (n : ℕ) → states_in slots (insert_entry place_cmp es k n) ≡ insert_entry place_cmp (states_in slots es) k (state_in slots n)
insert_states_in slots [] k n = refl
insert_states_in slots (e ∷ es) k n =
    elim (place_cmp k e.0) as (λ o. states_in slots (match_ordering o ((k, n) ∷ e ∷ es) ((e.0, n) ∷ es) (e ∷ insert_entry place_cmp es k n))
    ≡ match_ordering o ((k, state_in slots n) ∷ (e.0, state_in slots e.1) ∷ states_in slots es) ((e.0, state_in slots n) ∷ states_in slots es)
    ((e.0, state_in slots e.1) ∷ insert_entry place_cmp (states_in slots es) k (state_in slots n))) [
      | Less ↦ refl
      | Equal ↦ refl
      | Greater ↦ ap (λ l. (e.0, state_in slots e.1) ∷ l) (insert_states_in slots es k n)
    ]

-- a write of a slot that one place has
set_states_in : (slots : List State) (es : Slots) (k : ℕ × ℕ) (n : ℕ) (u : State)
    → ((i j : ℕ) (d e : (ℕ × ℕ) × ℕ) → slice_get es i ≡ Some d → slice_get es j ≡ Some e → d.1 ≡ e.1 → i ≡ j)
    → states_of es k ≡ Some n → n < length slots → states_in (slice_set slots n u) es ≡ set_value (is_at (place_cmp k)) (states_in slots es) u
set_states_in slots [] k n u once at lt = absurd (cc)
set_states_in slots (e ∷ es) k n u once at lt = elim (cases_Bool (is_at (place_cmp k) e.0)) [
  | inl here ↦
      let both : Some e.1 ≡ Some n = sym (ap (λ b. cond b (Some e.1) (states_of es k)) here) ∙ at in
      let same : e.1 ≡ n = cc in
      let first : state_in (slice_set slots n u) e.1 ≡ u = ap (state_in (slice_set slots n u)) same ∙ get_or-set_same slots n u (start_of []) lt in
      let rest : states_in (slice_set slots n u) es ≡ states_in slots es =
      same_states_in slots (slice_set slots n u) es (λ i d at_i. get_or-set_other slots n d.1 u (start_of [])
      (λ f. let zero_is : 0 ≡ suc i = once 0 (suc i) e d refl at_i (same ∙ sym f) in absurd (omega arith))) in
      let head : (e.0, state_in (slice_set slots n u) e.1) ∷ states_in (slice_set slots n u) es ≡ (e.0, u) ∷ states_in slots es = λ t. (e.0, first t) ∷ rest t in
      head ∙ sym (ap (λ b. cond b ((e.0, u) ∷ states_in slots es) ((e.0, state_in slots e.1) ∷ set_value (is_at (place_cmp k)) (states_in slots es) u)) here)
  | inr apart ↦
      let after : states_of es k ≡ Some n = sym (ap (λ b. cond b (Some e.1) (states_of es k)) apart) ∙ at in
      let (i, p, at_i, _) = place_from_lookup (is_at (place_cmp k)) es n after in
      let first : state_in (slice_set slots n u) e.1 ≡ state_in slots e.1 =
      get_or-set_other slots n e.1 u (start_of []) (λ f. let zero_is : 0 ≡ suc i = once 0 (suc i) e (p, n) refl at_i f in absurd (omega arith)) in
      let rest = set_states_in slots es k n u (λ i' j' d f at_d at_f same. let s = once (suc i') (suc j') d f at_d at_f same in omega arith) after lt in
      let head : (e.0, state_in (slice_set slots n u) e.1) ∷ states_in (slice_set slots n u) es
      ≡ (e.0, state_in slots e.1) ∷ set_value (is_at (place_cmp k)) (states_in slots es) u = λ t. (e.0, first t) ∷ rest t in
      head ∙ sym (ap (λ b. cond b ((e.0, u) ∷ states_in slots es) ((e.0, state_in slots e.1) ∷ set_value (is_at (place_cmp k)) (states_in slots es) u)) apart)
]

index_below : (es : Slots) (i j : ℕ) (d e : (ℕ × ℕ) × ℕ) → IsStrictlySortedBy place_cmp (keys_of es) → slice_get es i ≡ Some d → slice_get es j ≡ Some e → d.0 ≡ e.0 → i < j → ⊥
index_below es i j d e ascends at_i at_j keys lt =
    let key_i : slice_get (keys_of es) i ≡ Some d.0 = slice_get-map (λ (x : (ℕ × ℕ) × ℕ). x.0) es i ∙ ap (option_map (λ (x : (ℕ × ℕ) × ℕ). x.0)) at_i in
    let key_j : slice_get (keys_of es) j ≡ Some d.0 = slice_get-map (λ (x : (ℕ × ℕ) × ℕ). x.0) es j ∙ ap (option_map (λ (x : (ℕ × ℕ) × ℕ). x.0)) at_j ∙ ap Some (sym keys) in
    let less = Less-from_sorted place_cmp (keys_of es) i j d.0 ascends lt (slice_get_within (keys_of es) j d.0 key_j) in
    let C : ℕ × ℕ → ℕ × ℕ → Ordering = place_cmp in
    let tied : Less ≡ Equal =
    sym less ∙ ap (λ x. C x (slice_index_or (keys_of es) j d.0)) (get_or_from_slice_get (keys_of es) i d.0 d.0 key_i) ∙ ap (C d.0) (get_or_from_slice_get (keys_of es) j d.0 d.0 key_j)
    ∙ tied_itself place_total d.0 in
    cc

-- one place is there once
index_of : (es : Slots) (i j : ℕ) (d e : (ℕ × ℕ) × ℕ) → IsStrictlySortedBy place_cmp (keys_of es) → slice_get es i ≡ Some d → slice_get es j ≡ Some e → d.0 ≡ e.0 → i ≡ j
index_of es i j d e ascends at_i at_j keys = elim (cases_lt i j) [
  | inl lt ↦ absurd (index_below es i j d e ascends at_i at_j keys lt)
  | inr ge ↦ elim (cases_lt j i) [
    | inl lt ↦ absurd (index_below es j i e d ascends at_j at_i (sym keys) lt)
    | inr le ↦ omega arith
  ]
]

module _ (slots : List State) (es : Slots) (places : AreFirstSlots slots es) where
  -- the slot of a place is there
  pub slot_there : (p : ℕ × ℕ) (n : ℕ) → Some n ≡ states_of es p → n < length slots
  slot_there p n at = let first = places.first p n (sym at) in let enough = places.enough in omega arith

  are_slots : AreSlots slots es
  are_slots i e at = slot_there e.0 e.1 (sym (entry_at es i e places.ascends at))

  -- the same of copies of the lists
  pub slots_now : (slots' : List State) (es' : Slots) → slots' ≡ slots → es' ≡ es → AreSlots slots' es'
  slots_now slots' es' same same' i e at = let lt = are_slots i e (ap (λ l. slice_get l i) (sym same') ∙ at) in let long = ap length same in omega arith

  pub slots_rise : (t : List ((ℕ × ℕ) × State)) → states_in slots es ≡ t → IsStrictlySortedBy place_cmp (keys_of t)
  slots_rise t is =
      let R : List (ℕ × ℕ) → Type 0 = λ x. IsStrictlySortedBy place_cmp x in
      subst R (sym (keys_of-states_in slots es) ∙ ap keys_of is) places.ascends

  pub slots_found : (t : List ((ℕ × ℕ) × State)) → states_in slots es ≡ t → All (λ (e : (ℕ × ℕ) × State). states_of t e.0 ≡ Some e.1) t
  slots_found t is k d lt = entry_at t k (slice_index_or t k d) (slots_rise t is) (slice_get-get_or t k d lt)

  -- what is at a place
  pub state_found : (t : List ((ℕ × ℕ) × State)) → states_in slots es ≡ t → (p : ℕ × ℕ) (n : ℕ) → Some n ≡ states_of es p → (x : State) → x ≡ slice_index_or slots n x
      → Some x ≡ states_of t p
  state_found t is p n at x read =
      let here : state_in slots n ≡ x = get_or_from_slice_get slots n x (start_of []) (slice_get_read slots (length slots) n x refl (slot_there p n at) read) in
      sym (ap (λ l. states_of l p) (sym is) ∙ states_of-states_in slots es p ∙ ap (option_map (state_in slots)) (sym at) ∙ ap Some here)

  pub none_found : (t : List ((ℕ × ℕ) × State)) → states_in slots es ≡ t → (p : ℕ × ℕ) → None ≡ states_of es p → states_of t p ≡ None
  none_found t is p at = ap (λ l. states_of l p) (sym is) ∙ states_of-states_in slots es p ∙ ap (option_map (state_in slots)) (sym at)

  -- and that there is none
  pub none_there : (t : List ((ℕ × ℕ) × State)) → states_in slots es ≡ t → (p : ℕ × ℕ) → states_of t p ≡ None → states_of es p ≡ None
  none_there t is p at = go (states_of es p) (sym (states_of-states_in slots es p) ∙ ap (λ l. states_of l p) is ∙ at)
    where
      go : (x : Option ℕ) → option_map (state_in slots) x ≡ None → x ≡ None
      go None e = refl
      go (Some n) e = absurd (cc)

  index_once : (i j : ℕ) (d e : (ℕ × ℕ) × ℕ) → slice_get es i ≡ Some d → slice_get es j ≡ Some e → d.1 ≡ e.1 → i ≡ j
  index_once i j d e at_i at_j same =
      let here = entry_at es i d places.ascends at_i in
      let there = entry_at es j e places.ascends at_j in
      index_of es i j d e places.ascends at_i at_j (places.once d.0 e.0 d.1 here (there ∙ ap Some (sym same)))

-- the state at a place with a slot that holds the same
same_elsewhere : (slots slots' : List State) (es : Slots) (p : ℕ × ℕ) → ((n : ℕ) → states_of es p ≡ Some n → state_in slots' n ≡ state_in slots n)
    → states_of (states_in slots' es) p ≡ states_of (states_in slots es) p
same_elsewhere slots slots' es p same = states_of-states_in slots' es p ∙ go (states_of es p) same ∙ sym (states_of-states_in slots es p)
  where
    go : (x : Option ℕ) → ((n : ℕ) → x ≡ Some n → state_in slots' n ≡ state_in slots n) → option_map (state_in slots') x ≡ option_map (state_in slots) x
    go None h = refl
    go (Some n) h = ap Some (h n refl)

puts_from : (old new : List ((ℕ × ℕ) × State)) (k : ℕ × ℕ) (t : State) (changed : Bool) (before after : Option State) → before ≡ states_of old k → after ≡ states_of new k
    → PutGives state_order before t after changed → ((p : ℕ × ℕ) → p ≢ k → states_of new p ≡ states_of old p)
    → PutsAt state_order (states_of old) (states_of new) k t changed
puts_from old new k t changed before after before_is after_is gives elsewhere =
    let G : Option State × Option State → Type 0 = λ x. PutGives state_order x.0 t x.1 changed in
    let both : ◌≡◌ {A = Option State × Option State} (before, after) (states_of old k, states_of new k) = λ i. (before_is i, after_is i) in
    record { here = subst G both gives; elsewhere = elsewhere }

-- a write of the slot of a place
module _ (slots : List State) (es : Slots) (places : AreFirstSlots slots es) (k : ℕ × ℕ) (n : ℕ) (at : Some n ≡ states_of es k) where
  set_states_is : (u : State) → states_in (slice_set slots n u) es ≡ set_value (is_at (place_cmp k)) (states_in slots es) u
  set_states_is u = set_states_in slots es k n u (index_once slots es places) (sym at) (slot_there slots es places k n at)

  state_now : (u : State) → Some u ≡ states_of (states_in (slice_set slots n u) es) k
  state_now u =
      sym (states_of-states_in (slice_set slots n u) es k ∙ ap (option_map (state_in (slice_set slots n u))) (sym at)
      ∙ ap Some (get_or-set_same slots n u (start_of []) (slot_there slots es places k n at)))

  module _ (t : List ((ℕ × ℕ) × State)) (is : states_in slots es ≡ t) (old : State) (read : old ≡ slice_index_or slots n old) where
    old_is : Some old ≡ states_of t k
    old_is = state_found slots es places t is k n at old read

    pub PutsAt-set : (u s : State) (changed : Bool) → IsLeastAbove state_order old s u → (IsFalse changed ↔ (u ≡ old))
        → PutsAt state_order (states_of t) (states_of (states_in (slice_set slots n u) es)) k s changed
    PutsAt-set u s changed least unchanged =
        let gives : PutGives state_order (Some old) s (Some u) changed = (least, unchanged) in
        puts_from t (states_in (slice_set slots n u) es) k s changed (Some old) (Some u) old_is (state_now u) gives
        (λ p apart. same_elsewhere slots (slice_set slots n u) es p
        (λ m at_p. get_or-set_other slots n m u (start_of []) (λ e. apart (places.once p k m at_p (sym at ∙ ap Some (sym e))))) ∙ ap (λ l. states_of l p) is)

    pub Reweighs-set : (u : State) → ReweighsStates t (states_in (slice_set slots n u) es) k
    Reweighs-set u =
        sums_written t (states_in (slice_set slots n u) es) k old u old_is (sym (state_now u)) (set_states_is u ∙ ap (λ l. set_value (is_at (place_cmp k)) l u) is)

-- what is said of the depth of the state that is at a place
pub one_depth : (x : Option State) (old t s : State) → Some old ≡ x → state_order.SameDepth old t → x ≡ Some s → state_order.SameDepth s t
one_depth x old t s is deep has =
    let both : Some old ≡ Some s = is ∙ has in
    let same : old ≡ s = cc in
    let D : State → Type 0 = λ y. state_order.SameDepth y t in
    subst D same deep

-- no places
pub AreFirstSlots-empty : (slots : List State) (es : Slots) → es ≡ [] → AreFirstSlots slots es
unfolding IsStrictlySortedBy
AreFirstSlots-empty slots es none =
    let R : Slots → Type 0 = λ l. IsStrictlySortedBy place_cmp (keys_of l) in
    let long : length es ≡ 0 = ap length none in
    record {
      ascends = subst R (sym none) tt;
      first = λ p n at. absurd (let both : None ≡ Some n = sym (ap (λ l. states_of l p) none) ∙ at in cc);
      once = λ p q n at. absurd (let both : None ≡ Some n = sym (ap (λ l. states_of l p) none) ∙ at in cc);
      enough = omega arith;
      fits = omega arith;
    }

-- slots after those of the places may change
module _ (slots slots' : List State) (es : Slots) (places : AreFirstSlots slots es) (agrees : AgreesBelow (length es) slots slots') (long : length slots ≤ length slots') where
  AreFirstSlots-kept : AreFirstSlots slots' es
  AreFirstSlots-kept = record {
    ascends = places.ascends;
    first = places.first;
    once = places.once;
    enough = let enough = places.enough in omega arith;
    fits = places.fits;
  }

  pub slots_kept : (t : List ((ℕ × ℕ) × State)) → states_in slots es ≡ t → states_in slots' es ≡ t
  slots_kept t is = same_states_in slots slots' es (λ i e at. agrees e.1 (places.first e.0 e.1 (entry_at es i e places.ascends at))) ∙ is

  module _ (es' : Slots) (same : es' ≡ es) where
    pub slots_same : (t : List ((ℕ × ℕ) × State)) → states_in slots es ≡ t → states_in slots' es' ≡ t
    slots_same t is = ap (states_in slots') same ∙ slots_kept t is

-- a place gets the next slot
module _ (slots slots' : List State) (es es' : Slots) (places : AreFirstSlots slots es) (k : ℕ × ℕ) (n : ℕ) (absent : states_of es k ≡ None) (s : State)
    (agrees : AgreesBelow n slots slots') (long : length slots ≤ length slots') (filled : slice_get slots' n ≡ Some s) (next : n ≡ length es)
    (puts : es' ≡ insert_entry place_cmp es k n) where
  number_of_other : (p : ℕ × ℕ) → p ≢ k → states_of es' p ≡ states_of es p
  number_of_other p apart = ap (λ l. states_of l p) puts ∙ insert_elsewhere es k n p (places_apart p k (λ e. apart (sym e)))

  number_here : states_of es' k ≡ Some n
  number_here = ap (λ l. states_of l k) puts ∙ insert_here es k n

  new_number : (p : ℕ × ℕ) (i : ℕ) → states_of es' p ≡ Some i → ((p ≡ k) × (i ≡ n)) ⊎ ((p ≢ k) × (i < n) × (states_of es p ≡ Some i))
  new_number p i at = elim (cases_place p k) [
    | inl here ↦
        let both : Some i ≡ Some n = sym at ∙ ap (states_of es') here ∙ number_here in
        inl (here, cc)
    | inr apart ↦
        let before : states_of es p ≡ Some i = sym (number_of_other p apart) ∙ at in
        let below = places.first p i before in
        inr (apart, omega arith, before)
  ]

  longer : length es' ≡ length es + 1
  longer = ap length puts ∙ insert_length es k n places.ascends absent

  pub AreFirstSlots-added : n < 4294967295 → AreFirstSlots slots' es'
  AreFirstSlots-added few = let more = longer in let R : Slots → Type 0 = λ l. IsStrictlySortedBy place_cmp (keys_of l) in record {
    ascends = subst R (sym puts) (insert_ascends es k n places.ascends);
    first = λ p i at. elim (new_number p i at) [ inl here ↦ (let e = here.1 in omega arith) | inr old ↦ (let lt = old.1 in omega arith) ];
    once = λ p q i at_p at_q. elim (new_number p i at_p) [
      | inl here ↦ elim (new_number q i at_q) [
        | inl there ↦ here.0 ∙ sym there.0
        | inr old ↦ absurd (let e = here.1 in let lt = old.1 in omega arith)
      ]
      | inr old ↦ elim (new_number q i at_q) [
        | inl there ↦ absurd (let e = there.1 in let lt = old.1 in omega arith)
        | inr old' ↦ places.once p q i old.2 old'.2
      ]
    ];
    enough = let within = slice_get_within slots' n s filled in omega arith;
    fits = omega arith;
  }

  module _ (t : List ((ℕ × ℕ) × State)) (is : states_in slots es ≡ t) where
    old_none : None ≡ states_of t k
    old_none = sym (none_found slots es places t is k (sym absent))

    state_added : Some s ≡ states_of (states_in slots' es') k
    state_added = sym (states_of-states_in slots' es' k ∙ ap (option_map (state_in slots')) number_here ∙ ap Some (get_or_from_slice_get slots' n s (start_of []) filled))

    agreed : AgreesBelow (length es) slots slots'
    agreed = λ i lt. agrees i (omega arith)

    pub PutsAt-added : PutsAt state_order (states_of t) (states_of (states_in slots' es')) k s true
    PutsAt-added =
        let gives : PutGives state_order None s (Some s) true = (refl, refl) in
        puts_from t (states_in slots' es') k s true None (Some s) old_none state_added gives
        (λ p apart. states_of-states_in slots' es' p ∙ ap (option_map (state_in slots')) (number_of_other p apart) ∙ sym (states_of-states_in slots' es p)
        ∙ ap (λ l. states_of l p) (slots_kept slots slots' es places agreed long t is))

    pub Reweighs-added : ReweighsStates t (states_in slots' es') k
    Reweighs-added =
        sums_added t (states_in slots' es') k s (sym state_added)
        (ap (states_in slots') puts ∙ insert_states_in slots' es k n ∙ ap (insert_entry place_cmp (states_in slots' es) k) (get_or_from_slice_get slots' n s (start_of []) filled)
        ∙ ap (λ l. insert_entry place_cmp l k s) (slots_kept slots slots' es places agreed long t is))
        (slots_rise slots es places t is)

  pub length-added : n < 4294967295 → length (states_in slots' es') ≤ 4294967295
  length-added few = let more = longer in let l = length-states_in slots' es' in omega arith

-- the walk goes to the next place
module _ (slots : List State) (es es' : Slots) (p : ℕ × ℕ) (n : ℕ) (are : AreSlots slots es) (is : es ≡ (p, n) ∷ es') where
  pub next_there : n < length slots
  next_there = are 0 (p, n) (ap (λ l. slice_get l 0) is)

  pub rest_there : AreSlots slots es'
  rest_there i e at = are (suc i) e (ap (λ l. slice_get l (suc i)) is ∙ at)

  pub next_state : (t : List ((ℕ × ℕ) × State)) → states_in slots es ≡ t → (d : State) → t ≡ (p, slice_index_or slots n d) ∷ states_in slots es'
  next_state t states_are d =
      let here : state_in slots n ≡ slice_index_or slots n d = get_or_from_slice_get slots n (slice_index_or slots n d) (start_of []) (slice_get-get_or slots n d next_there) in
      sym states_are ∙ ap (states_in slots) is ∙ ap (λ (y : State). (p, y) ∷ states_in slots es') here
