-- States by ascending places, one put after the other.
use Rattle.std.proofs.Common.{◌≡◌, ◌≢◌, ℕ, ◌<◌, ◌≤◌, Bool, true, false, cond, List, [], ◌∷◌, ◌++◌, length, Option, Some, None, refl, sym, ap, subst, ◌∙◌, arith, inl, inr}
use Rattle.std.specs.Prelude.{option_map}
use Rattle.std.specs.List.{AllByRecursion}
use Rattle.std.specs.List.Sorted.{IsStrictlySortedBy}
use Rattle.std.specs.Map.{keys_of}
use Rattle.std.specs.BTreeMap.{is_at}
use Rattle.std.specs.declared.cmp.Ordering.{Ordering}
use Rattle.std.specs.declared.cmp.Ordering.TheVariants.{Less, Equal, Greater}
use Rattle.std.specs.Ordering.{is_eq, is_lt, ordering_reverse}
use Rattle.std.specs.Option.{option_map_or}
use Rattle.std.proofs.lemmas.Bool.{cases_lt, ltb-true}
use Rattle.std.proofs.lemmas.Cmp.{tied_itself}
use Rattle.tt_code.specs.declared.machine.Frame.{Frame}
use Rattle.tt_abs.specs.declared.state.State.{State}
use Rattle.tt_abs.specs.States.{state_order}
use Rattle.tt_family.specs.Contents.{Contents, IsFamily, family_of, frames_at}
use Rattle.tt_family.specs.Places.{PutGives, PutsAt, place_cmp, states_of}
use Rattle.tt_family.specs.Puts.{family_at, place_of}
use Rattle.tt_family.proofs.PlaceEntries.{same_points}
use Rattle.tt_family.proofs.Puts.{cases_place, places_apart}
use Rattle.tt_family.proofs.Putting.{place_total}
use Rattle.tt_cert.specs.Rules.{is_next_point, last_of, last_point}
use Rattle.tt_cert.specs.Sections.{Entry}
use Rattle.tt_cert.proofs.Fields.{both}
use Rattle.tt_cert.proofs.Ascends.{last_behind}

less_from : (o : Ordering) → is_lt o ≡ true → o ≡ Less
less_from Less e = refl
less_from Equal e = cc
less_from Greater e = cc

-- each of these places comes before this one
AreBelow : List Entry → ℕ × ℕ → Type 0
AreBelow es p = AllByRecursion (λ q. place_cmp q p ≡ Less) (keys_of es)

IsLastBelow : Option Entry → ℕ × ℕ → Type 0
IsLastBelow None p = Unit {0}
IsLastBelow (Some e) p = place_cmp e.0 p ≡ Less

all_below : (es : List Entry) (p : ℕ × ℕ) → IsStrictlySortedBy place_cmp (keys_of es) → IsLastBelow (last_of es) p → AreBelow es p
unfolding IsStrictlySortedBy AreBelow IsLastBelow
all_below [] p ascends last = tt
all_below (e ∷ []) p ascends last = (last, tt)
all_below (e ∷ d ∷ es) p ascends last =
    let more = all_below (d ∷ es) p ascends.1 (subst (λ (o : Option Entry). IsLastBelow o p) (last_behind e (d ∷ es) (omega arith)) last) in
    (place_total.trans e.0 d.0 p ascends.0.0 more.0, more)

last_below : (es : List Entry) (contexts : ℕ) (p : ℕ × ℕ) → is_next_point contexts (last_point es) p ≡ true → IsLastBelow (last_of es) p
unfolding IsLastBelow
last_below es contexts p follows = go (last_of es) (both _ _ follows).1
  where
    go : (o : Option Entry) → option_map_or (λ q. is_lt (place_cmp q p)) (option_map (λ e. e.0) o) true ≡ true → IsLastBelow o p
    go None h = tt
    go (Some e) h = less_from _ h

-- a place above all is none of them
not_there : (es : List Entry) (p : ℕ × ℕ) → AreBelow es p → states_of es p ≡ None
unfolding AreBelow
not_there [] p below = refl
not_there (e ∷ es) p below =
    let apart : is_at (place_cmp p) e.0 ≡ false = greater (place_cmp p e.0) (place_total.antisymm p e.0 ∙ ap ordering_reverse below.0) in
    rw apart (not_there es p below.1)
  where
    greater : (o : Ordering) → o ≡ Greater → is_eq o ≡ false
    greater Less h = refl
    greater Equal h = cc
    greater Greater h = refl

all_pushed : (q : ℕ × ℕ) (es : List Entry) (x : Entry) → AllByRecursion (λ r. place_cmp q r ≡ Less) (keys_of es) → place_cmp q x.0 ≡ Less
    → AllByRecursion (λ r. place_cmp q r ≡ Less) (keys_of (es ++ x ∷ []))
all_pushed q [] x h less = (less, tt)
all_pushed q (e ∷ es) x h less = (h.0, all_pushed q es x h.1 less)

pushed_ascends : (es : List Entry) (x : Entry) → IsStrictlySortedBy place_cmp (keys_of es) → AreBelow es x.0 → IsStrictlySortedBy place_cmp (keys_of (es ++ x ∷ []))
unfolding IsStrictlySortedBy AreBelow
pushed_ascends [] x ascends below = (tt, tt)
pushed_ascends (e ∷ es) x ascends below = (all_pushed e.0 es x ascends.0 below.0, pushed_ascends es x ascends.1 below.1)

-- what is found in a list with one more state
pushed_other : (es : List Entry) (x : Entry) (p : ℕ × ℕ) → is_at (place_cmp p) x.0 ≡ false → states_of (es ++ x ∷ []) p ≡ states_of es p
pushed_other [] x p apart = rw apart refl
pushed_other (e ∷ es) x p apart = ap (cond (is_at (place_cmp p) e.0) (Some e.1)) (pushed_other es x p apart)

at_itself : (p : ℕ × ℕ) → is_at (place_cmp p) p ≡ true
at_itself p = ap is_eq (tied_itself place_total p)

pushed_here : (es : List Entry) (x : Entry) → AreBelow es x.0 → states_of (es ++ x ∷ []) x.0 ≡ Some x.1
unfolding AreBelow
pushed_here [] x below = rw (at_itself x.0) refl
pushed_here (e ∷ es) x below =
    let apart : is_at (place_cmp x.0) e.0 ≡ false = greater (place_cmp x.0 e.0) (place_total.antisymm x.0 e.0 ∙ ap ordering_reverse below.0) in
    rw apart (pushed_here es x below.1)
  where
    greater : (o : Ordering) → o ≡ Greater → is_eq o ≡ false
    greater Less h = refl
    greater Equal h = cc
    greater Greater h = refl

put_new : (t : State) (x : Option State) (changed : Bool) → PutGives state_order None t x changed → x ≡ Some t
put_new t None changed h = absurd h
put_new t (Some u) changed h = ap Some h.0

-- the states of a family are those of its contexts
none_past : (v : Contents) (p : ℕ × ℕ) → IsFamily v → length v.contexts ≤ p.0 → states_of v.states p ≡ None
none_past v p family past = go (states_of v.states p) refl
  where
    go : (o : Option State) → states_of v.states p ≡ o → states_of v.states p ≡ None
    go None e = e
    go (Some s) e = absurd (let held = family.held p.0 p.1 s e in omega arith)

module _ (old new : Contents) (p : ℕ × ℕ) (t : State) (changed : Bool) (same : new.contexts ≡ old.contexts) (family : IsFamily old) (family' : IsFamily new)
    (lt : p.0 < length old.contexts) (free : states_of old.states p ≡ None)
    (put : PutsAt state_order (family_of old) (family_of new) (place_of old p.0 p.1) t changed) where
  at_new : (q : ℕ × ℕ) → q.0 < length old.contexts → states_of new.states q ≡ family_of new (place_of old q.0 q.1)
  at_new q within =
      let len = ap length same in
      sym (family_at new q.0 q.1 family' (omega arith)) ∙ ap (λ (c : List (List Frame)). family_of new (frames_at c q.0, q.1)) same

  put_here : states_of new.states p ≡ Some t
  put_here =
      let G : Option State → Type 0 = λ o. PutGives state_order o t (family_of new (place_of old p.0 p.1)) changed in
      at_new p lt ∙ put_new t _ changed (subst G (family_at old p.0 p.1 family lt ∙ free) put.here)

  same_place : (q : ℕ × ℕ) → q.0 < length old.contexts → place_of old q.0 q.1 ≡ place_of old p.0 p.1 → q ≡ p
  same_place q within e =
      let number : q.0 ≡ p.0 = family.distinct q.0 p.0 within lt (ap (λ (x : List Frame × ℕ). x.0) e) in
      let offset : q.1 ≡ p.1 = ap (λ (x : List Frame × ℕ). x.1) e in
      λ i. (number i, offset i)

  put_elsewhere : (q : ℕ × ℕ) → q ≢ p → states_of new.states q ≡ states_of old.states q
  put_elsewhere q apart = elim (cases_lt q.0 (length old.contexts)) [
    | inl within ↦ at_new q within ∙ put.elsewhere (place_of old q.0 q.1) (λ e. apart (same_place q within e)) ∙ family_at old q.0 q.1 family within
    | inr past ↦ let len = ap length same in none_past new q family' (omega arith) ∙ sym (none_past old q family past)
  ]

-- a state that is put at a place above all comes last
pub state_added : (old new : Contents) (p : ℕ × ℕ) (t : State) (changed : Bool) → new.contexts ≡ old.contexts → IsFamily old → IsFamily new
    → IsStrictlySortedBy place_cmp (keys_of old.states) → IsStrictlySortedBy place_cmp (keys_of new.states)
    → is_next_point (length old.contexts) (last_point old.states) p ≡ true
    → PutsAt state_order (family_of old) (family_of new) (place_of old p.0 p.1) t changed → new.states ≡ old.states ++ (p, t) ∷ []
state_added old new p t changed same family family' ascends ascends' follows put =
    let lt : p.0 < length old.contexts = ltb-true _ _ (both _ _ follows).0 in
    let below = all_below old.states p ascends (last_below old.states (length old.contexts) p follows) in
    let free = not_there old.states p below in
    same_points new.states (old.states ++ (p, t) ∷ []) ascends' (pushed_ascends old.states (p, t) ascends below)
    (λ q. elim (cases_place q p) [
      | inl here ↦
          ap (states_of new.states) here ∙ put_here old new p t changed same family family' lt free put ∙ sym (pushed_here old.states (p, t) below)
          ∙ ap (states_of (old.states ++ (p, t) ∷ [])) (sym here)
      | inr apart ↦
          put_elsewhere old new p t changed same family family' lt free put q apart
          ∙ sym (pushed_other old.states (p, t) q (places_apart q p (λ e. apart (sym e))))
    ])

-- where a place follows, no state is there, and its context is one of the family's
pub place_free : (v : Contents) (p : ℕ × ℕ) → IsFamily v → IsStrictlySortedBy place_cmp (keys_of v.states) → is_next_point (length v.contexts) (last_point v.states) p ≡ true
    → (p.0 < length v.contexts) × (family_of v (place_of v p.0 p.1) ≡ None)
place_free v p family ascends follows =
    let lt : p.0 < length v.contexts = ltb-true _ _ (both _ _ follows).0 in
    let below = all_below v.states p ascends (last_below v.states (length v.contexts) p follows) in
    (lt, family_at v p.0 p.1 family lt ∙ not_there v.states p below)
