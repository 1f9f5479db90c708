-- What putting a state leaves of a builder.
use Rattle.std.specs.Prelude.{◌≡◌, ℕ, ◌+◌, ◌≤◌, ◌<◌, Bool, Option, Some, None, List, length, unwrap_or, Ok, Err, IfOk, IfErr, OnOk, OnErr, Result}
use Rattle.std.specs.Cmp.{IsTotalOrder}
use Rattle.std.specs.Option.{option_map, option_copied, IfSome}
use Rattle.std.specs.List.{sum_by, All}
use Rattle.std.specs.List.Sorted.{IsStrictlySortedBy}
use Rattle.std.specs.Map.{values_of, keys_of, set_value}
use Rattle.std.specs.BTreeMap.{BTreeMap, is_at, insert_entry}
use Rattle.std.proofs.Common.{refl, sym, ◌∙◌, ap, subst, arith, inl, inr, Bor}
use Rattle.std.proofs.lemmas.Cmp.{then_total, on_total, nat_cmp_total}
use Rattle.std.proofs.lemmas.Map.Entries.{sum_by-set_value, sum_by-insert_entry}
use Rattle.tt_abs.specs.declared.state.State.{State}
use Rattle.tt_abs.specs.States.{state_order}
use Rattle.tt_code.specs.declared.machine.Frame.{Frame}
use Rattle.tt_family.specs.Places.{place_cmp, states_of, PutGives, PutsAt}
use Rattle.tt_family.specs.Contexts.{frames_of}
use Rattle.tt_family.specs.Contents.{Contents, IsFamily, family_of}
use Rattle.tt_family.specs.Puts.{Reweighs, ReweighsStates, place_of, weigh, PutsAt-family, Reweighs-family, family_at}
use Rattle.tt_family.specs.Built.{Key, IsBuilt}
use Rattle.tt_setting.specs.declared.step_fault.StepFault.{StepFault}
use Rattle.tt_family.specs.declared.joined.Joined.{Joined}
use Rattle.tt_family.specs.Joins.{TellsNew, TellsOtherDepth, is_change}
use Rattle.tt_family.proofs.Puts.{cases_place}
use Rattle.tt_family.proofs.Adding.{family_is, contexts_is}

pub place_total : IsTotalOrder place_cmp
place_total = then_total (on_total (λ (t : ℕ × ℕ). t.0) nat_cmp_total) (on_total (λ (t : ℕ × ℕ). t.1) nat_cmp_total)

pub weigh-as : (w : State → ℕ) (x : Option State) → unwrap_or (option_map w x) 0 ≡ weigh w x
weigh-as w None = refl
weigh-as w (Some s) = refl

pub sums_written : (states states' : List ((ℕ × ℕ) × State)) (k : ℕ × ℕ) (old new : State) → Some old ≡ states_of states k → states_of states' k ≡ Some new
    → states' ≡ set_value (is_at (place_cmp k)) states new
    → (w : State → ℕ) → sum_by w (values_of states') + weigh w (states_of states k) ≡ sum_by w (values_of states) + weigh w (states_of states' k)
sums_written states states' k old new had now writes w =
    let sums = sum_by-set_value w (is_at (place_cmp k)) states old new (sym had) in
    let e = ap (λ (x : List ((ℕ × ℕ) × State)). sum_by w (values_of x)) writes in
    let a = ap (weigh w) had in
    let b = ap (weigh w) now in
    omega arith

pub sums_added : (states states' : List ((ℕ × ℕ) × State)) (k : ℕ × ℕ) (new : State) → states_of states' k ≡ Some new
    → states' ≡ insert_entry place_cmp states k new → IsStrictlySortedBy place_cmp (keys_of states)
    → (w : State → ℕ) → sum_by w (values_of states') + weigh w (states_of states k) ≡ sum_by w (values_of states) + weigh w (states_of states' k)
sums_added states states' k new now writes ordered w =
    let sums = sum_by-insert_entry w place_total states k new ordered in
    let e = ap (λ (x : List ((ℕ × ℕ) × State)). sum_by w (values_of x)) writes in
    let a = weigh-as w (states_of states k) in
    let b = ap (weigh w) now in
    omega arith

-- what a put leaves at its place is in range
PutGives-in_range : (old : Option State) (t : State) (new : Option State) (changed : Bool) → PutGives state_order old t new changed → state_order.InRange t
    → ((s : State) → old ≡ Some s → state_order.InRange s) → (s : State) → new ≡ Some s → state_order.InRange s
PutGives-in_range None t None changed put ranged before s at = absurd put
PutGives-in_range None t (Some u) changed put ranged before s at =
    let same : s ≡ t = cc in
    let R : State → Type 0 = λ x. state_order.InRange x in
    subst R (sym same) ranged
PutGives-in_range (Some a) t None changed put ranged before s at = absurd put
PutGives-in_range (Some a) t (Some u) changed put ranged before s at =
    let same : s ≡ u = cc in
    let R : State → Type 0 = λ x. state_order.InRange x in
    subst R (sym same) put.0.in_range

module _ (entries : List (ℕ × Frame)) (index : BTreeMap Key ℕ) (states states' : List ((ℕ × ℕ) × State)) (v : Contents)
    (is : ◌≡◌ {A = Contents} (record { contexts = frames_of entries; states = states }) v) (built : IsBuilt entries index states)
    (c off : ℕ) (within : c < length v.contexts) (t : State) (changed : Bool)
    (put : PutsAt state_order (states_of states) (states_of states') (c, off) t changed) (ranged : state_order.InRange t) where
  pub put_family : length states' ≤ 4294967295 → IsFamily (record { contexts = frames_of entries; states = states' })
  put_family fits =
      let old = built.family in
      let lt : c < length (frames_of entries) = let e = ap length (contexts_is entries index states v is built) in omega arith in
      record {
        main = old.main;
        some = old.some;
        distinct = old.distinct;
        few = old.few;
        in_range = λ c' o' s at. elim (cases_place (c', o') (c, off)) [
          | inl same ↦ PutGives-in_range (states_of states (c, off)) t (states_of states' (c, off)) changed put.here ranged (old.in_range c off) s (ap (states_of states') (sym same) ∙ at)
          | inr apart ↦ old.in_range c' o' s (sym (put.elsewhere (c', o') apart) ∙ at)
        ];
        held = λ c' o' s at. elim (cases_place (c', o') (c, off)) [
          | inl same ↦ let e : c' ≡ c = ap (λ (x : ℕ × ℕ). x.0) same in omega arith
          | inr apart ↦ old.held c' o' s (sym (put.elsewhere (c', o') apart) ∙ at)
        ];
        fits = fits;
      }

  pub put_built : length states' ≤ 4294967295 → IsBuilt entries index states'
  put_built fits = record { parents = built.parents; indexed = built.indexed; found = built.found; family = put_family fits }

  states_is : states ≡ v.states
  states_is = ap (λ (x : Contents). x.states) is

  pub put_puts : PutsAt state_order (family_of v) (family_of (record { contexts = frames_of entries; states = states' })) (place_of v c off) t changed
  put_puts =
      let P : List ((ℕ × ℕ) × State) → Type 0 = λ x. PutsAt state_order (states_of x) (states_of states') (c, off) t changed in
      PutsAt-family state_order v (record { contexts = frames_of entries; states = states' }) c off t changed (family_is entries index states v is built)
      (contexts_is entries index states v is built) within (subst P states_is put)

module _ (entries : List (ℕ × Frame)) (index : BTreeMap Key ℕ) (states : List ((ℕ × ℕ) × State)) (v : Contents)
    (is : ◌≡◌ {A = Contents} (record { contexts = frames_of entries; states = states }) v) (built : IsBuilt entries index states) where
  pub number_state : (k : ℕ × ℕ) (x : Option State) → x ≡ states_of states k → states_of v.states k ≡ x
  number_state k x at = ap (λ (y : Contents). states_of y.states k) (sym is) ∙ sym at

  pub point_state : (c off : ℕ) (x : Option State) → c < length v.contexts → x ≡ states_of states (c, off) → family_of v (place_of v c off) ≡ x
  point_state c off x within at = family_at v c off (family_is entries index states v is built) within ∙ number_state (c, off) x at

  pub state_at_point : (c off : ℕ) → c < length v.contexts → family_of v (place_of v c off) ≡ states_of v.states (c, off)
  state_at_point c off within = family_at v c off (family_is entries index states v is built) within

  -- each entry's state is at its place
  pub found_of : All (λ (e : (ℕ × ℕ) × State). states_of states e.0 ≡ Some e.1) states → All (λ (e : (ℕ × ℕ) × State). states_of v.states e.0 ≡ Some e.1) v.states
  found_of all =
      let F : List ((ℕ × ℕ) × State) → Type 0 = λ x. All (λ (e : (ℕ × ℕ) × State). states_of x e.0 ≡ Some e.1) x in
      subst F (ap (λ (x : Contents). x.states) is) all

  same_built : (states' : List ((ℕ × ℕ) × State)) → states' ≡ states → IsBuilt entries index states'
  same_built states' same = let B : List ((ℕ × ℕ) × State) → Type 0 = λ x. IsBuilt entries index x in subst B (sym same) built

  -- what a put into the states is to the family
  module _ (states' : List ((ℕ × ℕ) × State)) (c off : ℕ) (within : c < length v.contexts) (t : State) (ranged : state_order.InRange t) where
    pub joined_built : (r : Result Joined StepFault) → IfOk r (λ joined. PutsAt state_order (states_of states) (states_of states') (c, off) t (is_change joined))
        → OnOk r (length states' ≤ 4294967295) → OnErr r (states' ≡ states) → IsBuilt entries index states'
    joined_built (Ok joined) put fits kept = put_built entries index states states' v is built c off within t (is_change joined) put ranged fits
    joined_built (Err e) put fits kept = same_built states' kept

    pub joined_puts : (r : Result Joined StepFault) → IfOk r (λ joined. PutsAt state_order (states_of states) (states_of states') (c, off) t (is_change joined))
        → IfOk r (λ joined. PutsAt state_order (family_of v) (family_of (record { contexts = frames_of entries; states = states' })) (place_of v c off) t (is_change joined))
    joined_puts (Ok joined) put = put_puts entries index states states' v is built c off within t (is_change joined) put ranged
    joined_puts (Err e) put = tt

    pub joined_new : (r : Result Joined StepFault) → IfOk r (λ joined. TellsNew joined (states_of states (c, off))) → IfOk r (λ joined. TellsNew joined (family_of v (place_of v c off)))
    joined_new (Ok joined) new = let T : Option State → Type 0 = λ x. TellsNew joined x in subst T (sym (point_state c off (states_of states (c, off)) within refl)) new
    joined_new (Err e) new = tt

    pub joined_sums : (r : Result Joined StepFault) → IfOk r (λ _. ReweighsStates states states' (c, off))
        → IfOk r (λ _. Reweighs v (record { contexts = frames_of entries; states = states' }) (place_of v c off))
    joined_sums (Ok joined) sums =
        let P : List ((ℕ × ℕ) × State) → Type 0 = λ x. ReweighsStates x states' (c, off) in
        Reweighs-family v (record { contexts = frames_of entries; states = states' }) c off (family_is entries index states v is built)
        (contexts_is entries index states v is built) within (subst P (ap (λ (x : Contents). x.states) is) sums)
    joined_sums (Err e) sums = tt

    pub joined_depth : (r : Result Joined StepFault) → IfErr r (TellsOtherDepth (states_of states (c, off)) t) → IfErr r (TellsOtherDepth (family_of v (place_of v c off)) t)
    joined_depth (Ok joined) deep = tt
    joined_depth (Err e) deep = let T : Option State → Type 0 = λ x. TellsOtherDepth x t e in subst T (sym (point_state c off (states_of states (c, off)) within refl)) deep

    pub joined_joined : (r : Result Joined StepFault) → IfOk r (λ _. (s : State) → states_of states (c, off) ≡ Some s → state_order.SameDepth s t)
        → IfOk r (λ _. (s : State) → family_of v (place_of v c off) ≡ Some s → state_order.SameDepth s t)
    joined_joined (Ok joined) deep = λ s at. deep s (sym (point_state c off (states_of states (c, off)) within refl) ∙ at)
    joined_joined (Err e) deep = tt

pub copied_some : (o : Option (Bor State)) (x y : Option State) → option_copied o ≡ x → y ≡ x → IfSome o (λ s. y ≡ Some s.now)
copied_some None x y e f = tt
copied_some (Some s) x y e f = f ∙ sym e
