-- What the check of one point tells.
use Rattle.std.specs.Prelude.{◌≡◌, ◌↔◌, ℕ, ◌+◌, ◌<◌, ◌^◌, Option, Some, None, List, [], ◌∷◌, true, false, IsTrue, Result, Ok, Err, IfOk, IfErr, length, map, reverse, slice_get, zero, suc}
use Rattle.std.specs.Borrow.{Bor}
use Rattle.std.proofs.Common.{refl, sym, ◌∙◌, ap, subst, arith, inl, inr}
use Rattle.std.specs.Option.{option_map}
use Rattle.std.proofs.lemmas.Bool.{cases_lt}
use Rattle.std.proofs.lemmas.List.{reverse-reverse}
use Rattle.std.proofs.lemmas.Option.{slice_get-map}
use Rattle.std.proofs.lemmas.Result.{IfErr-weaker, IfOk-weaker}
use Rattle.tt_code.specs.Settings.{Setting, is_main_end}
use Rattle.tt_code.specs.declared.machine.Frame.{Frame}
use Rattle.tt_code.specs.declared.reason.Reason.{Reason}
use Rattle.tt_code.specs.declared.reason.Reason.TheVariants.{MissingPoint, NotCovered, Storage}
use Rattle.tt_setting.specs.Refusals.{reason_of}
use Rattle.tt_setting.specs.declared.failed.Failed.TheVariants.{Only}
use Rattle.tt_abs.specs.declared.state.State.{State}
use Rattle.tt_setting.specs.declared.step_fault.StepFault.{StepFault}
use Rattle.tt_setting.specs.declared.step_fault.StepFault.TheVariants as step
use Rattle.tt_abs.specs.declared.moves.Move.{Move}
use Rattle.tt_abs.specs.declared.moves.Move.TheVariants.{To, Enter, NextTurn, Return}
use Rattle.tt_abs.specs.declared.moves.Moves.{Moves}
use Rattle.tt_abs.specs.Cells.{Abstract}
use Rattle.tt_abs.specs.Families.{CoversAt}
use Rattle.tt_setting.specs.Refusals.{ForReason}
use Rattle.tt_abs.specs.Moves.{frames_after, next_by, nexts_of, offset_after, ways_of}
use Rattle.tt_setting.specs.Refusals.{refusal_at}
use Rattle.tt_abs.specs.StateFlow.{Place, GivesState}
use Rattle.tt_abs.specs.States.{abstract_of, state_order}
use Rattle.tt_abs.specs.Transfers.{Next, outcome_on_cells}
use Rattle.tt_abs.proofs.StateParts.{one_state}
use Rattle.tt_family.specs.Checks.{AreCovered, AreMet, BreaksAt, IsFirstGap, IsGap, IsMet, IsSoundAt, Names, NamesAt, place_of_next, saturated_offset, stores, refused, leaves}
use Rattle.tt_family.specs.GoodFamilies.{IsStoredWithin}
use Rattle.tt_setting.specs.Spots.{spot_of}
use Rattle.tt_family.specs.Representation.Cursors.{AreMetBy, IsLeftOut, IsMetBy, IsNextState, IsPassed, coverage_of_both}
use Rattle.tt_family.specs.Fillings.{IsAfter}
use Rattle.tt_setting.specs.declared.refusal.Refusal.{Refusal}
use Rattle.tt_setting.specs.declared.refusal.Refusal.TheVariants.{Refused, Exhausted}
use Rattle.tt_family.specs.declared.meeting.Coverage.{Coverage}
use Rattle.tt_family.specs.declared.meeting.Coverage.TheVariants as coverage

-- How a state is met at one place.

-- where what may be left out is said of the same places in other words
pub met_by_same : (family : Place → Option State) (L L' : Type 0) (next : Option (ℕ × ℕ × Bor State)) (q : Place) (t : State) → (L → L') → (m : Coverage) → IsMetBy family L next q t m
    → IsMetBy family L' next q t m
met_by_same family L L' next q t f coverage.Next h = h
met_by_same family L L' next q t f coverage.Listed h = h
met_by_same family L L' next q t f coverage.Added (none, may) = (none, f may)

pub gap_same : (family : Place → Option State) (L L' : Type 0) (q : Place) (t : State) → (L' → L) → (r : Reason) → IsGap family L q t r → IsGap family L' q t r
gap_same family L L' q t f MissingPoint (none, not) = (none, λ may. not (f may))
gap_same family L L' q t f NotCovered gap = gap
gap_same family L L' q t f _ gap = absurd gap

pub named_gap_same : (family : Place → Option State) (L L' : Type 0) (q : Place) (t : State) → (L' → L) → (fault : Refusal) → NamesAt q (IsGap family L q t) fault
    → NamesAt q (IsGap family L' q t) fault
named_gap_same family L L' q t f (Refused spot offset failed) (a, b, gap) = (a, b, gap_same family L L' q t f (reason_of failed) gap)
named_gap_same family L L' q t f (Exhausted e) h = tt

-- a move that doesn't stay in the body leads to no place just after
pub leads_elsewhere : (fs : List Frame) (way : Move) (after : Option ℕ) → ((offset : ℕ) → way ≡ To offset → ⊥) → ((end : ℕ) → after ≡ Some end → 0 < end)
    → IsAfter fs after (frames_after fs way, offset_after fs way) → ⊥
leads_elsewhere fs (To offset) after other forward h = other offset refl
leads_elsewhere fs (Enter f) after other forward (same, is) = let long = ap length same in omega arith
leads_elsewhere [] NextTurn after other forward (same, is) = let lt = forward 0 is in omega arith
leads_elsewhere (f ∷ fs) NextTurn after other forward (same, is) =
    let frame : record f { turn = f.turn + 1 } ≡ f = cc in
    let turn : f.turn + 1 ≡ f.turn = ap (λ (x : Frame). x.turn) frame in omega arith
leads_elsewhere [] Return after other forward (same, is) = let lt = forward 0 is in omega arith
leads_elsewhere (f ∷ fs) Return after other forward (same, is) = let long = ap length same in omega arith

-- where no state may be left out, in other words for the same place
module _ (family : Place → Option State) (L : Type 0) (next : Option (ℕ × ℕ × Bor State)) (q q' : Place) (t : State) (r : Result Coverage Refusal) (same : q ≡ q') where
  pub elsewhere_met : IfOk r (IsMetBy family (IsTrue false) next q t) → IfOk r (IsMetBy family L next q' t)
  elsewhere_met h =
      let A : Place → Type 0 = λ x. IfOk r (IsMetBy family L next x t) in
      subst A same (IfOk-weaker r _ _ (met_by_same family (IsTrue false) L next q t (λ e. absurd (cc))) h)

  pub elsewhere_gap : (L → ⊥) → IfErr r (NamesAt q (IsGap family (IsTrue false) q t)) → IfErr r (NamesAt q' (IsGap family L q' t))
  elsewhere_gap none h =
      let A : Place → Type 0 = λ x. IfErr r (NamesAt x (IsGap family L x t)) in
      subst A same (IfErr-weaker r _ _ (named_gap_same family (IsTrue false) L q t (λ may. absurd (none may))) h)

-- At all places that come next.

below_none : (ns : List Next) (k i : ℕ) (n : Next) → slice_get ns k ≡ None → slice_get ns i ≡ Some n → i < k
below_none [] k i n none e = absurd (cc)
below_none (x ∷ xs) zero i n none e = absurd (cc)
below_none (x ∷ xs) (suc k) zero n none e = omega arith
below_none (x ∷ xs) (suc k) (suc i) n none e = let lt = below_none xs k i n none e in omega arith

module _ (family : Place → Option State) (fs : List Frame) (after : Option ℕ) (next : Option (ℕ × ℕ × Bor State)) (t : State) where
  abbrev IsMetAt : Place → Coverage → Type 0
  IsMetAt q m = IsMetBy family (IsAfter fs after q) next q t m

  is_met : (q : Place) (m : Coverage) → IsMetAt q m → IsMet family (IsAfter fs after q) q t
  is_met q coverage.Next (covered, same) = inl covered
  is_met q coverage.Listed covered = inl covered
  is_met q coverage.Added (none, may) = inr (none, may)

  -- of the places with the numbers below a bound
  abbrev AreAllBelow : (Next → Type 0) → List Next → ℕ → Type 0
  AreAllBelow P ns k = (i : ℕ) (n : Next) → i < k → slice_get ns i ≡ Some n → P n

  abbrev IsCoveredAt : Next → Type 0
  IsCoveredAt n = CoversAt state_order family (place_of_next n) t

  abbrev IsMetThere : Next → Type 0
  IsMetThere n = IsMet family (IsAfter fs after (place_of_next n)) (place_of_next n) t

  -- how a state is met at these places
  abbrev pub AreMetBelow : List Next → ℕ → Coverage → Type 0
  AreMetBelow ns k coverage.Next = AreAllBelow IsCoveredAt ns k × IsNextState next t
  AreMetBelow ns k coverage.Listed = AreAllBelow IsCoveredAt ns k
  AreMetBelow ns k coverage.Added = AreAllBelow IsMetThere ns k × IsLeftOut family fs after ns

  module _ (ns : List Next) (k : ℕ) (n : Next) (at : slice_get ns k ≡ Some n) where
    one_more : (P : Next → Type 0) → P n → AreAllBelow P ns k → AreAllBelow P ns (k + 1)
    one_more P here before i x lt e = elim (cases_lt i k) [
      | inl lower ↦ before i x lower e
      | inr higher ↦
          let same : i ≡ k = omega arith in
          let it : Some n ≡ Some x = sym at ∙ ap (slice_get ns) (sym same) ∙ e in
          let is : n ≡ x = cc in subst P is here
    ]

    added_now : IsMetAt (place_of_next n) coverage.Added → AreAllBelow IsMetThere ns k → AreMetBelow ns (k + 1) coverage.Added
    added_now (none, may) before = (one_more IsMetThere (inr (none, may)) before, record { index = k; next = n; found = at; just_after = may; none = none })

    pub met_more : (j m : Coverage) → AreMetBelow ns k j → IsMetAt (place_of_next n) m → AreMetBelow ns (k + 1) (coverage_of_both j m)
    met_more coverage.Added m (before, left) here = (one_more IsMetThere (is_met (place_of_next n) m here) before, left)
    met_more coverage.Next coverage.Added (covered, same) here = added_now here (λ i x lt e. inl (covered i x lt e))
    met_more coverage.Listed coverage.Added covered here = added_now here (λ i x lt e. inl (covered i x lt e))
    met_more coverage.Next coverage.Next first second = (one_more IsCoveredAt second.0 first.0, first.1)
    met_more coverage.Next coverage.Listed first second = (one_more IsCoveredAt second first.0, first.1)
    met_more coverage.Listed coverage.Next first second = one_more IsCoveredAt second.0 first
    met_more coverage.Listed coverage.Listed first second = one_more IsCoveredAt second first

    -- it isn't met at the next one
    pub gap_next : AreAllBelow IsMetThere ns k → (fault : Refusal) → NamesAt (place_of_next n) (IsGap family (IsAfter fs after (place_of_next n)) (place_of_next n) t) fault
        → Names (IsFirstGap family (IsAfter fs after) ns t) fault
    gap_next before (Refused spot offset failed) h =
        (place_of_next n, h.0, h.1, record { index = k; here = record { next = n; found = at; place = refl; gap = h.2 }; before = before })
    gap_next before (Exhausted by) h = tt

  none_below : (P : Next → Type 0) (ns : List Next) → AreAllBelow P ns 0
  none_below P ns i n lt e = absurd (omega arith)

  pub none_all_below : (ns : List Next) → AreAllBelow IsMetThere ns 0
  none_all_below = none_below IsMetThere

  pub met_first : (ns : List Next) (n : Next) → slice_get ns 0 ≡ Some n → (m : Coverage) → IsMetAt (place_of_next n) m → AreMetBelow ns 1 m
  met_first ns n at coverage.Next (covered, same) = (one_more ns 0 n at IsCoveredAt covered (none_below IsCoveredAt ns), same)
  met_first ns n at coverage.Listed covered = one_more ns 0 n at IsCoveredAt covered (none_below IsCoveredAt ns)
  met_first ns n at coverage.Added here = added_now ns 0 n at here (none_below IsMetThere ns)

  pub met_below : (ns : List Next) (k : ℕ) (m : Coverage) → AreMetBelow ns k m → AreAllBelow IsMetThere ns k
  met_below ns k coverage.Next (covered, same) = λ i n lt e. inl (covered i n lt e)
  met_below ns k coverage.Listed covered = λ i n lt e. inl (covered i n lt e)
  met_below ns k coverage.Added (before, left) = before

  -- after the last of them
  pub met_all : (ns : List Next) (k : ℕ) → slice_get ns k ≡ None → (m : Coverage) → AreMetBelow ns k m → AreMetBy family fs after next ns t m
  met_all ns k none coverage.Next (covered, same) = ((λ i n e. covered i n (below_none ns k i n none e) e), same)
  met_all ns k none coverage.Listed covered = λ i n e. covered i n (below_none ns k i n none e) e
  met_all ns k none coverage.Added (before, left) = ((λ i n e. before i n (below_none ns k i n none e) e), left)

-- where a way leads
pub next_found : (fs : List Frame) (ways : Moves) (a : Abstract) (k : ℕ) (way : Move) → slice_get (ways_of ways) k ≡ Some way → slice_get (nexts_of fs ways a) k ≡ Some (next_by fs a way)
next_found fs ways a k way e = slice_get-map (next_by fs a) (ways_of ways) k ∙ ap (option_map (next_by fs a)) e

pub no_next : (fs : List Frame) (ways : Moves) (a : Abstract) (k : ℕ) → slice_get (ways_of ways) k ≡ None → slice_get (nexts_of fs ways a) k ≡ None
no_next fs ways a k e = slice_get-map (next_by fs a) (ways_of ways) k ∙ ap (option_map (next_by fs a)) e

map_found : {A B : Type 0} (f : A → B) (xs : List A) (i : ℕ) (y : B) → slice_get (map f xs) i ≡ Some y → (x : A) × (slice_get xs i ≡ Some x) × (f x ≡ y)
map_found f [] i y e = absurd (cc)
map_found f (x ∷ xs) zero y e = (x, refl, cc)
map_found f (x ∷ xs) (suc i) y e = map_found f xs i y e

-- each next abstract state of moves is the one
pub same_states : (fs : List Frame) (ways : Moves) (b : Abstract) (i : ℕ) (n : Next) → slice_get (nexts_of fs ways b) i ≡ Some n → b ≡ n.state
same_states fs ways b i n e =
    let (way, found, same) = map_found (next_by fs b) (ways_of ways) i n e in ap (λ (x : Next). x.state) same

module _ (s : Setting) (family : Place → Option State) (L : Place → Type 0) (p : Place) (a : State) where
  pub stores_here : (fault : Refusal) → p.1 < 2 ^ 32 → fault ≡ Refused (spot_of p.0) p.1 (Only Storage) → (IsStoredWithin s a → ⊥) → Names (BreaksAt s family L p a) fault
  stores_here fault within e above =
      let offset : p.1 ≡ saturated_offset p.1 = omega arith in
      let N : Refusal → Type 0 = λ x. Names (BreaksAt s family L p a) x in subst N (sym e) (p, refl, offset, stores above)

  -- at the end only storage indexes are checked
  pub passed_at_end : (carried : Option ℕ) (t : State) → carried ≡ None → IsStoredWithin s a → is_main_end s p.0 p.1 ≡ true → IsPassed s family L p a carried t
  passed_at_end carried t none stored ends = record {
    sound = record {
      stored = stored;
      safe = λ r x. let no_such : true ≡ false = sym ends ∙ x.running in absurd (cc);
      closed = λ q u g. let no_such : true ≡ false = sym ends ∙ g.running in absurd (cc);
    };
    closed = λ e q u g. let no_such : true ≡ false = sym ends ∙ g.running in absurd (cc);
    added = λ o e. absurd (cc);
  }

  module _ (stored : IsStoredWithin s a) (ways : Moves) (t : State) (in_range : state_order.InRange t) (running : is_main_end s p.0 p.1 ≡ false)
      (result : outcome_on_cells s p.0 p.1 (abstract_of a) ≡ Ok (nexts_of p.0 ways (abstract_of t))) (after : Option ℕ) (same_places : (q : Place) → IsAfter p.0 after q ↔ L q) where
    -- what holds at each place that comes next holds wherever the state gives another one
    at_given : (P : Place → State → Type 0) → ((i : ℕ) (n : Next) → slice_get (nexts_of p.0 ways (abstract_of t)) i ≡ Some n → P (place_of_next n) t) → (q : Place) (u : State)
        → GivesState s p a q u → P q u
    at_given P all q u g =
        let ok : Ok g.nexts ≡ Ok (nexts_of p.0 ways (abstract_of t)) = sym g.result ∙ result in
        let same : g.nexts ≡ nexts_of p.0 ways (abstract_of t) = cc in
        let found : slice_get (nexts_of p.0 ways (abstract_of t)) g.index ≡ Some g.next = ap (λ (ns : List Next). slice_get ns g.index) (sym same) ∙ g.found in
        let state : u ≡ t = one_state u t g.in_range in_range (g.state_is ∙ sym (same_states p.0 ways (abstract_of t) g.index g.next found)) in
        let place : place_of_next g.next ≡ q = λ i. (g.frames_are i, g.offset_is i) in
        let C : Place × State → Type 0 = λ x. P x.0 x.1 in
        let both : ◌≡◌ {A = Place × State} (place_of_next g.next, t) (q, u) = λ i. (place i, sym state i) in
        subst C both (all g.index g.next found)

    sound_where : ((q : Place) (u : State) → GivesState s p a q u → IsMet family (L q) q u) → IsSoundAt s family L p a
    sound_where closed = record {
      stored = stored;
      safe = λ r x. let no_such : Ok (nexts_of p.0 ways (abstract_of t)) ≡ Err r = sym result ∙ x.refused in absurd (cc);
      closed = closed;
    }

    passed_covered : (carried : Option ℕ) → carried ≡ None → AreCovered family (nexts_of p.0 ways (abstract_of t)) t → IsPassed s family L p a carried t
    passed_covered carried none covered = record {
      sound = sound_where (λ q u g. inl (at_given (λ q u. CoversAt state_order family q u) covered q u g));
      closed = λ e q u g. at_given (λ q u. CoversAt state_order family q u) covered q u g;
      added = λ o e. absurd (cc);
    }

    met_where : (q : Place) (u : State) → IsMet family (IsAfter p.0 after q) q u → IsMet family (L q) q u
    met_where q u (inl covered) = inl covered
    met_where q u (inr (none, may)) = inr (none, (same_places q).0 may)

    passed_added : (carried : Option ℕ) → carried ≡ after → AreMet family (IsAfter p.0 after) (nexts_of p.0 ways (abstract_of t)) t → IsLeftOut family p.0 after (nexts_of p.0 ways (abstract_of t))
        → IsPassed s family L p a carried t
    passed_added carried is met out = record {
      sound = sound_where (λ q u g. met_where q u (at_given (λ q u. IsMet family (IsAfter p.0 after q) q u) met q u g));
      closed = λ e q u g. let no_such : None ≡ Some (place_of_next out.next).1 = sym e ∙ is ∙ out.just_after.1 in absurd (cc);
      added = λ o e.
          let both : Some o ≡ Some (place_of_next out.next).1 = sym e ∙ is ∙ out.just_after.1 in
          let offset : o ≡ (place_of_next out.next).1 = cc in
          let place : ◌≡◌ {A = Place} (place_of_next out.next) (p.0, o) = λ i. (out.just_after.0 i, sym offset i) in
          let given : GivesState s p a (place_of_next out.next) t = record {
            running = running;
            nexts = nexts_of p.0 ways (abstract_of t);
            result = result;
            index = out.index;
            next = out.next;
            found = out.found;
            frames_are = refl;
            offset_is = refl;
            state_is = same_states p.0 ways (abstract_of t) out.index out.next out.found;
            in_range = in_range;
          } in
          let C : Place → Type 0 = λ x. GivesState s p a x t × (family x ≡ None) × L x in
          let (gives, none, may) = subst C place (given, out.none, (same_places (place_of_next out.next)).0 out.just_after) in
          record { gives = gives; none = none; may = may };
    }

    pub passed_here : (next : Option (ℕ × ℕ × Bor State)) (m : Coverage) (carried : Option ℕ) → ((m ≡ coverage.Added → ⊥) → carried ≡ None) → (m ≡ coverage.Added → carried ≡ after)
        → AreMetBy family p.0 after next (nexts_of p.0 ways (abstract_of t)) t m → IsPassed s family L p a carried t
    passed_here next coverage.Next carried none is (covered, same) = passed_covered carried (none (λ e. cc)) covered
    passed_here next coverage.Listed carried none is covered = passed_covered carried (none (λ e. cc)) covered
    passed_here next coverage.Added carried none is (met, out) = passed_added carried (is refl) met out

    gap_where : (q : Place) (u : State) (r : Reason) → IsGap family (IsAfter p.0 after q) q u r → IsGap family (L q) q u r
    gap_where q u r gap = gap_same family (IsAfter p.0 after q) (L q) q u (same_places q).1 r gap

    pub broken_here : (fault : Refusal) → Names (IsFirstGap family (IsAfter p.0 after) (nexts_of p.0 ways (abstract_of t)) t) fault → Names (BreaksAt s family L p a) fault
    broken_here (Refused spot offset failed) (q, e, f, first) = (
      q,
      e,
      f,
      leaves q (reason_of failed) stored (record {
        running = running;
        nexts = nexts_of p.0 ways (abstract_of t);
        result = result;
        state = t;
        in_range = in_range;
        same = same_states p.0 ways (abstract_of t);
        first = record {
          index = first.index;
          here = record { next = first.here.next; found = first.here.found; place = first.here.place; gap = gap_where q t (reason_of failed) first.here.gap };
          before = λ i n lt at. met_where (place_of_next n) t (first.before i n lt at);
        };
      }),
    )
    broken_here (Exhausted by) h = tt

  pub refused_here : IsStoredWithin s a → is_main_end s p.0 p.1 ≡ false → (fault : Refusal) (e : StepFault) → p.1 < 2 ^ 32 → fault ≡ refusal_at (spot_of p.0) p.1 e
      → ForReason e (λ r. outcome_on_cells s p.0 p.1 (abstract_of a) ≡ Err r) → Names (BreaksAt s family L p a) fault
  refused_here stored running fault (step.Refused failed) within is h =
      let offset : p.1 ≡ saturated_offset p.1 = omega arith in
      let N : Refusal → Type 0 = λ x. Names (BreaksAt s family L p a) x in
      subst N (sym is) (p, refl, offset, refused (reason_of failed) stored (record { running = running; refused = h }))
  refused_here stored running fault (step.OutOfMemory m) within is h = let N : Refusal → Type 0 = λ x. Names (BreaksAt s family L p a) x in subst N (sym is) tt

-- frames that were turned round twice
pub frames_back : (xs ys zs : List Frame) → xs ≡ ys → ys ≡ reverse zs → reverse xs ≡ zs
frames_back xs ys zs e f = ap reverse (e ∙ f) ∙ reverse-reverse zs

module _ (s : Setting) (fs gs : List Frame) (o o' : ℕ) (a a' : State) (frames : gs ≡ fs) (offset : o' ≡ o) (state : a' ≡ a) where
  all_three : ◌≡◌ {A = List Frame × ℕ × State} (gs, o', a') (fs, o, a)
  all_three = λ i. (frames i, offset i, state i)

  pub outcome_moved : (ways : Moves) (t : State) → outcome_on_cells s gs o' (abstract_of a') ≡ Ok (nexts_of gs ways (abstract_of t))
      → outcome_on_cells s fs o (abstract_of a) ≡ Ok (nexts_of fs ways (abstract_of t))
  outcome_moved ways t h =
      let P : List Frame × ℕ × State → Type 0 = λ x. outcome_on_cells s x.0 x.1 (abstract_of x.2) ≡ Ok (nexts_of x.0 ways (abstract_of t)) in
      subst P all_three h

  pub refusal_moved : (r : Reason) → outcome_on_cells s gs o' (abstract_of a') ≡ Err r → outcome_on_cells s fs o (abstract_of a) ≡ Err r
  refusal_moved r h =
      let P : List Frame × ℕ × State → Type 0 = λ x. outcome_on_cells s x.0 x.1 (abstract_of x.2) ≡ Err r in
      subst P all_three h
