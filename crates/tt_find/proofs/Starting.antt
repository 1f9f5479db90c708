-- The finder's first solver.
use Rattle.std.specs.Prelude.{◌≡◌, ◌≢◌, ◌⊎◌, ℕ, ◌+◌, ◌<◌, Bool, true, cond, Option, Some, None, List, [], length}
use Rattle.std.proofs.Common.{refl, sym, ◌∙◌, ap, subst, arith, inl, inr}
use Rattle.tt_code.specs.Settings.{Setting}
use Rattle.tt_code.specs.declared.machine.Frame.{Frame}
use Rattle.tt_abs.specs.declared.state.State.{State}
use Rattle.tt_abs.specs.Families.{started}
use Rattle.tt_abs.proofs.FamilyLaws.{derived_height}
use Rattle.tt_abs.specs.StateFlow.{Place, flow_of, height_of}
use Rattle.tt_abs.specs.States.{start_of, state_laws, state_order}
use Rattle.tt_family.specs.Contents.{family_of, frames_at, number_of}
use Rattle.tt_family.specs.Places.{PutGives, PutsAt, has_point, states_of}
use Rattle.tt_family.specs.Puts.{number_at, place_of}
use Rattle.tt_find.specs.declared.approach.Approach.TheVariants.{Elsewhere}
use Rattle.tt_find.specs.declared.solver.Solver.{Solver}
use Rattle.tt_find.specs.Found.{IsDerived}
use Rattle.tt_find.specs.Finders.{IsEmptySolver}
use Rattle.tt_find.specs.Representation.Solvers.{ArePoints, AreKept, AreVisits, HasLaws, IsAmong, IsListed, IsStored, IsWhole, IsWithinBudget}
use Rattle.tt_find.proofs.Budget.{budget_start}
use Rattle.tt_find.proofs.Listed.{listed_now}
use Rattle.tt_find.proofs.Marking.{kept_put}
use Rattle.tt_find.proofs.Points.{same_or_apart, slot_elsewhere, slot_here, waits_back, waits_here, with_slot}
use Rattle.tt_find.proofs.Visits.{one_more, points_more, visits_changed}
use Rattle.tt_find.proofs.Waits.{none_waiting}

-- nothing was seen
no_visits : (s : Setting) (h : ℕ) (family : Place → Option State) → ((p : Place) → family p ≡ None) → AreVisits s h family family (λ _. ⊥) (λ _. 0)
no_visits s h family blank = record {
  seen = λ p a at. absurd (let no_such : None ≡ Some a = sym (blank p) ∙ at in cc);
  unseen = λ p none. refl;
  waits = λ p never. absurd never;
  high = λ p a at. absurd (let no_such : None ≡ Some a = sym (blank p) ∙ at in cc);
  before = λ p a at none. absurd (let no_such : None ≡ Some a = sym none ∙ at in cc);
  follow = λ p q just none. omega arith;
  ahead = λ p q just none never. absurd never;
}

no_points : (family : Place → Option State) → ((p : Place) → family p ≡ None) → ArePoints family (λ _. 0) [] 0
no_points family blank = record {
  exact = record {
    distinct = tt;
    all = λ p a at. absurd (let no_such : None ≡ Some a = sym (blank p) ∙ at in cc);
    only = λ p never. absurd never;
  };
  least = omega arith;
  most = omega arith;
}

module _ (s : Setting) (functions : List (ℕ × ℕ)) (laws : HasLaws s functions) (old new : Solver) (t : State) (start : t ≡ start_of functions) (empty : IsEmptySolver old) (stored : IsStored old new 0 0 t Elsewhere) where
  abbrev Q : Place
  Q = place_of old.builder 0 0

  abbrev slot : Option State
  slot = family_of new.builder (place_of old.builder 0 0)

  abbrev filled : Place → Option State
  filled = with_slot (family_of old.builder) (place_of old.builder 0 0) (family_of new.builder (place_of old.builder 0 0))

  blank : (p : Place) → family_of old.builder p ≡ None
  blank p = ap (λ (x : List ((ℕ × ℕ) × State)). states_of x (number_of old.builder.contexts p.0, p.1)) empty.states

  at_start : Q ≡ ([], 0)
  at_start = λ i. (frames_at (empty.contexts i) 0, 0)

  is_new : (x y : Option State) → x ≡ None → PutGives state_order x t y stored.put.changed → (stored.put.changed ≡ true) × (y ≡ Some t)
  is_new None None e g = absurd g
  is_new None (Some u) e g = (g.1, ap Some g.0)
  is_new (Some a) y e g = absurd (let no_such : Some a ≡ None = e in cc)

  news : (stored.put.changed ≡ true) × (slot ≡ Some t)
  news = is_new (family_of old.builder Q) slot (blank Q) stored.put.put.here

  here : filled Q ≡ Some t
  here = slot_here (family_of old.builder) Q slot ∙ news.1

  elsewhere : (p : Place) → p ≢ Q → filled p ≡ None
  elsewhere p apart = slot_elsewhere (family_of old.builder) Q slot p apart ∙ blank p

  is_start : (p : Place) (a : State) → filled p ≡ Some a → (p ≡ Q) × (a ≡ t)
  is_start p a at = elim (same_or_apart p Q) [
    | inl same ↦ let both : Some t ≡ Some a = sym here ∙ ap filled (sym same) ∙ at in (same, cc)
    | inr apart ↦ absurd (let no_such : None ≡ Some a = sym (elsewhere p apart) ∙ at in cc)
  ]

  some_context : 0 < length old.builder.contexts
  some_context = empty.family.some

  waits : IsAmong new.builder new.worklist Q
  waits = waits_here state_order (flow_of s functions) old.builder new.builder old.worklist new.worklist 0 0 stored.put.changed stored.put.contexts stored.put.worklist empty.family some_context news.0

  none_waits : (a b : ℕ) → has_point old.worklist (a, b) ≡ true → ⊥
  none_waits a b hit = none_waiting old.worklist (a, b) empty.worklist hit

  back : (p : Place) → IsAmong new.builder new.worklist p → p ≡ Q
  back p hit = elim (waits_back state_order (flow_of s functions) old.builder new.builder old.worklist new.worklist 0 0 stored.put.changed stored.put.contexts stored.put.worklist empty.family some_context
      (λ a b m. absurd (none_waits a b m)) p hit) [
        | inl old' ↦ absurd (none_waiting old.worklist _ empty.worklist old')
        | inr now ↦ now.0
      ]

  derived : IsDerived s functions Q t
  derived =
      let D : Place × State → Type 0 = λ x. IsDerived s functions x.0 x.1 in
      let both : ◌≡◌ {A = Place × State} (([], 0), start_of functions) (Q, t) = λ i. (sym at_start i, sym start i) in
      subst D both started

  waits_all : (p : Place) (a : State) → filled p ≡ Some a → (IsAmong new.builder new.worklist p ⊎ ⊥ → ⊥) → ⊥
  waits_all p a at free = let (same, _) = is_start p a at in let W : Place → Type 0 = λ x. IsAmong new.builder new.worklist x in free (inl (subst W (sym same) waits))

  held : (a b : ℕ) → has_point new.worklist (a, b) ≡ true → (u : State) × (states_of new.builder.states (a, b) ≡ Some u)
  held a b hit = elim (stored.put.worklist.back (a, b) hit) [
    | inl old' ↦ absurd (none_waits a b old')
    | inr (now, _) ↦
        let long = ap length stored.put.contexts in
        let n : number_of new.builder.contexts (frames_at old.builder.contexts 0) ≡ 0 =
        (λ i. number_of (stored.put.contexts i) (frames_at old.builder.contexts 0)) ∙ number_at old.builder 0 empty.family some_context in
        (t, ap (states_of new.builder.states) now ∙ ap (λ m. states_of new.builder.states (m, 0)) (sym n) ∙ news.1)
  ]

  pub whole_start : IsWhole s functions new
  whole_start =
      let low = derived_height state_order (flow_of s functions) (height_of s) laws.flow Q t derived in
      let changes = stored.put.changes in
      let passes = stored.passes in
      let none = empty.changes in
      let none' = empty.passes in
      let one : ◌≡◌ {A = ℕ} (cond stored.put.changed 1 0) 1 = ap (λ (b : Bool). cond {A = ℕ} b 1 0) news.0 in
      let count : 0 + 1 ≡ new.changes + new.passes = omega arith in
      let (points, counted) = points_more (family_of old.builder) filled (λ _. 0) [] 0 Q t (no_points (family_of old.builder) blank) here (λ p apart. elsewhere p apart ∙ sym (blank p)) in
      let A : ℕ → Type 0 = λ n. ArePoints filled (one_more (λ _. 0) Q) points n in
      let P : Bool → Type 0 = λ b. PutsAt state_order (family_of old.builder) (family_of new.builder) Q t b in
      let B : ℕ → Type 0 = λ n. IsWithinBudget state_order (height_of s) new.builder n in
      let kept : AreKept old.marks (family_of old.builder) (family_of old.builder) = record { kept = λ p _. refl; passed = λ p _. blank p; free = λ p _. (blank p, blank p) } in
      record {
        filled = filled;
        kept = record {
          family = stored.put.family;
          entered = λ i lt.
              let long = ap length (stored.put.contexts ∙ empty.contexts) in
              let zero_is : i ≡ 0 = omega arith in
              let frames : frames_at old.builder.contexts 0 ≡ frames_at new.builder.contexts i = λ j. frames_at (sym stored.put.contexts j) (sym zero_is j) in
              let D : List Frame → Type 0 = λ x. IsDerived s functions (x, 0) t in
              (0, t, subst D frames derived);
          held = held;
          sound = record {
            derived = λ p a at.
                let (same, is) = is_start p a at in
                let D : Place × State → Type 0 = λ x. IsDerived s functions x.0 x.1 in
                let both : ◌≡◌ {A = Place × State} (Q, t) (p, a) = λ i. (sym same i, sym is i) in
                subst D both derived;
            rest_derived = λ _ _ _ never. absurd never;
            start =
                let B : State → Type 0 = λ x. state_order.Below x t in
                (t, ap filled (sym at_start) ∙ here, subst B start (state_laws.reflexive t));
            safe = λ p a n at free refused. absurd (waits_all p a at free);
            closed = λ p a q u at free given. absurd (waits_all p a at free);
          };
        };
        marks = kept_put old.marks new.marks (family_of old.builder) (family_of new.builder) (family_of old.builder) Q kept stored.marks stored.fresh stored.put.put.elsewhere;
        start =
            let L : Place → Type 0 = λ x. IsListed new.builder new.spare.keys x in
            subst L at_start (listed_now old.builder new.builder old.spare.keys new.spare.keys 0 0 t stored.put.changed Elsewhere empty.family some_context stored.put.contexts stored.put.put stored.spare refl);
        needed = λ q listed. elim (same_or_apart q Q) [
          | inl same ↦ inl (same ∙ at_start)
          | inr apart ↦ absurd (let no_such : None ≡ Some listed.state = sym (stored.put.put.elsewhere q apart ∙ blank q) ∙ listed.kept in cc)
        ];
        budget = subst B (sym (stored.put.changes ∙ ap (λ n. n + cond stored.put.changed 1 0) empty.changes))
            (budget_start state_order state_laws (height_of s) old.builder new.builder t stored.put.changed empty.states low stored.put.put stored.put.sums);
        visits = one_more (λ _. 0) Q;
        visited = visits_changed s (height_of s) (family_of old.builder) (family_of new.builder) (family_of old.builder) filled (λ _. ⊥) (λ p. IsAmong new.builder new.worklist p ⊎ ⊥) (λ _. 0) Q t
            (no_visits s (height_of s) (family_of old.builder) blank) (subst P news.0 stored.put.put) refl (slot_here (family_of old.builder) Q slot)
            (λ p apart. slot_elsewhere (family_of old.builder) Q slot p apart) low (λ a at. absurd (let no_such : None ≡ Some a = sym (blank Q) ∙ at in cc))
            (λ p w. elim w [ inl hit ↦ inr (back p hit) | inr never ↦ absurd never ]);
        points = points;
        counted = subst A count counted;
      }
