-- What the steps of a state that is carried on leave of the finder's solver, and what justifies its refusals.
use Rattle.std.specs.Prelude.{◌≡◌, ◌≢◌, ◌⊎◌, ℕ, ◌+◌, ◌≤◌, ◌<◌, Bool, true, false, cond, Option, Some, None, List, [], ◌∷◌, ◌++◌, length}
use Rattle.std.specs.BTreeSet.{BTreeSet}
use Rattle.std.proofs.Common.{refl, sym, ◌∙◌, ap, subst, arith, inl, inr, length-append}
use Rattle.std.proofs.Math.ListN.{get_or-append}
use Rattle.std.proofs.Math.Seq.{get_or-append_seam}
use Rattle.std.proofs.lemmas.Bool.{cases_Bool, cases_lt}
use Rattle.tt_code.specs.Settings.{Setting, is_main_end}
use Rattle.tt_code.specs.declared.machine.Frame.{Frame}
use Rattle.tt_code.specs.declared.reason.Reason.{Reason}
use Rattle.tt_code.specs.declared.reason.Reason.TheVariants.{DepthMismatch, TooManyContexts}
use Rattle.tt_setting.specs.Refusals.{reason_of}
use Rattle.tt_setting.specs.Refusals.{ForReason}
use Rattle.tt_setting.specs.Refusals.{refusal_at}
use Rattle.tt_setting.specs.declared.step_fault.StepFault.{StepFault}
use Rattle.tt_setting.specs.declared.step_fault.StepFault.TheVariants as step
use Rattle.tt_setting.specs.declared.failed.Failed.{Failed}
use Rattle.tt_abs.specs.declared.moves.Moves.{Moves}
use Rattle.tt_abs.specs.declared.state.State.{State}
use Rattle.tt_abs.proofs.FamilyLaws.{derived_height, derived_is}
use Rattle.tt_setting.proofs.RefusalLemmas.{failed_reason}
use Rattle.tt_abs.specs.Lines.{Precedes}
use Rattle.tt_abs.specs.StateFlow.{IsPlace, Place, flow_of, height_of}
use Rattle.tt_abs.specs.States.{state_laws, state_order}
use Rattle.tt_abs.proofs.LineLaws.{precedes_no_start, precedes_one}
use Rattle.tt_family.specs.Checks.{point_key_of}
use Rattle.tt_family.specs.Contents.{AddsContext, Contents, HasContext, IsFamily, family_of, frames_at, number_of, refusal_in}
use Rattle.tt_family.specs.Numbers.{at-number_of, number_of-place}
use Rattle.tt_family.specs.Places.{PutGives, PutsAt, has_point, states_of}
use Rattle.tt_family.specs.Joins.{TellsOtherDepth}
use Rattle.tt_family.specs.Puts.{family_at, family_state, number_at, place_of}
use Rattle.tt_setting.specs.Spots.{spot_of}
use Rattle.tt_setting.specs.declared.spot.Spot.{Spot}
use Rattle.tt_family.proofs.Puts.{cases_place}
use Rattle.tt_setting.specs.declared.refusal.Refusal.{Refusal}
use Rattle.tt_setting.specs.declared.refusal.Refusal.TheVariants.{Refused, Exhausted}
use Rattle.tt_find.specs.Representation.OffsetMarks.{SetsMark, mark_of}
use Rattle.tt_find.specs.declared.marks.Mark.TheVariants.{Kept, Passed}
use Rattle.tt_find.specs.declared.marks.OffsetMarks.{OffsetMarks}
use Rattle.tt_find.specs.declared.approach.Approach.{Approach}
use Rattle.tt_find.specs.declared.stop.Stop.{Stop}
use Rattle.tt_find.specs.declared.stop.Stop.TheVariants.{Fault, Restart}
use Rattle.tt_find.specs.declared.solver.Solver.{Solver}
use Rattle.tt_find.specs.Found.{AreDerivedContexts, IsDerived, IsJustified, IsNeeded, NamesPlace, NamesStop, refused, apart, too_many}
use Rattle.tt_find.specs.Representation.Solvers.{ArePoints, AreVisits, ComesFrom, HasLaws, HasRisen, IsAmong, IsApart, IsApartAt, IsCarriedOn, IsCountable, IsLeading, IsListed, IsOnWay, IsPassed, IsPopped, IsPut, IsRefusedAt, IsSound, IsStored, IsSoundSoFar, IsWhole, IsWithinBudget, KeepsRest, MayLead, NamesApart, Pends, PendsFrom, SparesAt, places_from, updates_of}
use Rattle.tt_find.proofs.Budget.{budget_put, budget_same, room_for, updates_fit}
use Rattle.tt_find.proofs.Listed.{cases_source, listed_back, listed_before, listed_grown, listed_now, listed_on, there_now}
use Rattle.tt_find.proofs.Marking.{kept_here, kept_passed, kept_put, kept_state, none_kept}
use Rattle.tt_find.proofs.Points.{family_kept, frames_stay, key_kept, same_or_apart, slot_elsewhere, slot_here, solver_grown, solver_opened, solver_popped, solver_put, waits_back, waits_here, waits_on, with_slot}
use Rattle.tt_find.proofs.Sound.{gives_same, sound_passed, stays}
use Rattle.tt_find.proofs.Visits.{more_elsewhere, more_here, more_ascends, one_more, points_more, points_same, visits_changed, visits_passed, visits_same}
use Rattle.tt_find.proofs.Waits.{point_behind, point_here}
use Rattle.tt_find.proofs.Ways.{end_gives, end_safe, ways_give, ways_safe}

pub names_map : (A B : Place → Reason → Type 0) → ((p : Place) (r : Reason) → A p r → B p r) → (fault : Refusal) → NamesPlace A fault → NamesPlace B fault
names_map A B turn (Refused spot offset failed) (p, e, f, h) = (p, e, f, turn p (reason_of failed) h)
names_map A B turn (Exhausted by) h = tt

pub stop_map : (A B : Place → Reason → Type 0) (everywhere everywhere' : Bool) → everywhere ≡ everywhere' → ((p : Place) (r : Reason) → A p r → B p r) → (stop : Stop)
    → NamesStop A everywhere stop → NamesStop B everywhere' stop
stop_map A B everywhere everywhere' same turn (Fault fault) h = names_map A B turn fault h
stop_map A B everywhere everywhere' same turn Restart h = sym same ∙ h

-- a fault that is at a place
pub names_at : (Is : Place → Reason → Type 0) (p : Place) (failed : Failed) (fault : Refusal) → fault ≡ Refused (spot_of p.0) p.1 failed → Is p (reason_of failed) → NamesPlace Is fault
names_at Is p failed fault e h = let N : Refusal → Type 0 = λ x. NamesPlace Is x in subst N (sym e) (p, refl, refl, h)

-- the refusal of a step at a place names that place, and the reason of the test that fails
pub refused_names : (Is : Place → Reason → Type 0) (p : Place) (e : StepFault) (fault : Refusal) → fault ≡ refusal_at (spot_of p.0) p.1 e → ForReason e (Is p) → NamesPlace Is fault
refused_names Is p (step.Refused failed) fault is h = names_at Is p failed fault is h
refused_names Is p (step.OutOfMemory m) fault is h = let N : Refusal → Type 0 = λ x. NamesPlace Is x in subst N (sym is) tt

-- a state that isn't put has another depth than the one at its point
pub apart_names : (v : Contents) (c off : ℕ) (t : State) (e : StepFault) (fault : Refusal) → fault ≡ refusal_in v c off e → TellsOtherDepth (family_state v c off) t e → NamesApart v c off t fault
apart_names v c off t e fault is told =
    refused_names (IsApartAt v c off t) (place_of v c off) e fault is
    (failed_reason e _ (IsApartAt v c off t (place_of v c off)) (λ failed h.
    let (depth, (s, at, differs)) = h in record { place = refl; reason = ap reason_of depth; state = s; found = at; apart = differs }) told)

-- a state that is put makes at most one update
pub stored_updates : (old new : Solver) (context offset : ℕ) (a : State) (source : Approach) → IsStored old new context offset a source → updates_of new ≤ updates_of old + 1
stored_updates old new context offset a source stored = go stored.put.changed stored.put.changes where
  go : (changed : Bool) → new.changes ≡ old.changes + cond changed 1 0 → updates_of new ≤ updates_of old + 1
  go true e = let p = stored.passes in omega arith
  go false e = let p = stored.passes in omega arith

-- a state that goes over a point makes one update
pub passed_updates : (old new : Solver) (spot : Spot) (offset : ℕ) → IsPassed old new spot offset → updates_of new ≤ updates_of old + 1
passed_updates old new spot offset passed =
    let e : new.changes ≡ old.changes = ap (λ (x : Solver). x.changes) passed.same in
    let p = passed.passes in
    omega arith

pub risen_on : (a b c : Solver) → HasRisen a b → HasRisen b c → HasRisen a c
risen_on a b c h k =
    let m = h.worklist in
    let m' = k.worklist in
    let u = h.changes in
    let u' = k.changes in
    record { worklist = omega arith; changes = omega arith }

-- what is put of two ways
pends_swap : (q r : Place) (qs : List Place) (t : State) (p : Place) (u : State) → Pends (q ∷ r ∷ qs) t p u → Pends (r ∷ q ∷ qs) t p u
pends_swap q r qs t p u h = elim h [
  | inl first ↦ inr (inl first)
  | inr rest ↦ elim rest [ inl second ↦ inl second | inr more ↦ inr (inr more) ]
]

module _ (s : Setting) (functions : List (ℕ × ℕ)) (laws : HasLaws s functions) where
  -- The first of the points that wait is taken out.

  module _ (solver : Solver) (c off : ℕ) (rest : List (ℕ × ℕ)) (whole : IsWhole s functions solver) (is : solver.worklist ≡ (c, off) ∷ rest) where
    has_at : (k : ℕ × ℕ) → has_point solver.worklist k ≡ has_point ((c, off) ∷ rest) k
    has_at k = ap (λ (x : List (ℕ × ℕ)). has_point x k) is

    waited : has_point solver.worklist (c, off) ≡ true
    waited = has_at (c, off) ∙ point_here (c, off) rest

    pub held_first : (a : State) × (states_of solver.builder.states (c, off) ≡ Some a)
    held_first = whole.kept.held c off waited

    pub there_first : c < length solver.builder.contexts
    there_first = let (a, at) = held_first in whole.kept.family.held c off a at

    waited_there : IsAmong solver.builder solver.worklist (place_of solver.builder c off)
    waited_there = ap (has_point solver.worklist) (λ i. (number_at solver.builder c whole.kept.family there_first i, off)) ∙ waited

    waited_still : (k : ℕ × ℕ) → has_point rest k ≡ true → has_point solver.worklist k ≡ true
    waited_still k m = elim (cases_place k (c, off)) [
      | inl same ↦ ap (has_point solver.worklist) same ∙ waited
      | inr other ↦ has_at k ∙ point_behind (c, off) k rest other ∙ m
    ]

    waited_before : (q : Place) → IsAmong solver.builder rest q ⊎ (q ≡ place_of solver.builder c off) → IsAmong solver.builder solver.worklist q ⊎ ⊥
    waited_before q w = elim w [
      | inl hit ↦ inl (waited_still (point_key_of solver.builder q) hit)
      | inr same ↦ let W : Place → Type 0 = λ x. IsAmong solver.builder solver.worklist x in inl (subst W (sym same) waited_there)
    ]

    pub popped_left : has_point rest (c, off) ≡ false → IsPopped s functions (record solver { worklist = rest }) c off
    popped_left first = record {
      sound = record {
        filled = whole.filled;
        kept = solver_popped state_order (flow_of s functions) state_laws solver.builder solver.worklist rest whole.filled (MayLead s solver.builder solver.spare.keys) c off whole.kept is;
        marks = whole.marks;
        start = whole.start;
        needed = whole.needed;
        budget = whole.budget;
        visits = whole.visits;
        visited = visits_same s (height_of s) (family_of solver.builder) (family_of solver.builder) whole.filled whole.filled (λ q. IsAmong solver.builder solver.worklist q ⊎ ⊥)
            (λ q. IsAmong solver.builder rest q ⊎ (q ≡ place_of solver.builder c off)) whole.visits whole.visited (λ _. refl) (λ _. refl) waited_before;
        points = whole.points;
        counted = whole.counted;
      };
      state = held_first.0;
      kept = held_first.1;
      apart = first;
    }

  -- its state is carried on from there
  pub way_begins : (solver : Solver) (c off : ℕ) (a : State) → IsPopped s functions solver c off → states_of solver.builder.states (c, off) ≡ Some a
      → IsOnWay s functions solver (place_of solver.builder c off) a
  way_begins solver c off a popped at =
      let family = popped.sound.kept.family in
      let lt : c < length solver.builder.contexts = family.held c off a at in
      record {
        sound = popped.sound;
        here = kept_state solver.marks (family_of solver.builder) popped.sound.filled (place_of solver.builder c off) a popped.sound.marks (family_at solver.builder c off family lt ∙ at);
        apart = λ hit.
            let no_such : true ≡ false = sym hit ∙ ap (has_point solver.worklist) (λ i. (number_at solver.builder c family lt i, off)) ∙ popped.apart in
            cc;
      }

  -- The state on the way is carried on.

  -- it is at the main program's end
  pub way_ends : (solver : Solver) (p : Place) (a : State) → IsOnWay s functions solver p a → is_main_end s p.0 p.1 ≡ true → IsWhole s functions solver
  way_ends solver p a way ends =
      let sound = way.sound in
      record {
        filled = sound.filled;
        kept = solver_opened state_order (flow_of s functions) state_laws solver.builder solver.worklist sound.filled (MayLead s solver.builder solver.spare.keys) p a (λ _ _ _. ⊥) sound.kept way.here
            (end_safe s p a ends) (λ q t g. (end_gives s p a ends q t).1 g) (λ _ _ _ never. absurd never);
        marks = sound.marks;
        start = sound.start;
        needed = sound.needed;
        budget = sound.budget;
        visits = sound.visits;
        visited = visits_same s (height_of s) (family_of solver.builder) (family_of solver.builder) sound.filled sound.filled (λ q. IsAmong solver.builder solver.worklist q ⊎ (q ≡ p))
            (λ q. IsAmong solver.builder solver.worklist q ⊎ ⊥) sound.visits sound.visited (λ _. refl) (λ _. refl) (λ q w. elim w [ inl hit ↦ inl hit | inr never ↦ absurd never ]);
        points = sound.points;
        counted = sound.counted;
      }

  -- it leads on
  pub way_leads : (solver : Solver) (p : Place) (a : State) (ways : Moves) (end : ℕ) (t : State) → IsOnWay s functions solver p a → IsCarriedOn s p a ways end t
      → IsLeading s functions solver p (places_from p.0 ways 0) t
  way_leads solver p a ways end t way on =
      let sound = way.sound in
      let give = ways_give s p a ways t on.running on.result on.in_range in
      record {
        state = a;
        derived = sound.kept.sound.derived p a way.here;
        gives = λ q u h. (give q u).0 h;
        sound = record {
          filled = sound.filled;
          kept = solver_opened state_order (flow_of s functions) state_laws solver.builder solver.worklist sound.filled (MayLead s solver.builder solver.spare.keys) p a (PendsFrom p (places_from p.0 ways 0) t)
              sound.kept way.here (ways_safe s p a ways t on.running on.result on.in_range) (λ q u g. (refl, (give q u).1 g)) (λ r q u h. (give q u).0 h.1);
          marks = sound.marks;
          start = sound.start;
          needed = sound.needed;
          budget = sound.budget;
          visits = sound.visits;
          visited = visits_same s (height_of s) (family_of solver.builder) (family_of solver.builder) sound.filled sound.filled (λ q. IsAmong solver.builder solver.worklist q ⊎ (q ≡ p))
              (λ q. IsAmong solver.builder solver.worklist q ⊎ ⊥) sound.visits sound.visited (λ _. refl) (λ _. refl) (λ q w. elim w [ inl hit ↦ inl hit | inr never ↦ absurd never ]);
          points = sound.points;
          counted = sound.counted;
        };
        here = λ _. way.here;
        ahead = λ q just none. sound.visited.ahead p q just none (inr refl);
        twice = λ hit. absurd (way.apart hit);
      }

  -- nothing is left to be put
  pub leading_ends : (solver : Solver) (p : Place) (t : State) → IsLeading s functions solver p [] t → IsWhole s functions solver
  leading_ends solver p t leading =
      let sound = leading.sound in
      record {
        filled = sound.filled;
        kept = record {
          family = sound.kept.family;
          entered = sound.kept.entered;
          held = sound.kept.held;
          sound = record {
            derived = sound.kept.sound.derived;
            rest_derived = λ _ _ _ never. absurd never;
            start = sound.kept.sound.start;
            safe = sound.kept.sound.safe;
            closed = λ p' a q u at free gives. elim (sound.kept.sound.closed p' a q u at free gives) [ inl covered ↦ inl covered | inr rest ↦ absurd rest.1 ];
          };
        };
        marks = sound.marks;
        start = sound.start;
        needed = sound.needed;
        budget = sound.budget;
        visits = sound.visits;
        visited = sound.visited;
        points = sound.points;
        counted = sound.counted;
      }

  -- the other of two ways may come first
  pub leading_swap : (solver : Solver) (p q r : Place) (qs : List Place) (t : State) → IsLeading s functions solver p (q ∷ r ∷ qs) t → IsLeading s functions solver p (r ∷ q ∷ qs) t
  leading_swap solver p q r qs t leading =
      let sound = leading.sound in
      record {
        state = leading.state;
        derived = leading.derived;
        gives = λ x u h. leading.gives x u (pends_swap r q qs t x u h);
        sound = record {
          filled = sound.filled;
          kept = record {
            family = sound.kept.family;
            entered = sound.kept.entered;
            held = sound.kept.held;
            sound = record {
              derived = sound.kept.sound.derived;
              rest_derived = λ from x u h. sound.kept.sound.rest_derived from x u (h.0, pends_swap r q qs t x u h.1);
              start = sound.kept.sound.start;
              safe = sound.kept.sound.safe;
              closed = λ p' a x u at free gives. elim (sound.kept.sound.closed p' a x u at free gives) [ inl covered ↦ inl covered | inr rest ↦ inr (rest.0, pends_swap q r qs t x u rest.1) ];
            };
          };
          marks = sound.marks;
          start = sound.start;
          needed = sound.needed;
          budget = sound.budget;
          visits = sound.visits;
          visited = sound.visited;
          points = sound.points;
          counted = sound.counted;
        };
        here = leading.here;
        ahead = leading.ahead;
        twice = leading.twice;
      }

  -- The state was put at the first of the places.

  module _ (old new : Solver) (p : Place) (c off : ℕ) (t : State) (qs : List Place) (source : Approach) (leading : IsLeading s functions old p (place_of old.builder c off ∷ qs) t)
      (lt : c < length old.builder.contexts) (stored : IsStored old new c off t source) (comes : ComesFrom s p (place_of old.builder c off) source) where
    abbrev Q : Place
    Q = place_of old.builder c off

    abbrev filled : Place → Option State
    filled = leading.sound.filled

    abbrev slot : Option State
    slot = family_of new.builder (place_of old.builder c off)

    abbrev filled' : Place → Option State
    filled' = with_slot leading.sound.filled (place_of old.builder c off) (family_of new.builder (place_of old.builder c off))

    family_v : IsFamily old.builder
    family_v = leading.sound.kept.family

    derived_q : IsDerived s functions Q t
    derived_q = leading.sound.kept.sound.rest_derived p Q t (refl, inl (refl, refl))

    kept_q : family_of old.builder Q ≡ filled Q
    kept_q = kept_here old.marks (family_of old.builder) filled Q leading.sound.marks stored.fresh

    filled_here : filled' Q ≡ slot
    filled_here = slot_here filled Q slot

    filled_else : (r : Place) → r ≢ Q → filled' r ≡ filled r
    filled_else r other = slot_elsewhere filled Q slot r other

    fills : PutsAt state_order filled filled' Q t stored.put.changed
    fills =
        let G : Option State × Option State → Type 0 = λ x. PutGives state_order x.0 t x.1 stored.put.changed in
        let both : ◌≡◌ {A = Option State × Option State} (family_of old.builder Q, slot) (filled Q, filled' Q) = λ i. (kept_q i, sym filled_here i) in
        record { here = subst G both stored.put.put.here; elsewhere = filled_else }

    back : (r : Place) → IsAmong new.builder new.worklist r → IsAmong old.builder old.worklist r ⊎ ((r ≡ Q) × (stored.put.changed ≡ true))
    back = waits_back state_order (flow_of s functions) old.builder new.builder old.worklist new.worklist c off stored.put.changed stored.put.contexts stored.put.worklist family_v lt
        (λ a b m. let (x, at) = leading.sound.kept.held a b m in family_v.held a b x at)

    on : (r : Place) → IsAmong old.builder old.worklist r → IsAmong new.builder new.worklist r
    on = waits_on state_order (flow_of s functions) old.builder new.builder old.worklist new.worklist c off stored.put.changed stored.put.contexts stored.put.worklist family_v lt

    on_here : stored.put.changed ≡ true → IsAmong new.builder new.worklist Q
    on_here = waits_here state_order (flow_of s functions) old.builder new.builder old.worklist new.worklist c off stored.put.changed stored.put.contexts stored.put.worklist family_v lt

    leads : (a b : Place) → MayLead s old.builder old.spare.keys a b → MayLead s new.builder new.spare.keys a b
    leads a b may = elim may [
      | inl just ↦ inl just
      | inr listed ↦ inr (listed_on old.builder new.builder old.spare.keys new.spare.keys c off t stored.put.changed source family_v lt stored.put.contexts stored.put.put stored.spare b listed)
    ]

    leads_here : MayLead s new.builder new.spare.keys p Q
    leads_here = elim (cases_source source) [
      | inl before ↦ inl (comes.0 before)
      | inr away ↦ inr (listed_now old.builder new.builder old.spare.keys new.spare.keys c off t stored.put.changed source family_v lt stored.put.contexts stored.put.put stored.spare away)
    ]

    needed_now : (r : Place) → IsListed new.builder new.spare.keys r → IsNeeded s functions r
    needed_now r listed =
        elim (listed_back old.builder new.builder old.spare.keys new.spare.keys c off t stored.put.changed source family_v lt stored.put.contexts stored.put.put stored.spare r listed) [
          | inl old' ↦ leading.sound.needed r old'
          | inr (same, away) ↦
              let N : Place → Type 0 = λ x. IsNeeded s functions x in
              subst N (sym same) (inr (record {
                from = p;
                state = leading.state;
                given = t;
                derived = leading.derived;
                gives = leading.gives Q t (inl (refl, refl));
                elsewhere = comes.1 away;
              }))
        ]

    kept_now : IsSoundSoFar state_order (flow_of s functions) new.builder new.worklist filled' (MayLead s new.builder new.spare.keys) (λ _. ⊥) (PendsFrom p qs t)
    kept_now = solver_put state_order (flow_of s functions) state_laws old.builder new.builder old.worklist new.worklist filled filled' (MayLead s old.builder old.spare.keys) (MayLead s new.builder new.spare.keys)
        c off t stored.put.changed (PendsFrom p (Q ∷ qs) t) (PendsFrom p qs t) leading.sound.kept lt stored.put.put fills stored.put.contexts stored.put.family stored.put.worklist derived_q
        (λ a r u h. elim h.1 [
          | inl now ↦ let M : Place → Type 0 = λ x. MayLead s new.builder new.spare.keys x Q in inr (now.0, now.1, subst M (sym h.0) leads_here)
          | inr later ↦ inl (h.0, later)
        ])
        (λ a r u h. (h.0, inr h.1)) leads

    low : state_order.left t ≤ height_of s
    low = derived_height state_order (flow_of s functions) (height_of s) laws.flow Q t derived_q

    ranged : (r : Place) (a : State) → family_of old.builder r ≡ Some a → state_order.InRange a
    ranged r a at =
        (derived_is state_order (flow_of s functions) (height_of s) laws.flow r a
        (leading.sound.kept.sound.derived r a (kept_state old.marks (family_of old.builder) filled r a leading.sound.marks at))).in_range

    -- with new counts of visits
    made : (visits : Place → ℕ) (points : List Place) → AreVisits s (height_of s) (family_of new.builder) filled' (λ r. IsAmong new.builder new.worklist r ⊎ ⊥) visits
        → ArePoints filled' visits points (new.changes + new.passes) → ((r : Place) → Precedes s p r → family_of new.builder r ≡ None → visits r + 1 ≤ visits p)
        → (IsAmong new.builder new.worklist p → (r : Place) → Precedes s p r → family_of new.builder r ≡ None → visits r + 2 ≤ visits p) → IsLeading s functions new p qs t
    made visits points visited counted ahead twice = record {
      state = leading.state;
      derived = leading.derived;
      gives = λ x u h. leading.gives x u (inr h);
      sound = record {
        filled = filled';
        kept = kept_now;
        marks = kept_put old.marks new.marks (family_of old.builder) (family_of new.builder) filled Q leading.sound.marks stored.marks stored.fresh stored.put.put.elsewhere;
        start = listed_on old.builder new.builder old.spare.keys new.spare.keys c off t stored.put.changed source family_v lt stored.put.contexts stored.put.put stored.spare ([], 0) leading.sound.start;
        needed = needed_now;
        budget = let B : ℕ → Type 0 = λ n. IsWithinBudget state_order (height_of s) new.builder n in
            subst B (sym stored.put.changes) (budget_put state_order state_laws (height_of s) old.builder new.builder c off t old.changes stored.put.changed ranged low leading.sound.budget stored.put.put stored.put.sums);
        visits = visits;
        visited = visited;
        points = points;
        counted = counted;
      };
      here = λ free.
          stays state_order state_laws (flow_of s functions) same_or_apart filled filled' (λ r. IsAmong new.builder new.worklist r) Q t stored.put.changed fills on_here p free
          ∙ leading.here (λ hit. free (on p hit));
      ahead = ahead;
      twice = twice;
    }

    made_changed : stored.put.changed ≡ true → IsLeading s functions new p qs t
    made_changed is =
        let visits = leading.sound.visits in
        let P : Bool → Type 0 = λ b. PutsAt state_order (family_of old.builder) (family_of new.builder) Q t b in
        let (u, at) = there_now old.builder new.builder old.spare.keys new.spare.keys c off t stored.put.changed source family_v lt stored.put.contexts stored.put.put stored.spare in
        let (points, counted) = points_more filled filled' visits leading.sound.points (old.changes + old.passes) Q u leading.sound.counted (filled_here ∙ at) filled_else in
        let one : ◌≡◌ {A = ℕ} (cond stored.put.changed 1 0) 1 = ap (λ (b : Bool). cond {A = ℕ} b 1 0) is in
        let changes = stored.put.changes in
        let passes = stored.passes in
        let count : old.changes + old.passes + 1 ≡ new.changes + new.passes = omega arith in
        let A : ℕ → Type 0 = λ n. ArePoints filled' (one_more visits Q) points n in
        let gone : (r : Place) → family_of new.builder r ≡ None → r ≢ Q =
        λ r none same. absurd (let no_such : Some u ≡ None = sym at ∙ ap (family_of new.builder) (sym same) ∙ none in cc) in
        made (one_more visits Q) points
        (visits_changed s (height_of s) (family_of old.builder) (family_of new.builder) filled filled' (λ r. IsAmong old.builder old.worklist r ⊎ ⊥) (λ r. IsAmong new.builder new.worklist r ⊎ ⊥) visits Q t
        leading.sound.visited (subst P is stored.put.put) kept_q filled_here filled_else low (ranged Q)
        (λ r w. elim w [ inl hit ↦ elim (back r hit) [ inl old' ↦ inl (inl old') | inr now ↦ inr now.0 ] | inr never ↦ absurd never ]))
        (subst A count counted)
        (λ r just none.
        let other = gone r none in
        let was = sym (stored.put.put.elsewhere r other) ∙ none in
        let n = leading.ahead r just was in
        let e = more_elsewhere visits Q r other in
        let m = more_ascends visits Q p in
        omega arith)
        (λ hit r just none.
        let other = gone r none in
        let was = sym (stored.put.put.elsewhere r other) ∙ none in
        let e = more_elsewhere visits Q r other in
        elim (back p hit) [
          | inl old' ↦ let n = leading.twice old' r just was in let m = more_ascends visits Q p in omega arith
          | inr now ↦
              let n = leading.ahead r just was in
              let e' = ap (one_more visits Q) now.0 in
              let e'' = ap visits now.0 in
              let m = more_here visits Q in
              omega arith
        ])

    made_same : stored.put.changed ≡ false → IsLeading s functions new p qs t
    made_same is =
        let visits = leading.sound.visits in
        let G : Bool → Type 0 = λ b. PutGives state_order (family_of old.builder Q) t (family_of new.builder Q) b in
        let kept : family_of new.builder Q ≡ family_of old.builder Q = gives_same state_order (family_of old.builder Q) t (family_of new.builder Q) (subst G is stored.put.put.here) in
        let one : ◌≡◌ {A = ℕ} (cond stored.put.changed 1 0) 0 = ap (λ (b : Bool). cond {A = ℕ} b 1 0) is in
        let changes = stored.put.changes in
        let passes = stored.passes in
        let count : old.changes + old.passes ≡ new.changes + new.passes = omega arith in
        let A : ℕ → Type 0 = λ n. ArePoints filled' visits leading.sound.points n in
        made visits leading.sound.points
        (visits_same s (height_of s) (family_of old.builder) (family_of new.builder) filled filled' (λ r. IsAmong old.builder old.worklist r ⊎ ⊥) (λ r. IsAmong new.builder new.worklist r ⊎ ⊥) visits
        leading.sound.visited (stored_is kept) (filled_is kept)
        (λ r w. elim w [ inl hit ↦ elim (back r hit) [ inl old' ↦ inl old' | inr now ↦ absurd (not_changed is now.1) ] | inr never ↦ absurd never ]))
        (subst A count (points_same filled filled' visits leading.sound.points (old.changes + old.passes) leading.sound.counted (filled_is kept)))
        (λ r just none. leading.ahead r just (sym (stored_is kept r) ∙ none))
        (λ hit r just none. elim (back p hit) [
          | inl old' ↦ leading.twice old' r just (sym (stored_is kept r) ∙ none)
          | inr now ↦ absurd (not_changed is now.1)
        ])
      where
        not_changed : stored.put.changed ≡ false → stored.put.changed ≡ true → ⊥
        not_changed e h = let no_such : true ≡ false = sym h ∙ e in cc

        stored_is : family_of new.builder Q ≡ family_of old.builder Q → (r : Place) → family_of new.builder r ≡ family_of old.builder r
        stored_is kept r = elim (same_or_apart r Q) [
          | inl same ↦ ap (family_of new.builder) same ∙ kept ∙ ap (family_of old.builder) (sym same)
          | inr other ↦ stored.put.put.elsewhere r other
        ]

        filled_is : family_of new.builder Q ≡ family_of old.builder Q → (r : Place) → filled' r ≡ filled r
        filled_is kept r = elim (same_or_apart r Q) [
          | inl same ↦ ap filled' same ∙ filled_here ∙ kept ∙ kept_q ∙ ap filled (sym same)
          | inr other ↦ filled_else r other
        ]

    pub leading_put : IsLeading s functions new p qs t
    leading_put = elim (cases_Bool stored.put.changed) [ inl is ↦ made_changed is | inr is ↦ made_same is ]

  -- The state goes over the place just after.

  module _ (old new : Solver) (p : Place) (c off : ℕ) (t : State) (leading : IsLeading s functions old p (place_of old.builder c off ∷ []) t)
      (lt : c < length old.builder.contexts) (passed : IsPassed old new (spot_of (frames_at old.builder.contexts c)) off) (just : Precedes s p (place_of old.builder c off)) where
    abbrev O : Place
    O = place_of old.builder c off

    abbrev over : Place → Option State
    over = leading.sound.filled

    abbrev over' : Place → Option State
    over' = with_slot leading.sound.filled (place_of old.builder c off) (Some t)

    abbrev solver : Solver
    solver = record old { marks = new.marks; passes = new.passes }

    gone : family_of old.builder O ≡ None
    gone = none_kept old.marks (family_of old.builder) over O leading.sound.marks passed.fresh

    here : over' O ≡ Some t
    here = slot_here over O (Some t)

    elsewhere : (r : Place) → r ≢ O → over' r ≡ over r
    elsewhere r other = slot_elsewhere over O (Some t) r other

    derived_over : IsDerived s functions O t
    derived_over = leading.sound.kept.sound.rest_derived p O t (refl, inl (refl, refl))

    not_entry : ◌≢◌ {A = Place} ([], 0) O
    not_entry e = let P : Place → Type 0 = λ x. Precedes s p x in precedes_no_start s p [] (subst P (sym e) just)

    only : (r : Place) → MayLead s old.builder old.spare.keys r O → r ≡ p
    only r may = elim may [
      | inl before ↦ precedes_one s r p O before just
      | inr listed ↦ absurd (let no_such : None ≡ Some listed.state = sym gone ∙ listed.kept in cc)
    ]

    not_waiting : IsAmong old.builder old.worklist O → ⊥
    not_waiting hit =
        let (a, at) = leading.sound.kept.held (number_of old.builder.contexts O.0) off hit in
        let no_such : None ≡ Some a = sym gone ∙ at in cc

    passed_here : IsOnWay s functions solver O t
    passed_here =
        let (points, counted) = points_more over over' leading.sound.visits leading.sound.points (old.changes + old.passes) O t leading.sound.counted here elsewhere in
        let passes = passed.passes in
        let count : old.changes + old.passes + 1 ≡ old.changes + new.passes = omega arith in
        let A : ℕ → Type 0 = λ n. ArePoints over' (one_more leading.sound.visits O) points n in
        record {
          sound = record {
            filled = over';
            kept = record {
              family = leading.sound.kept.family;
              entered = leading.sound.kept.entered;
              held = leading.sound.kept.held;
              sound = sound_passed state_order state_laws (flow_of s functions) same_or_apart over over' (MayLead s old.builder old.spare.keys) (λ r. IsAmong old.builder old.worklist r ⊎ ⊥)
                  (λ r. IsAmong old.builder old.worklist r ⊎ (r ≡ O)) (PendsFrom p (O ∷ []) t) p O leading.state t leading.sound.kept.sound here elsewhere derived_over
                  (λ r x u h. elim h.1 [ inl now ↦ (h.0, now.0, now.1) | inr never ↦ absurd never ]) (inl just) only (leading.gives O t (inl (refl, refl)))
                  (λ u v g g'. laws.flow.one_at p leading.state O u v g g') not_entry (λ free. leading.here (λ hit. free (inl hit)))
                  (λ r w. elim w [ inl hit ↦ inl hit | inr never ↦ absurd never ]) (inr refl);
            };
            marks = kept_passed old.marks new.marks (family_of old.builder) over O (Some t) leading.sound.marks passed.marks passed.fresh;
            start = leading.sound.start;
            needed = leading.sound.needed;
            budget = leading.sound.budget;
            visits = one_more leading.sound.visits O;
            visited = visits_passed s (height_of s) (family_of old.builder) over over' (λ r. IsAmong old.builder old.worklist r ⊎ ⊥) (λ r. IsAmong old.builder old.worklist r ⊎ (r ≡ O))
                leading.sound.visits p O t leading.sound.visited gone here elsewhere just (leading.ahead O just gone)
                (λ w. elim w [ inl hit ↦ leading.twice hit O just gone | inr never ↦ absurd never ])
                (λ r w. elim w [ inl hit ↦ inl (inl hit) | inr same ↦ inr same ]);
            points = points;
            counted = subst A count counted;
          };
          here = here;
          apart = not_waiting;
        }

    pub leading_passed : IsOnWay s functions new (place_of new.builder c off) t
    leading_passed = let W : Solver → Type 0 = λ x. IsOnWay s functions x (place_of x.builder c off) t in subst W (sym passed.same) passed_here

  -- One more context may be there.

  module _ (solver : Solver) (v' : Contents) (p : Place) (frames : List Frame) (number off : ℕ) (t : State) (qs : List Place) (leading : IsLeading s functions solver p ((frames, off) ∷ qs) t)
      (adds : AddsContext solver.builder.contexts v'.contexts frames number) (states : v'.states ≡ solver.builder.states) (family' : IsFamily v') where
    family_old : IsFamily solver.builder
    family_old = leading.sound.kept.family

    same_family : (r : Place) → family_of v' r ≡ family_of solver.builder r
    same_family = family_kept solver.builder v' frames number adds states family_old family'

    waits_later : (r : Place) → IsAmong solver.builder solver.worklist r → IsAmong v' solver.worklist r
    waits_later r hit =
        let (a, at) = leading.sound.kept.held (number_of solver.builder.contexts r.0) r.1 hit in
        ap (has_point solver.worklist) (key_kept solver.builder v' frames number adds states r (family_old.held (number_of solver.builder.contexts r.0) r.1 a at)) ∙ hit

    waits_before : (r : Place) → IsAmong v' solver.worklist r → IsAmong solver.builder solver.worklist r
    waits_before r hit =
        let (a, at) = leading.sound.kept.held (number_of v'.contexts r.0) r.1 hit in
        let old : number_of v'.contexts r.0 < length solver.builder.contexts = family_old.held (number_of v'.contexts r.0) r.1 a at in
        let (stay, there) = frames_stay solver.builder.contexts v'.contexts frames number (number_of v'.contexts r.0) adds old in
        let most = number_of-place solver.builder.contexts r.0 (number_of v'.contexts r.0) old (sym stay ∙ at-number_of v'.contexts r.0 there) in
        ap (has_point solver.worklist) (sym (key_kept solver.builder v' frames number adds states r (omega arith))) ∙ hit

    pub leading_grown : IsLeading s functions (record solver { builder = v' }) p ((frames, off) ∷ qs) t
    leading_grown = record {
      state = leading.state;
      derived = leading.derived;
      gives = leading.gives;
      sound = record {
        filled = leading.sound.filled;
        kept = solver_grown state_order (flow_of s functions) state_laws solver.builder v' solver.worklist leading.sound.filled (MayLead s solver.builder solver.spare.keys) (MayLead s v' solver.spare.keys)
            (PendsFrom p ((frames, off) ∷ qs) t) frames number off t leading.sound.kept adds states family' (leading.sound.kept.sound.rest_derived p (frames, off) t (refl, inl (refl, refl)))
            (λ a b may. elim may [ inl just ↦ inl just | inr listed ↦ inr (listed_grown solver.builder v' solver.spare.keys frames number family_old family' adds states b listed) ]);
        marks = record {
          kept = λ r is. same_family r ∙ leading.sound.marks.kept r is;
          passed = λ r is. same_family r ∙ leading.sound.marks.passed r is;
          free = λ r is. let (a, b) = leading.sound.marks.free r is in (same_family r ∙ a, b);
        };
        start = listed_grown solver.builder v' solver.spare.keys frames number family_old family' adds states ([], 0) leading.sound.start;
        needed = λ r listed. leading.sound.needed r (listed_before solver.builder v' solver.spare.keys frames number family_old family' adds states r listed);
        budget = budget_same state_order state_laws (height_of s) solver.builder v' solver.changes states leading.sound.budget;
        visits = leading.sound.visits;
        visited = visits_same s (height_of s) (family_of solver.builder) (family_of v') leading.sound.filled leading.sound.filled (λ r. IsAmong solver.builder solver.worklist r ⊎ ⊥)
            (λ r. IsAmong v' solver.worklist r ⊎ ⊥) leading.sound.visits leading.sound.visited same_family (λ _. refl)
            (λ r w. elim w [ inl hit ↦ inl (waits_before r hit) | inr never ↦ absurd never ]);
        points = leading.sound.points;
        counted = leading.sound.counted;
      };
      here = λ free. leading.here (λ hit. free (waits_later p hit));
      ahead = λ r just none. leading.ahead r just (sym (same_family r) ∙ none);
      twice = λ hit r just none. leading.twice (waits_before p hit) r just (sym (same_family r) ∙ none);
    }

  -- What the finder's numbers are.

  pub room_left : (solver : Solver) (Here : Place → Type 0) (Rest : Place → Place → State → Type 0) → IsSound s functions solver Here Rest → solver.changes < 18446744073709551615
  room_left solver Here Rest sound = room_for (height_of s) solver.changes laws.height (updates_fit state_order state_laws (height_of s) solver.builder solver.changes sound.kept.family sound.budget)

  -- the numbers of each context's last call are small
  pub countable_left : (solver : Solver) (c : ℕ) (Here : Place → Type 0) (Rest : Place → Place → State → Type 0) → IsSound s functions solver Here Rest → c < length solver.builder.contexts
      → IsCountable solver.builder.contexts c
  countable_left solver c Here Rest sound lt f fs at =
      let (off, a, d) = sound.kept.entered c lt in
      let point : IsPlace (frames_at solver.builder.contexts c, off) = (derived_is state_order (flow_of s functions) (height_of s) laws.flow (frames_at solver.builder.contexts c, off) a d).point in
      let P : List Frame → Type 0 = λ x. IsPlace (x, off) in
      let there : IsPlace (f ∷ fs, off) = subst P at point in
      let frame = there.frames.each.0 in
      let call = there.calls.0 in
      let call_fits = call.1 in
      let within = frame.within in
      let few = frame.countable in
      (omega arith, omega arith)

  -- What justifies refusals.

  -- a derived state that is refused
  pub refused_left : (p : Place) (a : State) → IsDerived s functions p a → (fault : Refusal) → NamesPlace (IsRefusedAt s p a) fault → NamesPlace (IsJustified s functions) fault
  refused_left p a derived fault h =
      names_map (IsRefusedAt s p a) (IsJustified s functions) (λ q r x.
      let J : Place → Type 0 = λ y. IsJustified s functions y r in
      subst J (sym x.place) (refused p a r derived x.refused)) fault h

  -- two derived states that differ in depth
  pub apart_left : (solver : Solver) (p at : Place) (t : State) (qs : List Place) → IsLeading s functions solver p (at ∷ qs) t → (q : Place) (r : Reason) → IsApart (family_of solver.builder) at t q r
      → IsJustified s functions q r
  apart_left solver p at t qs leading q r x =
      let J : Place × Reason → Type 0 = λ y. IsJustified s functions y.0 y.1 in
      let both : ◌≡◌ {A = Place × Reason} (at, DepthMismatch) (q, r) = λ i. (sym x.place i, sym x.reason i) in
      let there = kept_state solver.marks (family_of solver.builder) leading.sound.filled at x.state leading.sound.marks x.found in
      subst J both (apart at x.state t (leading.sound.kept.sound.derived at x.state there) (leading.sound.kept.sound.rest_derived p at t (refl, inl (refl, refl))) x.apart)

  -- one context too many
  derived_contexts : (solver : Solver) (p q : Place) (t : State) (qs : List Place) → IsLeading s functions solver p (q ∷ qs) t → (HasContext solver.builder.contexts q.0 → ⊥)
      → AreDerivedContexts s functions (solver.builder.contexts ++ q.0 ∷ [])
  derived_contexts solver p q t qs leading absent =
      let sound = leading.sound in
      let xs = solver.builder.contexts in
      let y : List Frame = q.0 in
      let d = sound.kept.sound.rest_derived p q t (refl, inl (refl, refl)) in
      let long = length-append xs (y ∷ []) in
      let old = λ (i : ℕ) (lt : i < length xs). get_or-append xs (y ∷ []) [] i lt in
      let last : frames_at (xs ++ y ∷ []) (length xs) ≡ y = get_or-append_seam xs y [] [] in
      let has = λ (i : ℕ) (lt : i < length xs) (at : frames_at xs i ≡ y). absent (let most = number_of-place xs y i lt at in omega arith) in
      record {
        distinct = λ i j li lj same. elim (cases_lt i (length xs)) [
          | inl lt_i ↦ elim (cases_lt j (length xs)) [
            | inl lt_j ↦ sound.kept.family.distinct i j lt_i lt_j (sym (old i lt_i) ∙ same ∙ old j lt_j)
            | inr ge_j ↦
                let j_is : j ≡ length xs = omega arith in
                absurd (has i lt_i (sym (old i lt_i) ∙ same ∙ ap (frames_at (xs ++ y ∷ [])) j_is ∙ last))
          ]
          | inr ge_i ↦
              let i_is : i ≡ length xs = omega arith in
              elim (cases_lt j (length xs)) [
                | inl lt_j ↦ absurd (has j lt_j (sym (old j lt_j) ∙ sym same ∙ ap (frames_at (xs ++ y ∷ [])) i_is ∙ last))
                | inr ge_j ↦ omega arith
              ]
        ];
        derived = λ i lt. elim (cases_lt i (length xs)) [
          | inl lt_i ↦
              let (a, b, da) = sound.kept.entered i lt_i in
              let D : List Frame → Type 0 = λ x. IsDerived s functions (x, a) b in
              (a, b, subst D (sym (old i lt_i)) da)
          | inr ge_i ↦
              let e : length xs ≡ i = omega arith in
              let at : y ≡ frames_at (xs ++ y ∷ []) i = sym last ∙ ap (frames_at (xs ++ y ∷ [])) e in
              let D : List Frame → Type 0 = λ x. IsDerived s functions (x, q.1) t in
              (q.1, t, subst D at d)
        ];
      }

  pub too_many_left : (solver : Solver) (p q : Place) (t : State) (qs : List Place) → IsLeading s functions solver p (q ∷ qs) t → (HasContext solver.builder.contexts q.0 → ⊥) → length solver.builder.contexts ≡ 65535
      → IsJustified s functions p TooManyContexts
  too_many_left solver p q t qs leading absent full =
      let xs = solver.builder.contexts in
      let long = length-append xs (q.0 ∷ []) in
      let last : frames_at (xs ++ q.0 ∷ []) (length xs) ≡ q.0 = get_or-append_seam xs q.0 [] [] in
      too_many p (record {
        contexts = xs ++ q.0 ∷ [];
        derived = derived_contexts solver p q t qs leading absent;
        many = omega arith;
        state = leading.state;
        here = leading.derived;
        next = q;
        next_state = t;
        gives = leading.gives q t (inl (refl, refl));
        into = let most = number_of-place (xs ++ q.0 ∷ []) q.0 (length xs) (omega arith) last in omega arith;
      })

-- a put, after the point's offset was marked
pub stored_from : (old middle new last : Solver) (c off : ℕ) (t : State) (source : Approach) (marks : OffsetMarks) → middle ≡ record old { marks = marks } → IsPut middle new c off t → KeepsRest middle new
    → mark_of old.marks (spot_of (frames_at old.builder.contexts c)) off ≢ Passed → SetsMark old.marks marks (spot_of (frames_at old.builder.contexts c)) off Kept
    → SparesAt new.spare.keys last.spare.keys (c, off) (family_of old.builder (place_of old.builder c off)) source → last ≡ record new { spare = last.spare }
    → IsStored old last c off t source
stored_from old middle new last c off t source marks is put rest fresh sets spares same =
    let from : IsPut (record old { marks = marks }) new c off t = let P : Solver → Type 0 = λ x. IsPut x new c off t in subst P is put in
    let kept : KeepsRest (record old { marks = marks }) new = let P : Solver → Type 0 = λ x. KeepsRest x new in subst P is rest in
    let S : Solver → Type 0 = λ x. IsStored old x c off t source in
    subst S (sym same) (record {
      put = record {
        changed = from.changed;
        put = from.put;
        sums = from.sums;
        contexts = from.contexts;
        family = from.family;
        worklist = from.worklist;
        changes = from.changes;
        risen = record { worklist = from.risen.worklist; changes = from.risen.changes };
      };
      fresh = fresh;
      marks = let M : OffsetMarks → Type 0 = λ x. SetsMark old.marks x (spot_of (frames_at old.builder.contexts c)) off Kept in subst M (sym kept.marks) sets;
      spare =
          let K : List (ℕ × ℕ) → Type 0 = λ x. SparesAt x last.spare.keys (c, off) (family_of old.builder (place_of old.builder c off)) source in
          subst K (ap (λ (x : BTreeSet (ℕ × ℕ)). x.keys) kept.spare) spares;
      passes = kept.passes;
    })
