-- A family has one good filling at most, and what a walk adds is part of it.
use Rattle.std.specs.Prelude.{◌≡◌, ℕ, zero, suc, ◌+◌, ◌<◌, ◌⊎◌, nat_eq, true, false, List, [], Option, Some, None}
use Rattle.std.proofs.Common.{refl, sym, ◌∙◌, ap, subst, arith, inl, inr}
use Rattle.std.proofs.lemmas.Bool.{eq-eqb}
use Rattle.tt_code.specs.Cut.{size}
use Rattle.tt_code.specs.Settings.{Setting, Kind, FontProgram, CvtProgram, GlyphProgram}
use Rattle.tt_code.specs.declared.reason.Reason.{Reason}
use Rattle.tt_code.specs.declared.reason.Reason.TheVariants.{MissingPoint, NotCovered}
use Rattle.tt_abs.specs.declared.state.State.{State}
use Rattle.tt_abs.specs.Families.{CoversAt, IsGood}
use Rattle.tt_abs.specs.Lines.{Precedes}
use Rattle.tt_abs.specs.StateFlow.{Place, GivesState, flow_of}
use Rattle.tt_abs.specs.States.{start_of, state_laws, state_order}
use Rattle.tt_abs.proofs.FlowOfStates.{given_one}
use Rattle.tt_abs.proofs.LineLaws.{precedes_ascends, precedes_one, precedes_no_start}
use Rattle.tt_family.specs.Contents.{Contents, IsFamily, family_of, number_of}
use Rattle.tt_family.specs.Checks.{BreaksAt, IsFilledBy, IsFirstBreakOnTheWay, IsGap, IsMet, IsSoundAt, LeavesGap, stores, refused, leaves}
use Rattle.tt_family.specs.Fillings.{IsFilling, HasGoodFilling}
use Rattle.tt_family.specs.GoodFamilies.{EndsWell, HasEnd, IsGoodFamily}

pub some_or_none : {A : Type 0} (x : Option A) → ((a : A) × (x ≡ Some a)) ⊎ (x ≡ None)
some_or_none None = inr refl
some_or_none (Some a) = inl (a, refl)

-- a gap is where nothing is met
pub gap_not_met : (family : Place → Option State) (L : Type 0) (q : Place) (t : State) (r : Reason) → IsGap family L q t r → IsMet family L q t → ⊥
gap_not_met family L q t MissingPoint (none, not) met = elim met [
  | inl (u, at, below) ↦ cc
  | inr (none', may) ↦ not may
]
gap_not_met family L q t NotCovered (w, at', apart) met = elim met [
  | inl (u, at, below) ↦
      let same : u ≡ w = cc in
      let B : State → Type 0 = λ x. state_order.Below t x in
      apart (subst B same below)
  | inr (none, may) ↦ cc
]
gap_not_met family L q t _ gap met = absurd gap

-- what is sound isn't broken
module _ (s : Setting) (family : Place → Option State) (L : Place → Type 0) (p : Place) (a : State) (sound : IsSoundAt s family L p a) where
  gap_closed : (q : Place) (r : Reason) → LeavesGap s family L p a q r → ⊥
  gap_closed q r l =
      let place = l.first.here.place in
      let gives : GivesState s p a q l.state = record {
        running = l.running;
        nexts = l.nexts;
        result = l.result;
        index = l.first.index;
        next = l.first.here.next;
        found = l.first.here.found;
        frames_are = ap (λ (x : Place). x.0) place;
        offset_is = ap (λ (x : Place). x.1) place;
        state_is = l.same l.first.index l.first.here.next l.first.here.found;
        in_range = l.in_range;
      } in
      gap_not_met family (L q) q l.state r l.first.here.gap (sound.closed q l.state gives)

  pub sound_not_broken : (q : Place) (r : Reason) → BreaksAt s family L p a q r → ⊥
  sound_not_broken q r (stores above) = above sound.stored
  sound_not_broken q r (refused r' stored x) = sound.safe r' x
  sound_not_broken q r (leaves q' r' stored l) = gap_closed q' r' l

module _ (s : Setting) (MayLeaveOut : Place → Place → Type 0) (line : (p q : Place) → MayLeaveOut p q → Precedes s p q) where
  -- whatever is added on the way is added by a walk over all
  agrees : (family one other : Place → Option State) (Walked : Place → Type 0) → IsFilledBy s MayLeaveOut family Walked one
      → IsFilledBy s MayLeaveOut family (λ _. Unit {0}) other → (k : ℕ) (q : Place) (t : State) → q.1 < k → one q ≡ Some t → other q ≡ Some t
  agrees family one other Walked a b zero q t lt at = absurd (omega arith)
  agrees family one other Walked a b (suc k) q t lt at = elim (some_or_none (family q)) [
    | inl (u, listed) ↦
        let same : one q ≡ Some u = a.keeps q u listed in
        let there : other q ≡ Some u = b.keeps q u listed in
        cc
    | inr none ↦
        let add = a.added q t at none in
        let rise = precedes_ascends s add.before q (line add.before q add.just_before) in
        let here = agrees family one other Walked a b k add.before add.state (omega arith) add.there in
        b.given add.before add.state q t tt here add.gives none
  ]

  pub agrees_all : (family one other : Place → Option State) (Walked : Place → Type 0) → IsFilledBy s MayLeaveOut family Walked one
      → IsFilledBy s MayLeaveOut family (λ _. Unit {0}) other → (q : Place) (t : State) → one q ≡ Some t → other q ≡ Some t
  agrees_all family one other Walked a b q t at = agrees family one other Walked a b (q.1 + 1) q t (omega arith) at

  -- what was added is in range
  pub filled_in_range : (v : Contents) (filled : Place → Option State) (Walked : Place → Type 0) → IsFamily v → IsFilledBy s MayLeaveOut (family_of v) Walked filled
      → (p : Place) (a : State) → filled p ≡ Some a → state_order.InRange a
  filled_in_range v filled Walked family by p a at = elim (some_or_none (family_of v p)) [
    | inl (u, listed) ↦
        let there : filled p ≡ Some u = by.keeps p u listed in
        let same : u ≡ a = cc in
        subst state_order.InRange same (family.in_range (number_of v.contexts p.0) p.1 u listed)
    | inr none ↦ (by.added p a at none).gives.in_range
  ]

  -- a walk over all makes a good family
  pub good_from_walk : (v : Contents) (functions : List (ℕ × ℕ)) (filled : Place → Option State) → IsFamily v → IsFilledBy s MayLeaveOut (family_of v) (λ _. Unit {0}) filled
      → CoversAt state_order (family_of v) ([], 0) (start_of functions) → IsGood state_order (flow_of s functions) filled
  good_from_walk v functions filled family by (u, at, below) = record {
    in_range = filled_in_range v filled (λ _. Unit {0}) family by;
    start = (u, by.keeps ([], 0) u at, below);
    safe = λ p a r here x. (by.sound p a tt here).safe r x;
    closed = λ p a q t here gives. elim ((by.sound p a tt here).closed q t gives) [
      | inl (w, listed, under) ↦ (w, by.keeps q w listed, under)
      | inr (none, may) ↦ (t, by.given p a q t tt here gives none, state_laws.reflexive t)
    ];
  }

  -- its end is the family's
  pub ends_kept : (family filled : Place → Option State) → ((p : Place) (a : State) → family p ≡ Some a → filled p ≡ Some a) → (kind : Kind) → EndsWell s kind family → EndsWell s kind filled
  ends_kept family filled keeps FontProgram (end, at) = (end, keeps ([], size s.main) end at)
  ends_kept family filled keeps CvtProgram (end, at) = (end, keeps ([], size s.main) end at)
  ends_kept family filled keeps (GlyphProgram points contours) ends = tt

module _ (s : Setting) where
  plain : (p q : Place) → Precedes s p q → Precedes s p q
  plain p q h = h

  -- a good filling is what a walk over all adds
  pub walk_from_good : (functions : List (ℕ × ℕ)) (family filling : Place → Option State) → IsFilling s family filling → IsGoodFamily s functions filling
      → IsFilledBy s (Precedes s) family (λ _. Unit {0}) filling
  walk_from_good functions family filling is good = record {
    keeps = is.keeps;
    added = λ q t at none.
        let add = is.added q t at none in
        record { before = add.before; state = add.state; walked = tt; there = add.there; just_before = add.just_before; gives = add.gives };
    sound = λ p a _ at. record {
      stored = good.storage p a at;
      safe = λ r x. good.good.safe p a r at x;
      closed = λ q t gives. met p a q t at gives (some_or_none (family q));
    };
    given = λ p a q t _ at gives none.
        let (u, there, below) = good.good.closed p a q t at gives in
        let add = is.added q u there none in
        let same : p ≡ add.before = add.alone p a t at gives in
        let at_before : filling p ≡ Some add.state = ap filling same ∙ add.there in
        let state : add.state ≡ a = cc in
        let G : Place × State → Type 0 = λ x. GivesState s x.0 x.1 q u in
        let both : ◌≡◌ {A = Place × State} (add.before, add.state) (p, a) = λ i. (sym same i, state i) in
        let one : u ≡ t = given_one s p a q u t (subst G both add.gives) gives in
        there ∙ ap Some one;
  }
    where
      met : (p : Place) (a : State) (q : Place) (t : State) → filling p ≡ Some a → GivesState s p a q t → ((u : State) × (family q ≡ Some u)) ⊎ (family q ≡ None)
          → IsMet family (Precedes s p q) q t
      met p a q t at gives (inl (w, listed)) =
          let (u, there, below) = good.good.closed p a q t at gives in
          let there' : filling q ≡ Some w = is.keeps q w listed in
          let same : u ≡ w = cc in
          let B : State → Type 0 = λ x. state_order.Below t x in
          inl (w, listed, subst B same below)
      met p a q t at gives (inr none) =
          let (u, there, below) = good.good.closed p a q t at gives in
          let add = is.added q u there none in
          let same : p ≡ add.before = add.alone p a t at gives in
          let P : Place → Type 0 = λ x. Precedes s x q in
          inr (none, subst P (sym same) add.just_before)

  -- what a walk over all adds is a filling
  pub filling_from_walk : (family filled : Place → Option State) → IsFilledBy s (Precedes s) family (λ _. Unit {0}) filled → IsFilling s family filled
  filling_from_walk family filled by = record {
    keeps = by.keeps;
    added = λ q t at none.
        let add = by.added q t at none in
        record {
          before = add.before;
          state = add.state;
          there = add.there;
          just_before = add.just_before;
          gives = add.gives;
          alone = λ p a b there gives. elim ((by.sound p a tt there).closed q b gives) [
            | inl (w, listed, under) ↦ absurd (cc)
            | inr (none', may) ↦ precedes_one s p add.before q may add.just_before
          ];
        };
  }

  pub one_filling : (functions : List (ℕ × ℕ)) (family one other : Place → Option State) → IsFilling s family one → IsGoodFamily s functions one → IsFilling s family other
      → IsGoodFamily s functions other → (p : Place) → one p ≡ other p
  one_filling functions family one other is good is' good' p =
      let a = walk_from_good functions family one is good in
      let b = walk_from_good functions family other is' good' in
      elim (some_or_none (one p)) [
        | inl (x, at) ↦ at ∙ sym (agrees_all s (Precedes s) plain family one other (λ _. Unit {0}) a b p x at)
        | inr none ↦ elim (some_or_none (other p)) [
          | inl (x, at) ↦ agrees_all s (Precedes s) plain family other one (λ _. Unit {0}) b a p x at ∙ sym at
          | inr none' ↦ none ∙ sym none'
        ]
      ]

  -- where something is broken on the way there is no good filling
  pub broken_way : (functions : List (ℕ × ℕ)) (v : Contents) (q : Place) (r : Reason) → IsFirstBreakOnTheWay s (Precedes s) v q r → HasGoodFilling s functions (family_of v) → ⊥
  broken_way functions v q r h (filling, is, good) =
      let all = walk_from_good functions (family_of v) filling is good in
      let at = agrees_all s (Precedes s) plain (family_of v) h.filled filling _ h.filled_by all h.place h.state h.here in
      sound_not_broken s (family_of v) (Precedes s h.place) h.place h.state (all.sound h.place h.state tt at) q r h.breaks

  -- no state is added at the start, and none at the main program's end

  pub start_listed : (functions : List (ℕ × ℕ)) (family filling : Place → Option State) → IsFilling s family filling → (t : State) → CoversAt state_order filling ([], 0) t
      → CoversAt state_order family ([], 0) t
  start_listed functions family filling is t (u, at, below) = elim (some_or_none (family ([], 0))) [
    | inl (w, listed) ↦
        let there : filling ([], 0) ≡ Some w = is.keeps ([], 0) w listed in
        let same : u ≡ w = cc in
        let B : State → Type 0 = λ x. state_order.Below t x in
        (w, listed, subst B same below)
    | inr none ↦ let add = is.added ([], 0) u at none in absurd (precedes_no_start s add.before [] add.just_before)
  ]

  end_listed : (family filling : Place → Option State) → IsFilling s family filling → HasEnd s filling → HasEnd s family
  end_listed family filling is (u, at) = elim (some_or_none (family ([], size s.main))) [
    | inl (w, listed) ↦ (w, listed)
    | inr none ↦
        let add = is.added ([], size s.main) u at none in
        let ends : nat_eq (size s.main) (size s.main) ≡ true = eq-eqb (size s.main) (size s.main) refl in
        let no_such : true ≡ false = sym ends ∙ add.just_before.inside in absurd (cc)
  ]

  pub ends_listed : (family filling : Place → Option State) → IsFilling s family filling → (kind : Kind) → EndsWell s kind filling → EndsWell s kind family
  ends_listed family filling is FontProgram ends = end_listed family filling is ends
  ends_listed family filling is CvtProgram ends = end_listed family filling is ends
  ends_listed family filling is (GlyphProgram points contours) ends = tt
