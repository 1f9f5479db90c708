-- No filling can do without a state that is listed.
use Rattle.std.specs.Prelude.{◌≡◌, ◌≢◌, ℕ, zero, suc, ◌+◌, ◌<◌, Option, Some, None, List, []}
use Rattle.std.proofs.Common.{refl, sym, ◌∙◌, ap, subst, arith, inl, inr}
use Rattle.tt_code.specs.Cut.{size}
use Rattle.tt_code.specs.Settings.{Setting, Kind, FontProgram, CvtProgram, GlyphProgram}
use Rattle.tt_code.specs.declared.reason.Reason.{Reason}
use Rattle.tt_code.specs.declared.reason.Reason.TheVariants.{MissingPoint, NotCovered}
use Rattle.tt_abs.specs.declared.state.State.{State}
use Rattle.tt_abs.specs.Families.{CoversAt, moved}
use Rattle.tt_abs.proofs.FamilyLaws.{derived_below, derived_is, none_where_refused}
use Rattle.tt_abs.specs.Lines.{Precedes}
use Rattle.tt_abs.specs.StateFlow.{GivesState, Place, RefusesState, flow_of, height_of}
use Rattle.tt_abs.specs.States.{start_of, state_laws, state_order}
use Rattle.tt_abs.proofs.LineLaws.{precedes_no_start, precedes_ascends}
use Rattle.tt_family.specs.Checks.{BreaksAt, IsFillingBrokenFirst, IsFirstBreakOnTheWay, IsGap, stores, refused, leaves, too_long, no_start, no_end, no_way}
use Rattle.tt_family.specs.Contents.{Contents, family_of}
use Rattle.tt_family.specs.Fillings.{HasGoodFilling, IsFilling}
use Rattle.tt_family.specs.GoodFamilies.{EndsWell, IsGoodFamily}
use Rattle.tt_family.proofs.FillingLaws.{ends_listed, some_or_none}
use Rattle.tt_find.specs.Found.{IsDerived, IsNeeded, IsWithout, LacksPoint, NeedsAll}
use Rattle.tt_find.specs.Representation.Solvers.{HasLaws}
use Rattle.tt_find.proofs.Points.{same_or_apart}

module _ (s : Setting) (functions : List (ℕ × ℕ)) (laws : HasLaws s functions) (family filled : Place → Option State) (fills : IsFilling s family filled) (good : IsGoodFamily s functions filled)
    (derived : (p : Place) (a : State) → filled p ≡ Some a → IsDerived s functions p a) (needed : (q : Place) (a : State) → family q ≡ Some a → IsNeeded s functions q) where
  -- what a derived state gives, the state of a good family gives at that place too
  gives_there : (other : Place → Option State) → IsGoodFamily s functions other → (p : Place) (a : State) (q : Place) (t : State) → IsDerived s functions p a → GivesState s p a q t
      → (b : State) × (u : State) × (v : State) × (other p ≡ Some b) × GivesState s p b q u × (other q ≡ Some v)
  gives_there other good' p a q t d gives =
      let k = derived_is state_order (flow_of s functions) (height_of s) laws.flow p a d in
      let (b, at, below) = derived_below state_order (flow_of s functions) (height_of s) state_laws laws.flow other good'.good p a d in
      let (u, gives', below') = laws.flow.gives_above p a b q t k.point k.in_range (good'.good.in_range p b at) below (λ r. good'.good.safe p b r at) gives in
      let (v, at', below'') = good'.good.closed p b q u at gives' in
      (b, u, v, at, gives', at')

  module _ (q : Place) (other : Contents) (without : IsWithout family (family_of other) q) where
    has : (p : Place) (a : State) → family_of other p ≡ Some a → family p ≡ Some a
    has p a at = elim (same_or_apart p q) [
      | inl same ↦ absurd (let no_such : None ≡ Some a = sym without.gone ∙ ap (family_of other) (sym same) ∙ at in cc)
      | inr apart ↦ sym (without.same p apart) ∙ at
    ]

    none_good : HasGoodFilling s functions (family_of other) → ⊥
    none_good (filling, fills', good') = elim (needed q without.state without.there) [
      | inl start ↦
          let (u, at, below) = good'.good.start in
          let add = fills'.added ([], 0) u at (ap (family_of other) (sym start) ∙ without.gone) in
          precedes_no_start s add.before [] add.just_before
      | inr led ↦
          let (b, u, v, at, gives, at') = gives_there filling good' led.from led.state q led.given led.derived led.gives in
          let add = fills'.added q v at' without.gone in
          let one = add.alone led.from b u at gives in
          let P : Place → Type 0 = λ x. Precedes s x q in
          led.elsewhere (subst P (sym one) add.just_before)
    ]

    -- the only gap is at the place
    gap_is : (MayBeLeftOut : Type 0) (p : Place) (t : State) (r : Reason) → CoversAt state_order filled p t → IsGap (family_of other) MayBeLeftOut p t r → (family p ≡ None → MayBeLeftOut)
        → (p ≡ q) × (r ≡ MissingPoint)
    gap_is MayBeLeftOut p t MissingPoint covers (none, not) may = elim (same_or_apart p q) [
      | inl same ↦ (same, refl)
      | inr apart ↦ absurd (not (may (sym (without.same p apart) ∙ none)))
    ]
    gap_is MayBeLeftOut p t NotCovered (v, at, below) (u, is, not_below) may =
        let there : filled p ≡ Some u = fills.keeps p u (has p u is) in
        let same : v ≡ u = cc in
        let B : State → Type 0 = λ x. state_order.Below t x in
        absurd (not_below (subst B same below))
    gap_is MayBeLeftOut p t _ covers gap may = absurd gap

    ends_other : (kind : Kind) → EndsWell s kind family → ◌≢◌ {A = Place} ([], size s.main) q → EndsWell s kind (family_of other)
    ends_other FontProgram (a, at) apart = (a, without.same ([], size s.main) apart ∙ at)
    ends_other CvtProgram (a, at) apart = (a, without.same ([], size s.main) apart ∙ at)
    ends_other (GlyphProgram points contours) ends apart = tt

    -- what a walk comes upon is derived
    derived_on : (r : Reason) (p' : Place) (first : IsFirstBreakOnTheWay s (Precedes s) other p' r) (k : ℕ) (p : Place) (a : State) → p.1 < k → first.filled p ≡ Some a → IsDerived s functions p a
    derived_on r p' first zero p a lt at = absurd (omega arith)
    derived_on r p' first (suc k) p a lt at = elim (some_or_none (family_of other p)) [
      | inl (b, is) ↦
          let kept = first.filled_by.keeps p b is in
          let same : b ≡ a = cc in
          let D : State → Type 0 = λ x. IsDerived s functions p x in
          subst D same (derived p b (fills.keeps p b (has p b is)))
      | inr none ↦
          let add = first.filled_by.added p a at none in
          let rise = precedes_ascends s add.before p add.just_before in
          let before = derived_on r p' first k add.before add.state (omega arith) add.there in
          let sound = first.filled_by.sound add.before add.state add.walked add.there in
          moved add.before p add.state a before sound.safe add.gives
    ]

    not_refused : (p : Place) (a : State) → IsDerived s functions p a → (r : Reason) → RefusesState s p a r → ⊥
    not_refused p a d r x = none_where_refused state_order (flow_of s functions) (height_of s) state_laws laws.flow p a r d x filled good.good

    breaks_there : (p : Place) (a : State) (p' : Place) (r : Reason) → IsDerived s functions p a → BreaksAt s (family_of other) (Precedes s p) p a p' r → (p' ≡ q) × (r ≡ MissingPoint)
    breaks_there p a p' r d (stores not_stored) =
        absurd (not_stored ((derived_is state_order (flow_of s functions) (height_of s) laws.flow p a d).fits.storage))
    breaks_there p a p' r d (refused r' stored x) = absurd (not_refused p a d r' x)
    breaks_there p a p' r d (leaves p'' r' stored gap) =
        let here = gap.first.here in
        let gives : GivesState s p a p'' gap.state = record {
          running = gap.running;
          nexts = gap.nexts;
          result = gap.result;
          index = gap.first.index;
          next = here.next;
          found = here.found;
          frames_are = ap (λ (x : Place). x.0) here.place;
          offset_is = ap (λ (x : Place). x.1) here.place;
          state_is = gap.same gap.first.index here.next here.found;
          in_range = gap.in_range;
        } in
        let covers = derived_below state_order (flow_of s functions) (height_of s) state_laws laws.flow filled good.good p'' gap.state (moved p p'' a gap.state d (not_refused p a d) gives) in
        gap_is (Precedes s p p'') p'' gap.state r' covers here.gap (λ none.
        let (b, u, v, at, gives', at') = gives_there filled good p a p'' gap.state d gives in
        let add = fills.added p'' v at' none in
        let one = add.alone p b u at gives' in
        let P : Place → Type 0 = λ x. Precedes s x p'' in
        subst P (sym one) add.just_before)

    missing : (p : Place) (r : Reason) → IsFillingBrokenFirst s functions other p r → (p ≡ q) × (r ≡ MissingPoint)
    missing p r (too_long long) = absurd (long good.short)
    missing p r (no_start r' short gap) = gap_is ⊥ ([], 0) (start_of functions) r' good.good.start gap (λ none.
        let (u, at, below) = good.good.start in
        let add = fills.added ([], 0) u at none in
        precedes_no_start s add.before [] add.just_before)
    missing p r (no_end short covers endless) = elim (same_or_apart ([], size s.main) q) [
      | inl same ↦ (same, refl)
      | inr apart ↦ absurd (endless (ends_other s.kind (ends_listed s family filled fills s.kind good.ends) apart))
    ]
    missing p r (no_way p' r' short covers ends first) =
        breaks_there first.place first.state p' r' (derived_on r' p' first (first.place.1 + 1) first.place first.state (omega arith) first.here) first.breaks

    pub lacks_point : LacksPoint s functions other q
    lacks_point = record { none_good = none_good; missing = missing }

  pub needs_all : NeedsAll s functions family
  needs_all q other without = lacks_point q other without
