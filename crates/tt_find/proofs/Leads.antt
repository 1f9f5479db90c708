-- Where a state is led to, and from where it comes there.
use Rattle.std.specs.Prelude.{◌≡◌, ℕ, zero, suc, ◌+◌, ◌<◌, Option, Some, None, List, [], ◌∷◌, ◌++◌, drop, length, map, reverse, slice_get}
use Rattle.std.proofs.Common.{refl, sym, ◌∙◌, ap, subst, inl, arith}
use Rattle.tt_code.specs.Settings.{Setting}
use Rattle.tt_code.specs.declared.machine.Frame.{Frame}
use Rattle.tt_code.specs.declared.reason.Reason.TheVariants.{TooManyContexts}
use Rattle.tt_abs.specs.declared.moves.Move.{Move}
use Rattle.tt_abs.specs.declared.moves.Moves.{Moves}
use Rattle.tt_abs.specs.declared.state.State.{State}
use Rattle.tt_abs.proofs.FamilyLaws.{derived_is}
use Rattle.tt_setting.specs.Refusals.{reason_of}
use Rattle.tt_abs.specs.Lines.{Precedes}
use Rattle.tt_abs.specs.Moves.{frames_after, offset_after, ways_of}
use Rattle.tt_abs.specs.StateFlow.{Place, flow_of, height_of}
use Rattle.tt_abs.specs.States.{state_order}
use Rattle.tt_family.specs.Contents.{AddsContext, Contents, HasContext, IsFamily, IsFullWithout, frames_at}
use Rattle.tt_family.specs.Places.{states_of}
use Rattle.tt_family.specs.Puts.{place_of}
use Rattle.tt_setting.specs.Spots.{spot_of}
use Rattle.tt_setting.specs.Refusals.{refusal_at}
use Rattle.tt_setting.specs.declared.failed.Failed.{Failed}
use Rattle.tt_setting.specs.declared.refusal.Refusal.{Refusal}
use Rattle.tt_setting.specs.declared.step_fault.StepFault.{StepFault}
use Rattle.tt_find.specs.Found.{IsJustified, NamesPlace}
use Rattle.tt_family.specs.Fillings.{IsJustAfter}
use Rattle.tt_find.specs.Representation.Solvers.{ComesFrom, IsCountable, HasLaws, IsLeading, IsLeadingAt, IsLeadingOn, IsLeadingTo, IsOnWay, IsStored, IsWalk, IsWhole, TellsSource, calls_of, here_of, place_of_way, place_over, places_from}
use Rattle.tt_find.specs.declared.approach.Approach.{Approach}
use Rattle.tt_find.specs.declared.approach.Approach.TheVariants.{JustBefore, Elsewhere}
use Rattle.tt_find.specs.declared.solver.Solver.{Solver}
use Rattle.tt_find.specs.declared.walk.Walk.{Walk}
use Rattle.tt_find.proofs.Points.{frames_stay}
use Rattle.tt_setting.proofs.RefusalLemmas.{failed_reason}
use Rattle.tt_find.proofs.Steps.{countable_left, leading_ends, leading_grown, leading_put, leading_swap, refused_names, too_many_left}

drop_next : {A : Type 0} (xs : List A) (i : ℕ) (x : A) → slice_get xs i ≡ Some x → drop i xs ≡ x ∷ drop (suc i) xs
drop_next [] i x e = absurd (cc)
drop_next (y ∷ xs) zero x e = let same : y ≡ x = cc in ap (λ z. z ∷ xs) same
drop_next (y ∷ xs) (suc i) x e = drop_next xs i x e

drop_found : {A : Type 0} (xs : List A) (i : ℕ) (x : A) → slice_get xs i ≡ Some x → drop i xs ≡ x ∷ drop (i + 1) xs
drop_found xs i x e = let next : suc i ≡ i + 1 = omega arith in drop_next xs i x e ∙ ap (λ n. x ∷ drop n xs) next

drop_none : {A : Type 0} (xs : List A) (i : ℕ) → slice_get xs i ≡ None → drop i xs ≡ []
drop_none [] zero e = refl
drop_none [] (suc i) e = refl
drop_none (y ∷ xs) zero e = absurd (cc)
drop_none (y ∷ xs) (suc i) e = drop_none xs i e

-- a state comes from just before
pub comes_before : (s : Setting) (p q : Place) → Precedes s p q → ComesFrom s p q JustBefore
comes_before s p q just = ((λ _. just), (λ away _. let no_such : JustBefore ≡ Elsewhere = away in cc))

-- from where a state comes to a place
pub comes_by : (s : Setting) (v : Contents) (c off number next : ℕ) (after : Option ℕ) (source : Approach) → IsFamily v → c < length v.contexts → number < length v.contexts
    → IsJustAfter s (place_of v c off) after → TellsSource c number after next source → ComesFrom s (place_of v c off) (place_of v number next) source
comes_by s v c off number next after source family lt there is tells = (
  (λ before.
      let (same, at) = tells.0 before in
      let P : ℕ → Type 0 = λ x. Precedes s (place_of v c off) (place_of v x next) in
      subst P (sym same) ((is (place_of v c next)).0 (refl, at))),
  (λ away just.
      let same : number ≡ c = family.distinct number c there lt just.calls in
      let before : source ≡ JustBefore = tells.1 (same, ((is (place_of v number next)).1 just).1) in
      let no_such : JustBefore ≡ Elsewhere = sym before ∙ away in cc),
)

module _ (s : Setting) (functions : List (ℕ × ℕ)) (laws : HasLaws s functions) where
  pub ranged_to : (solver : Solver) (p q : Place) (t : State) (qs : List Place) → IsLeading s functions solver p (q ∷ qs) t → state_order.InRange t
  ranged_to solver p q t qs leading =
      (derived_is state_order (flow_of s functions) (height_of s) laws.flow q t (leading.sound.kept.sound.rest_derived p q t (refl, inl (refl, refl)))).in_range

  pub ranged_on : (solver : Solver) (p : Place) (a : State) → IsOnWay s functions solver p a → state_order.InRange a
  ranged_on solver p a way = (derived_is state_order (flow_of s functions) (height_of s) laws.flow p a (way.sound.kept.sound.derived p a way.here)).in_range

  -- the state was put at the only place
  pub whole_put : (old new : Solver) (p : Place) (c off : ℕ) (t : State) (source : Approach) → IsLeading s functions old p (place_of old.builder c off ∷ []) t → c < length old.builder.contexts
      → IsStored old new c off t source → ComesFrom s p (place_of old.builder c off) source → IsWhole s functions new
  whole_put old new p c off t source leading lt stored comes =
      leading_ends s functions laws new p t (leading_put s functions laws old new p c off t [] source leading lt stored comes)

  -- the refusal that tells of a context too many
  pub not_entered : (p : Place) (e : StepFault) (contexts : List (List Frame)) (frames : List Frame) (fault : Refusal) → fault ≡ refusal_at (spot_of p.0) p.1 e
      → ((HasContext contexts frames → ⊥) → length contexts ≡ 65535 → IsJustified s functions p TooManyContexts) → IsFullWithout contexts frames e → NamesPlace (IsJustified s functions) fault
  not_entered p e contexts frames fault is just full =
      let J : Failed → Type 0 = λ f. IsJustified s functions p (reason_of f) in
      refused_names (IsJustified s functions) p e fault is
      (failed_reason e _ (IsJustified s functions p) (λ failed h. let (told, absent, many) = h in subst J (sym told) (just absent many)) full)

  -- The state is led to one place after the other.

  -- the place of the next way comes first
  way_first : (solver : Solver) (p : Place) (fs : List Frame) (ways : Moves) (index : ℕ) (over : Option ℕ) (way : Move) (t : State) → slice_get (ways_of ways) index ≡ Some way
      → IsLeading s functions solver p (place_over fs over ++ places_from fs ways index) t
      → IsLeading s functions solver p (place_of_way fs way ∷ place_over fs over ++ places_from fs ways (index + 1)) t
  way_first solver p fs ways index None way t e leading =
      let L : List Place → Type 0 = λ x. IsLeading s functions solver p x t in
      subst L (ap (map (place_of_way fs)) (drop_found (ways_of ways) index way e)) leading
  way_first solver p fs ways index (Some o) way t e leading =
      let L : List Place → Type 0 = λ x. IsLeading s functions solver p ((fs, o) ∷ x) t in
      leading_swap s functions laws solver p (fs, o) (place_of_way fs way) (places_from fs ways (index + 1)) t
      (subst L (ap (map (place_of_way fs)) (drop_found (ways_of ways) index way e)) leading)

  -- its context may be new
  module _ (solver : Solver) (walk : Walk) (off : ℕ) (after : Option ℕ) (ways : Moves) (index : ℕ) (over : Option ℕ) (v' : Contents) (way : Move) (number next : ℕ)
      (on : IsLeadingOn s functions solver walk off after ways index over) (found : slice_get (ways_of ways) index ≡ Some way)
      (adds : AddsContext solver.builder.contexts v'.contexts (frames_after (calls_of solver walk) way) number)
      (offset : next ≡ offset_after (calls_of solver walk) way) (states : v'.states ≡ solver.builder.states) (family' : IsFamily v') where
    stay : (frames_at v'.contexts walk.context ≡ calls_of solver walk) × (walk.context < length v'.contexts)
    stay = frames_stay solver.builder.contexts v'.contexts (frames_after (calls_of solver walk) way) number walk.context adds on.walks.there

    pub walk_still : IsWalk v' walk
    walk_still = record {
      there = stay.1;
      calls = on.walks.calls ∙ ap reverse (sym stay.0);
      spot = on.walks.spot ∙ ap spot_of (sym stay.0);
      known = λ a b known. ap (λ x. states_of x (a, b)) states ∙ on.walks.known a b known;
    }

    pub reached : IsLeadingTo s functions (record solver { builder = v' }) walk off after ways (index + 1) over number next
    reached =
        let fs = calls_of solver walk in
        let qs = place_over fs over ++ places_from fs ways (index + 1) in
        let grown = leading_grown s functions laws solver v' (fs, off) (frames_after fs way) number (offset_after fs way) walk.state qs
        (way_first solver (fs, off) fs ways index over way walk.state found on.leading) adds states family' in
        let L : List Frame × Place → Type 0 =
        λ x. IsLeading s functions (record solver { builder = v' }) (x.0, off) (x.1 ∷ place_over x.0 over ++ places_from x.0 ways (index + 1)) walk.state in
        let both : ◌≡◌ {A = List Frame × Place} (fs, place_of_way fs way) (frames_at v'.contexts walk.context, place_of v' number next) = λ i. (sym stay.0 i, (sym adds.at i, sym offset i)) in
        let A : List Frame → Type 0 = λ x. IsJustAfter s (x, off) after in
        record { leading = subst L both grown; there = adds.there; just_after = subst A (sym stay.0) on.just_after; goes_over = on.goes_over; walks = walk_still }

  -- the same where the walk's context has this number
  module _ (solver : Solver) (walk : Walk) (off : ℕ) (after : Option ℕ) (ways : Moves) (index : ℕ) (over : Option ℕ) (way : Move) (here : ℕ) (same : walk.context ≡ here)
      (on : IsLeadingOn s functions solver walk off after ways index over) (found : slice_get (ways_of ways) index ≡ Some way) where
    pub reached_from : (v' : Contents) (number next : ℕ) → AddsContext solver.builder.contexts v'.contexts (frames_after (frames_at solver.builder.contexts here) way) number
        → next ≡ offset_after (frames_at solver.builder.contexts here) way → v'.states ≡ solver.builder.states → IsFamily v'
        → IsLeadingTo s functions (record solver { builder = v' }) walk off after ways (index + 1) over number next
    reached_from v' number next adds offset states family' =
        let A : ℕ → Type 0 = λ n. AddsContext solver.builder.contexts v'.contexts (frames_after (frames_at solver.builder.contexts n) way) number in
        let O : ℕ → Type 0 = λ n. next ≡ offset_after (frames_at solver.builder.contexts n) way in
        reached solver walk off after ways index over v' way number next on found (subst A (sym same) adds) (subst O (sym same) offset) states family'

    pub countable_on : IsCountable solver.builder.contexts here
    countable_on =
        let C : ℕ → Type 0 = λ n. IsCountable solver.builder.contexts n in
        subst C same (countable_left s functions laws solver walk.context _ _ on.leading.sound on.walks.there)

    -- there is one context too many
    pub too_many_on : (HasContext solver.builder.contexts (frames_after (frames_at solver.builder.contexts here) way) → ⊥) → length solver.builder.contexts ≡ 65535
        → IsJustified s functions (frames_at solver.builder.contexts here, off) TooManyContexts
    too_many_on absent full =
        let fs = calls_of solver walk in
        let qs = place_over fs over ++ places_from fs ways (index + 1) in
        let H : ℕ → Type 0 = λ n. HasContext solver.builder.contexts (frames_after (frames_at solver.builder.contexts n) way) → ⊥ in
        let J : ℕ → Type 0 = λ n. IsJustified s functions (frames_at solver.builder.contexts n, off) TooManyContexts in
        subst J same (too_many_left s functions laws solver (fs, off) (place_of_way fs way) walk.state qs (way_first solver (fs, off) fs ways index over way walk.state found on.leading) (subst H (sym same) absent) full)

  -- over it the state goes last
  pub held : (solver : Solver) (walk : Walk) (off : ℕ) (after : Option ℕ) (ways : Moves) (index number next : ℕ) → IsLeadingTo s functions solver walk off after ways index None number next
      → number ≡ walk.context → after ≡ Some next → IsLeadingOn s functions solver walk off after ways index (Some next)
  held solver walk off after ways index number next to same at =
      let L : ℕ → Type 0 = λ x. IsLeadingAt s functions solver walk off (place_of solver.builder x next ∷ places_from (calls_of solver walk) ways index) in
      record { leading = subst L same to.leading; just_after = to.just_after; goes_over = λ n e. let one : next ≡ n = cc in at ∙ ap Some one; walks = to.walks }

  -- it has the state now
  pub put : (old new : Solver) (walk walk' : Walk) (off : ℕ) (after : Option ℕ) (ways : Moves) (index : ℕ) (over : Option ℕ) (number next : ℕ) (source : Approach)
      → IsLeadingTo s functions old walk off after ways index over number next → IsStored old new number next walk.state source → TellsSource walk.context number after next source
      → IsWalk new.builder walk' → walk'.context ≡ walk.context → walk'.state ≡ walk.state → IsLeadingOn s functions new walk' off after ways index over
  put old new walk walk' off after ways index over number next source to stored tells is context state =
      let fs = calls_of old walk in
      let comes = comes_by s old.builder walk.context off number next after source to.leading.sound.kept.family to.walks.there to.there to.just_after tells in
      let led = leading_put s functions laws old new (fs, off) number next walk.state (place_over fs over ++ places_from fs ways index) source to.leading to.there stored comes in
      let L : List (List Frame) × ℕ × State → Type 0 =
      λ x. IsLeading s functions new (frames_at x.0 x.1, off) (place_over (frames_at x.0 x.1) over ++ places_from (frames_at x.0 x.1) ways index) x.2 in
      let all : ◌≡◌ {A = List (List Frame) × ℕ × State} (old.builder.contexts, walk.context, walk.state) (new.builder.contexts, walk'.context, walk'.state) =
      λ i. (sym stored.put.contexts i, sym context i, sym state i) in
      let A : List (List Frame) × ℕ → Type 0 = λ x. IsJustAfter s (frames_at x.0 x.1, off) after in
      let both : ◌≡◌ {A = List (List Frame) × ℕ} (old.builder.contexts, walk.context) (new.builder.contexts, walk'.context) = λ i. (sym stored.put.contexts i, sym context i) in
      record { leading = subst L all led; just_after = subst A both to.just_after; goes_over = to.goes_over; walks = is }

  -- after the last of them
  pub none_over : (solver : Solver) (walk : Walk) (off : ℕ) (after : Option ℕ) (ways : Moves) (index : ℕ) (over : Option ℕ) → IsLeadingOn s functions solver walk off after ways index over
      → slice_get (ways_of ways) index ≡ None → over ≡ None → IsWhole s functions solver
  none_over solver walk off after ways index over on none is =
      let L : Option ℕ × List Move → Type 0 = λ x. IsLeadingAt s functions solver walk off (place_over (calls_of solver walk) x.0 ++ map (place_of_way (calls_of solver walk)) x.1) in
      let both : ◌≡◌ {A = Option ℕ × List Move} (over, drop index (ways_of ways)) (None, []) = λ i. (is i, drop_none (ways_of ways) index none i) in
      leading_ends s functions laws solver (here_of solver.builder walk off) walk.state (subst L both on.leading)

  pub last_over : (solver : Solver) (walk : Walk) (off : ℕ) (after : Option ℕ) (ways : Moves) (index : ℕ) (over : Option ℕ) (next : ℕ) → IsLeadingOn s functions solver walk off after ways index over
      → slice_get (ways_of ways) index ≡ None → over ≡ Some next → IsLeadingAt s functions solver walk off (here_of solver.builder walk next ∷ [])
  last_over solver walk off after ways index over next on none is =
      let L : Option ℕ × List Move → Type 0 = λ x. IsLeadingAt s functions solver walk off (place_over (calls_of solver walk) x.0 ++ map (place_of_way (calls_of solver walk)) x.1) in
      let both : ◌≡◌ {A = Option ℕ × List Move} (over, drop index (ways_of ways)) (Some next, []) = λ i. (is i, drop_none (ways_of ways) index none i) in
      subst L both on.leading

  pub just_over : (solver : Solver) (walk : Walk) (off : ℕ) (after : Option ℕ) (ways : Moves) (index : ℕ) (over : Option ℕ) (next : ℕ) → IsLeadingOn s functions solver walk off after ways index over
      → over ≡ Some next → Precedes s (here_of solver.builder walk off) (here_of solver.builder walk next)
  just_over solver walk off after ways index over next on is = (on.just_after (here_of solver.builder walk next)).0 (refl, on.goes_over next is)
