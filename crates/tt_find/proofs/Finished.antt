-- What the finder's last solver tells, and what its refusals tell of all families.
use Rattle.std.specs.Prelude.{◌≡◌, ◌⊎◌, ℕ, false, zero, suc, ◌+◌, ◌<◌, cond, Option, Some, None, List, [], length}
use Rattle.std.proofs.Common.{refl, sym, ◌∙◌, ap, subst, arith, inl, inr}
use Rattle.std.proofs.lemmas.Bool.{cases_Bool}
use Rattle.tt_code.specs.Cut.{size}
use Rattle.tt_code.specs.Settings.{Setting, Kind, FontProgram, CvtProgram, GlyphProgram}
use Rattle.tt_code.specs.declared.machine.Frame.{Frame}
use Rattle.tt_code.specs.declared.reason.Reason.{Reason}
use Rattle.tt_code.specs.declared.reason.Reason.TheVariants.{NeverEnds}
use Rattle.tt_setting.specs.Refusals.{reason_of}
use Rattle.tt_abs.specs.declared.state.State.{State}
use Rattle.tt_abs.specs.Families.{IsGood, joined, moved, started}
use Rattle.tt_abs.specs.Lines.{Precedes}
use Rattle.tt_abs.proofs.FamilyLaws.{derived_below, derived_is, none_where_apart, none_where_refused}
use Rattle.tt_abs.specs.StateFlow.{FitsLimits, GivesState, Place, flow_of, height_of}
use Rattle.tt_abs.specs.States.{state_laws, state_order}
use Rattle.tt_abs.proofs.FunctionBodies.{derived_bodies}
use Rattle.tt_abs.proofs.LineLaws.{precedes_one, precedes_ascends}
use Rattle.tt_family.specs.Checks.{IsExhausted, point_key_of}
use Rattle.tt_family.specs.Contents.{HasContext, family_of, number_of}
use Rattle.tt_family.specs.Fillings.{IsFilling}
use Rattle.tt_family.specs.GoodFamilies.{EndsWell, HasEnd, HasFewContexts, IsGoodFamily, IsShortEnough}
use Rattle.tt_family.specs.Numbers.{at-number_of}
use Rattle.tt_family.specs.Places.{has_point}
use Rattle.tt_family.specs.Ascending.{family_without}
use Rattle.tt_family.proofs.FillingLaws.{ends_kept, ends_listed, some_or_none}
use Rattle.tt_setting.specs.declared.refusal.Refusal.{Refusal}
use Rattle.tt_setting.specs.declared.refusal.Refusal.TheVariants.{Refused, Exhausted}
use Rattle.tt_find.specs.declared.finder.ListedStates.{ListedStates}
use Rattle.tt_find.specs.declared.finder.ListedStates.TheVariants as listed
use Rattle.tt_find.specs.declared.solver.Solver.{Solver}
use Rattle.tt_find.specs.Found.{AreDerivedContexts, AreLeastContexts, HasLeastFilling, KeepsBodies, IsDerived, IsJustified, IsLeast, IsNeverEnding, LacksEnd, NamesPlace, NeedsAll, NoneIsGood, too_long, refused, apart, too_many, never_ends}
use Rattle.tt_find.specs.Representation.Solvers.{HasLaws, IsAmong, IsListed, IsWhole, MayLead}
use Rattle.tt_find.proofs.Many.{few_from_all}
use Rattle.tt_find.proofs.Marking.{kept_state}
use Rattle.tt_find.proofs.Needed.{needs_all}
use Rattle.tt_find.proofs.Points.{has_number, same_or_apart}
use Rattle.tt_find.proofs.Sound.{good_from_sound}
use Rattle.tt_find.proofs.Visits.{visits_at_most}
use Rattle.tt_find.proofs.Waits.{none_waiting}

module _ (s : Setting) (functions : List (ℕ × ℕ)) (laws : HasLaws s functions) where
  range_of : (p : Place) (a : State) → IsDerived s functions p a → state_order.InRange a
  range_of p a d = (derived_is state_order (flow_of s functions) (height_of s) laws.flow p a d).in_range

  pub fits_of : (p : Place) (a : State) → IsDerived s functions p a → FitsLimits s a
  fits_of p a d = (derived_is state_order (flow_of s functions) (height_of s) laws.flow p a d).fits

  -- a family of derived states that has an end gives one to each good family
  has_end : (mine other : Place → Option State) → ((p : Place) (a : State) → mine p ≡ Some a → IsDerived s functions p a) → IsGood state_order (flow_of s functions) other
      → HasEnd s mine → HasEnd s other
  has_end mine other derived good (a, at) =
      let (u, at', below) = derived_below state_order (flow_of s functions) (height_of s) state_laws laws.flow other good ([], size s.main) a (derived ([], size s.main) a at) in
      (u, at')

  end_below : (kind : Kind) (mine other : Place → Option State) → ((p : Place) (a : State) → mine p ≡ Some a → IsDerived s functions p a) → IsGood state_order (flow_of s functions) other
      → EndsWell s kind mine → EndsWell s kind other
  end_below FontProgram mine other derived good (a, at) = has_end mine other derived good (a, at)
  end_below CvtProgram mine other derived good (a, at) = has_end mine other derived good (a, at)
  end_below (GlyphProgram points contours) mine other derived good ends = tt

  pub never_both : (mine other : Place → Option State) → ((p : Place) (a : State) → mine p ≡ Some a → IsDerived s functions p a) → EndsWell s s.kind mine → LacksEnd s functions other → ⊥
  never_both mine other derived ends lacks = lacks.endless (end_below s.kind mine other derived lacks.good ends)

  -- nothing waits
  module _ (solver : Solver) (whole : IsWhole s functions solver) (none : solver.worklist ≡ []) where
    abbrev filled : Place → Option State
    filled = whole.filled

    derived_here : (p : Place) (a : State) → filled p ≡ Some a → IsDerived s functions p a
    derived_here = whole.kept.sound.derived

    free : (p : Place) → IsAmong solver.builder solver.worklist p ⊎ ⊥ → ⊥
    free p m = elim m [ inr never ↦ never | inl hit ↦ none_waiting solver.worklist _ none hit ]

    pub good_left : IsGood state_order (flow_of s functions) filled
    good_left =
        let sound = whole.kept.sound in
        good_from_sound state_order state_laws (flow_of s functions) same_or_apart range_of filled (MayLead s solver.builder solver.spare.keys) (record {
          derived = sound.derived;
          rest_derived = sound.rest_derived;
          start = sound.start;
          safe = λ p a r at _ x. sound.safe p a r at (free p) x;
          closed = λ p a q t at _ given. sound.closed p a q t at (free p) given;
        })

    pub least_left : IsLeast s functions filled
    least_left = record {
      derived = derived_here;
      below = λ other good p a at. derived_below state_order (flow_of s functions) (height_of s) state_laws laws.flow other good p a (derived_here p a at);
    }

    abbrev IsUnlisted : Place → Type 0
    IsUnlisted q = IsListed solver.builder solver.spare.keys q → ⊥

    -- to a place that isn't listed only the one just before leads
    leads_just : (p : Place) (a : State) (q : Place) (t : State) → filled p ≡ Some a → GivesState s p a q t → IsUnlisted q → Precedes s p q
    leads_just p a q t at gives unlisted = elim (whole.kept.sound.closed p a q t at (free p) gives) [
      | inr never ↦ absurd never
      | inl (covered, may) ↦ elim may [ inl just ↦ just | inr listed ↦ absurd (unlisted listed) ]
    ]

    -- it gives a state there that is above all derived ones
    led_once : (q : Place) (d : State) → IsDerived s functions q d → IsUnlisted q → (p : Place) × (a : State) × (u : State) × (filled p ≡ Some a) × GivesState s p a q u × state_order.Below d u
    led_once q d started gone = absurd (gone whole.start)
    led_once q d (moved p' q' e d' before safe gives) gone =
        let good = good_left in
        let k = derived_is state_order (flow_of s functions) (height_of s) laws.flow p' e before in
        let (a, at, below) = derived_below state_order (flow_of s functions) (height_of s) state_laws laws.flow filled good p' e before in
        let (u, gives', below') = laws.flow.gives_above p' e a q d k.point k.in_range (good.in_range p' a at) below (λ r. good.safe p' a r at) gives in
        (p', a, u, at, gives', below')
    led_once q d (joined q' a b c da db least) gone =
        let (p, x, u, at, gives, below) = led_once q a da gone in
        let (p', x', u', at', gives', below') = led_once q b db gone in
        let one : p' ≡ p = precedes_one s p' p q (leads_just p' x' q u' at' gives' gone) (leads_just p x q u at gives gone) in
        let at'' : filled p ≡ Some x' = ap filled (sym one) ∙ at' in
        let same : x' ≡ x = cc in
        let G : Place × State → Type 0 = λ y. GivesState s y.0 y.1 q u' in
        let both : ◌≡◌ {A = Place × State} (p', x') (p, x) = λ i. (one i, same i) in
        let state : u' ≡ u = laws.flow.one_at p x q u' u (subst G both gives') gives in
        let B : State → Type 0 = λ y. state_order.Below b y in
        (p, x, u, at, gives, least.least u gives.in_range below (subst B state below'))

    -- a family of kept states that has all that are listed
    pub filling_left : (family : Place → Option State) → ((p : Place) (a : State) → family p ≡ Some a → family_of solver.builder p ≡ Some a)
        → ((q : Place) → IsListed solver.builder solver.spare.keys q → (a : State) × (family q ≡ Some a)) → IsFilling s family filled
    filling_left family keeps lists = record {
      keeps = λ p a at. kept_state solver.marks (family_of solver.builder) filled p a whole.marks (keeps p a at);
      added = λ q t at none.
          let gone : IsUnlisted q = λ listed. let (b, is) = lists q listed in absurd (let no_such : None ≡ Some b = sym none ∙ is in cc) in
          let (p, a, u, at', gives, below) = led_once q t (derived_here q t at) gone in
          let just = leads_just p a q u at' gives gone in
          let (v, at'', below') = good_left.closed p a q u at' gives in
          let same : v ≡ t = cc in
          let B : State → Type 0 = λ x. state_order.Below u x in
          let is : t ≡ u = state_laws.antisymmetric t u (range_of q t (derived_here q t at)) gives.in_range below (subst B same below') in
          let G : State → Type 0 = λ x. GivesState s p a q x in
          let given_here : GivesState s p a q t = subst G (sym is) gives in
          record {
            before = p;
            state = a;
            there = at';
            just_before = just;
            gives = given_here;
            alone = λ p' a' b there given. precedes_one s p' p q (leads_just p' a' q b there given gone) just;
          };
    }

    filling_all : IsFilling s (family_of solver.builder) filled
    filling_all = filling_left (family_of solver.builder) (λ p a at. at) (λ q listed. (listed.state, listed.kept))

    -- each context of the solver, in whatever order they are, is one of every good family
    pub contexts_left : (contexts : List (List Frame)) → ((frames : List Frame) → HasContext contexts frames → HasContext solver.builder.contexts frames)
        → AreLeastContexts s functions contexts
    contexts_left contexts back = record {
      derived = entered;
      below = λ other good frames has.
          let (offset, a, d) = entered frames has in
          let (u, at, _) = derived_below state_order (flow_of s functions) (height_of s) state_laws laws.flow other good (frames, offset) a d in
          (offset, u, at);
      calls = λ frames has. let (offset, a, d) = entered frames has in (derived_is state_order (flow_of s functions) (height_of s) laws.flow (frames, offset) a d).point.frames;
    }
      where
        entered : (frames : List Frame) → HasContext contexts frames → (offset : ℕ) × (a : State) × IsDerived s functions (frames, offset) a
        entered frames has =
            let there = back frames has in
            let (offset, a, d) = whole.kept.entered (number_of solver.builder.contexts frames) there in
            (offset, a, subst (λ (fs : List Frame). IsDerived s functions (fs, offset) a) (at-number_of solver.builder.contexts frames there) d)

    bodies_left : KeepsBodies s functions filled
    bodies_left programs bodies p a at = derived_bodies s programs functions laws.short bodies p a (derived_here p a at)

    -- each place with a state is in a context of the solver
    has_context : (k : ℕ) (p : Place) (a : State) → p.1 < k → filled p ≡ Some a → HasContext solver.builder.contexts p.0
    has_context zero p a lt at = absurd (omega arith)
    has_context (suc k) p a lt at = elim (some_or_none (family_of solver.builder p)) [
      | inl (b, kept) ↦ has_number solver.builder p b whole.kept.family kept
      | inr gone ↦
          let add = filling_all.added p a at gone in
          let rise = precedes_ascends s add.before p add.just_before in
          let H : List Frame → Type 0 = λ x. HasContext solver.builder.contexts x in
          subst H (sym add.just_before.calls) (has_context k add.before add.state (omega arith) add.there)
    ]

    few_left : HasFewContexts filled
    few_left = (solver.builder.contexts, whole.kept.family.few, λ p a at. has_context (p.1 + 1) p a (omega arith) at)

    ends_left : EndsWell s s.kind (family_of solver.builder) → EndsWell s s.kind filled
    ends_left ends = ends_kept s (Precedes s) (λ p q h. h) (family_of solver.builder) filled filling_all.keeps s.kind ends

    pub good_whole : IsShortEnough s s.kind → EndsWell s s.kind (family_of solver.builder) → IsGoodFamily s functions filled
    good_whole short ends = record {
      short = short;
      good = good_left;
      ends = ends_left ends;
      storage = λ p a at. (fits_of p a (derived_here p a at)).storage;
      few = few_left;
    }

    pub lacks_end : (EndsWell s s.kind (family_of solver.builder) → ⊥) → LacksEnd s functions filled
    lacks_end endless = record {
      derived = derived_here;
      good = good_left;
      few = few_left;
      endless = λ ends. endless (ends_listed s (family_of solver.builder) filled filling_all s.kind ends);
    }

    pub never_both_left : (other : Place → Option State) → EndsWell s s.kind (family_of solver.builder) → LacksEnd s functions other → ⊥
    never_both_left other ends lacks = never_both filled other derived_here (ends_left ends) lacks

    -- what is found
    module _ (family : Place → Option State) (updates : ℕ) (keeps : (p : Place) (a : State) → family p ≡ Some a → family_of solver.builder p ≡ Some a)
        (lists : (q : Place) → IsListed solver.builder solver.spare.keys q → (a : State) × (family q ≡ Some a)) (short : IsShortEnough s s.kind) (ends : EndsWell s s.kind (family_of solver.builder)) where
      pub found_left : updates ≡ solver.changes + solver.passes → HasLeastFilling s functions updates family
      found_left count =
          let F : ℕ → Type 0 = λ n. HasLeastFilling s functions n family in
          subst F (sym count) (record {
            filling = filled;
            fills = filling_left family keeps lists;
            good = good_whole short ends;
            least = least_left;
            within = λ p a at. fits_of p a (derived_here p a at);
            bodies = bodies_left;
            points = whole.points;
            exact = whole.counted.exact;
            at_least = whole.counted.least;
            at_most = visits_at_most s (height_of s) (family_of solver.builder) filled (λ p. IsAmong solver.builder solver.worklist p ⊎ ⊥) whole.visits whole.points (solver.changes + solver.passes)
                whole.visited whole.counted;
          })

      pub needed_left : ((q : Place) (a : State) → family q ≡ Some a → IsListed solver.builder solver.spare.keys q) → NeedsAll s functions family
      needed_left listed =
          needs_all s functions laws family filled (filling_left family keeps lists) (good_whole short ends) derived_here (λ q a at. whole.needed q (listed q a at))

    -- a certificate's family, with the spare states or without
    pub keeps_same : (family : Place → Option State) → ((p : Place) → family p ≡ family_of solver.builder p) → (p : Place) (a : State) → family p ≡ Some a → family_of solver.builder p ≡ Some a
    keeps_same family same p a at = sym (same p) ∙ at

    pub lists_same : (family : Place → Option State) → ((p : Place) → family p ≡ family_of solver.builder p) → (q : Place) → IsListed solver.builder solver.spare.keys q
        → (a : State) × (family q ≡ Some a)
    lists_same family same q listed = (listed.state, same q ∙ listed.kept)

    -- which points are left out, by which states are listed
    pub left_out_of : (l : ListedStates) (keys : List (ℕ × ℕ)) → (l ≡ listed.Kept → keys ≡ []) → (l ≡ listed.Needed → keys ≡ solver.spare.keys) → (key : ℕ × ℕ) → has_point solver.spare.keys key ≡ false
        → has_point keys key ≡ false
    left_out_of listed.Kept keys none spare key not_spare = ap (λ (x : List (ℕ × ℕ)). has_point x key) (none refl)
    left_out_of listed.Needed keys none spare key not_spare = ap (λ (x : List (ℕ × ℕ)). has_point x key) (spare refl) ∙ not_spare

    kept_without : (keys : List (ℕ × ℕ)) (family : Place → Option State) → ((p : Place) → family p ≡ family_without solver.builder keys p) → (q : Place) (a : State) → family q ≡ Some a
        → (has_point keys (point_key_of solver.builder q) ≡ false) × (family_of solver.builder q ≡ Some a)
    kept_without keys family same q a at = elim (cases_Bool (has_point keys (point_key_of solver.builder q))) [
      | inl left_out ↦ absurd (let no_such : None ≡ Some a = sym (same q ∙ ap (λ b. cond b None (family_of solver.builder q)) left_out) ∙ at in cc)
      | inr listed ↦ (listed, sym (same q ∙ ap (λ b. cond b None (family_of solver.builder q)) listed) ∙ at)
    ]

    pub listed_without : (keys : List (ℕ × ℕ)) (family : Place → Option State) → ((p : Place) → family p ≡ family_without solver.builder keys p) → keys ≡ solver.spare.keys
        → (q : Place) (a : State) → family q ≡ Some a → IsListed solver.builder solver.spare.keys q
    listed_without keys family same spare q a at =
        let (not_left_out, kept) = kept_without keys family same q a at in
        record { state = a; kept = kept; not_spare = ap (λ (x : List (ℕ × ℕ)). has_point x (point_key_of solver.builder q)) (sym spare) ∙ not_left_out }

    pub keeps_without : (keys : List (ℕ × ℕ)) (family : Place → Option State) → ((p : Place) → family p ≡ family_without solver.builder keys p) → (p : Place) (a : State) → family p ≡ Some a
        → family_of solver.builder p ≡ Some a
    keeps_without keys family same p a at = (kept_without keys family same p a at).1

    pub lists_without : (keys : List (ℕ × ℕ)) (family : Place → Option State) → ((p : Place) → family p ≡ family_without solver.builder keys p)
        → ((key : ℕ × ℕ) → has_point solver.spare.keys key ≡ false → has_point keys key ≡ false) → (q : Place) → IsListed solver.builder solver.spare.keys q → (a : State) × (family q ≡ Some a)
    lists_without keys family same fewer q listed =
        let at = fewer (point_key_of solver.builder q) listed.not_spare in
        (listed.state, same q ∙ ap (λ b. cond b None (family_of solver.builder q)) at ∙ listed.kept)

  -- a family with few contexts isn't good where too many are derived
  none_where_many : (contexts : List (List Frame)) → AreDerivedContexts s functions contexts → 65535 < length contexts → (family : Place → Option State)
      → IsGood state_order (flow_of s functions) family → HasFewContexts family → ⊥
  none_where_many contexts derived many family good (ys, few, has) =
      let most = few_from_all contexts ys derived.distinct (λ i lt.
      let (off, a, d) = derived.derived i lt in
      let (u, at, below) = derived_below state_order (flow_of s functions) (height_of s) state_laws laws.flow family good _ a d in
      has _ u at) in
      absurd (omega arith)

  -- what justifies a refusal leaves no good family, or the end isn't reached
  none_or_endless : (p : Place) (r : Reason) → IsJustified s functions p r → (r ≡ NeverEnds) ⊎ NoneIsGood s functions
  none_or_endless p r (too_long long) = inr (λ family short good few. long short)
  none_or_endless p r (refused q a r' d x) = inr (λ family short good few. none_where_refused state_order (flow_of s functions) (height_of s) state_laws laws.flow q a r' d x family good)
  none_or_endless p r (apart q a b da db differ) = inr (λ family short good few. none_where_apart state_order (flow_of s functions) (height_of s) state_laws laws.flow q a b da db differ family good)
  none_or_endless p r (too_many q h) = inr (λ family short good few. none_where_many h.contexts h.derived h.many family good few)
  none_or_endless p r (never_ends family h) = inl refl

  pub none_good_from : (fault : Refusal) → NamesPlace (IsJustified s functions) fault → IsExhausted fault ⊎ IsNeverEnding fault ⊎ NoneIsGood s functions
  none_good_from (Refused spot offset failed) (p, e, f, h) = elim (none_or_endless p (reason_of failed) h) [ inl ends ↦ inr (inl ends) | inr none ↦ inr (inr none) ]
  none_good_from (Exhausted by) h = inl tt

  -- a family that lacks an end is of a program that may be long
  lacks_short : (kind : Kind) (family : Place → Option State) → (EndsWell s kind family → ⊥) → IsShortEnough s kind
  lacks_short FontProgram family endless = tt
  lacks_short CvtProgram family endless = tt
  lacks_short (GlyphProgram points contours) family endless = absurd (endless tt)

  pub never_ends_from : (family : Place → Option State) → LacksEnd s functions family → (fault : Refusal) → NamesPlace (IsJustified s functions) fault → IsExhausted fault ⊎ IsNeverEnding fault
  never_ends_from family lacks fault h = elim (none_good_from fault h) [
    | inl memory ↦ inl memory
    | inr (inl ends) ↦ inr ends
    | inr (inr none) ↦ absurd (none family (lacks_short s.kind family lacks.endless) lacks.good lacks.few)
  ]
