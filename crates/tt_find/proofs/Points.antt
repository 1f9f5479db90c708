-- The steps of the finder on its contexts and on the points that wait, for any order and flow of states.
use Rattle.std.specs.Prelude.{◌≡◌, ◌≢◌, ◌⊎◌, ◌==◌, ◌&&◌, ℕ, ◌<◌, Bool, true, false, cond, Option, Some, None, List, [], ◌∷◌, ◌++◌, length}
use Rattle.std.proofs.Common.{refl, sym, ◌∙◌, ap, subst, arith, inl, inr, length-append}
use Rattle.std.proofs.Math.ListN.{get_or-append}
use Rattle.std.proofs.Math.Seq.{get_or-append_seam}
use Rattle.std.proofs.lemmas.Bool.{cases_lt, cases_eq, cases_Bool}
use Rattle.std.proofs.lemmas.Bool.Decides.{Decides-and, Decides-eqb}
use Rattle.tt_code.specs.declared.machine.Frame.{Frame}
use Rattle.tt_code.specs.declared.reason.Reason.{Reason}
use Rattle.tt_abs.specs.declared.state.State.{State}
use Rattle.tt_abs.specs.Orders.{Order, OrderLaws}
use Rattle.tt_abs.specs.Flows.{Flow}
use Rattle.tt_abs.specs.Families.{Derived}
use Rattle.tt_abs.specs.StateFlow.{Place}
use Rattle.tt_family.specs.Checks.{point_key_of}
use Rattle.tt_family.specs.Contents.{AddsContext, Contents, IsFamily, family_of, frames_at, number_of, same_frames}
use Rattle.tt_family.specs.Numbers.{at-number_of, number_of-append, number_of-place, same_frames-decides}
use Rattle.tt_family.specs.Places.{PutGives, PutsAt, has_point, states_of}
use Rattle.tt_family.specs.Puts.{family_at, number_at, place_of}
use Rattle.tt_family.proofs.Puts.{cases_place}
use Rattle.tt_find.specs.Representation.Solvers.{IsAmong, IsSoundSoFar, WaitsMore}
use Rattle.tt_find.proofs.Waits.{point_behind, point_here}
use Rattle.tt_find.proofs.Sound.{sound_moved, sound_opened, sound_put}

pub same_or_apart : (p q : Place) → (p ≡ q) ⊎ (p ≢ q)
same_or_apart (fs, a) (gs, b) = elim (cases_Bool (same_frames fs gs)) [
  | inr miss ↦ inr (λ e. let hit = (same_frames-decides fs gs).1 (ap (λ (x : Place). x.0) e) in absurd (let no_such : true ≡ false = sym hit ∙ miss in cc))
  | inl hit ↦ elim (cases_eq a b) [
    | inl same ↦ inl (let frames = (same_frames-decides fs gs).0 hit in λ i. (frames i, same i))
    | inr apart ↦ inr (λ e. apart (ap (λ (x : Place). x.1) e))
  ]
]

-- a family with another slot at one place
abbrev pub with_slot : (Place → Option State) → Place → Option State → Place → Option State
with_slot family q slot p = cond (same_frames p.0 q.0 && (p.1 == q.1)) slot (family p)

pub slot_here : (family : Place → Option State) (q : Place) (slot : Option State) → with_slot family q slot q ≡ slot
slot_here family q slot = ap (λ b. cond b slot (family q)) (both (same_frames q.0 q.0) (q.1 == q.1) ((same_frames-decides q.0 q.0).1 refl) ((Decides-eqb q.1 q.1).1 refl))
  where
    both : (a b : Bool) → a ≡ true → b ≡ true → (a && b) ≡ true
    both true true e f = refl
    both true false e f = f
    both false b e f = e

pub slot_elsewhere : (family : Place → Option State) (q : Place) (slot : Option State) (p : Place) → p ≢ q → with_slot family q slot p ≡ family p
slot_elsewhere family q slot p apart = elim (cases_Bool (same_frames p.0 q.0 && (p.1 == q.1))) [
  | inr f ↦ ap (λ b. cond b slot (family p)) f
  | inl t ↦
      let h = (Decides-and (same_frames p.0 q.0) (p.1 == q.1) (same_frames-decides p.0 q.0) (Decides-eqb p.1 q.1)).0 t in
      absurd (apart (λ i. (h.0 i, h.1 i)))
]

-- a point with a state has a context
pub has_number : (v : Contents) (p : Place) (s : State) → IsFamily v → family_of v p ≡ Some s → number_of v.contexts p.0 < length v.contexts
has_number v p s family at = family.held (number_of v.contexts p.0) p.1 s at

-- the frames of an old context stay the same
pub frames_stay : (old new : List (List Frame)) (frames : List Frame) (n c : ℕ) → AddsContext old new frames n → c < length old → (frames_at new c ≡ frames_at old c) × (c < length new)
frames_stay old new frames n c adds lt = elim adds.how [
  | inl same ↦ (ap (λ x. frames_at x c) same.1, let e = ap length same.1 in omega arith)
  | inr added ↦
      let e = ap length added.2 in
      let long = length-append old (frames ∷ []) in
      (ap (λ x. frames_at x c) added.2 ∙ get_or-append old (frames ∷ []) [] c lt, omega arith)
]

-- where a context was added
module _ (v v' : Contents) (frames : List Frame) (number : ℕ) (adds : AddsContext v.contexts v'.contexts frames number) (states : v'.states ≡ v.states) where
  -- an old context has its number
  pub number_kept : (fs : List Frame) → number_of v.contexts fs < length v.contexts → number_of v'.contexts fs ≡ number_of v.contexts fs
  number_kept fs lt = elim adds.how [
    | inl same ↦ ap (λ (x : List (List Frame)). number_of x fs) same.1
    | inr new ↦ ap (λ (x : List (List Frame)). number_of x fs) new.2 ∙ number_of-append v.contexts frames fs lt
  ]

  pub key_kept : (p : Place) → number_of v.contexts p.0 < length v.contexts → ◌≡◌ {A = ℕ × ℕ} (point_key_of v' p) (point_key_of v p)
  key_kept p lt = λ i. (number_kept p.0 lt i, p.1)

  -- each place has the states that it had
  pub family_kept : IsFamily v → IsFamily v' → (p : Place) → family_of v' p ≡ family_of v p
  family_kept family family' p = elim (cases_lt (number_of v.contexts p.0) (length v.contexts)) [
    | inl lt ↦ ap (λ x. states_of x (number_of v'.contexts p.0, p.1)) states ∙ ap (λ n. states_of v.states (n, p.1)) (number_kept p.0 lt)
    | inr ge ↦ by (family_of v' p) (family_of v p) refl refl (λ lt. absurd (omega arith))
  ]
    where
      by : (x y : Option State) → family_of v' p ≡ x → family_of v p ≡ y → (number_of v.contexts p.0 < length v.contexts → ⊥) → x ≡ y
      by None None e e' ge = refl
      by x (Some a) e e' ge = absurd (ge (has_number v p a family e'))
      by (Some a) None e e' ge =
          let at : states_of v.states (number_of v'.contexts p.0, p.1) ≡ Some a = ap (λ x. states_of x (number_of v'.contexts p.0, p.1)) (sym states) ∙ e in
          let old : number_of v'.contexts p.0 < length v.contexts = family.held (number_of v'.contexts p.0) p.1 a at in
          let now = at-number_of v'.contexts p.0 (has_number v' p a family' e) in
          let (stay, _) = frames_stay v.contexts v'.contexts frames number (number_of v'.contexts p.0) adds old in
          let most = number_of-place v.contexts p.0 (number_of v'.contexts p.0) old (sym stay ∙ now) in
          absurd (ge (omega arith))

module _ (o : Order State) (f : Flow Place State) where
  -- a point is taken out of those that wait
  pub solver_popped : OrderLaws o → (v : Contents) (worklist worklist' : List (ℕ × ℕ)) (filled : Place → Option State) (MayLead : Place → Place → Type 0) (c off : ℕ)
      → IsSoundSoFar o f v worklist filled MayLead (λ _. ⊥) (λ _ _ _. ⊥) → worklist ≡ (c, off) ∷ worklist'
      → IsSoundSoFar o f v worklist' filled MayLead (λ p. p ≡ place_of v c off) (λ _ _ _. ⊥)
  solver_popped order v worklist worklist' filled MayLead c off solver is = record {
    family = solver.family;
    entered = solver.entered;
    held = λ a b m. solver.held a b (stays (a, b) m);
    sound = sound_moved o order f filled MayLead MayLead (λ p. IsAmong v worklist p ⊎ ⊥) (λ p. IsAmong v worklist' p ⊎ (p ≡ place_of v c off)) (λ _ _ _. ⊥) solver.sound (λ p q m. m)
        (λ p m. elim m [ inl hit ↦ was p hit | inr never ↦ absurd never ]);
  }
    where
      has_at : (k : ℕ × ℕ) → has_point worklist k ≡ has_point ((c, off) ∷ worklist') k
      has_at k = ap (λ (x : List (ℕ × ℕ)). has_point x k) is

      stays : (k : ℕ × ℕ) → has_point worklist' k ≡ true → has_point worklist k ≡ true
      stays k m = elim (cases_place k (c, off)) [
        | inl same ↦ ap (has_point worklist) same ∙ has_at (c, off) ∙ point_here (c, off) worklist'
        | inr apart ↦ has_at k ∙ point_behind (c, off) k worklist' apart ∙ m
      ]

      was : (p : Place) → IsAmong v worklist p → IsAmong v worklist' p ⊎ (p ≡ place_of v c off)
      was p hit = elim (cases_place (point_key_of v p) (c, off)) [
        | inr apart ↦ inl (sym (point_behind (c, off) (point_key_of v p) worklist' apart) ∙ sym (has_at (point_key_of v p)) ∙ hit)
        | inl same ↦
            let n : number_of v.contexts p.0 ≡ c = ap (λ (x : ℕ × ℕ). x.0) same in
            let b : p.1 ≡ off = ap (λ (x : ℕ × ℕ). x.1) same in
            let (a, at) = solver.held (number_of v.contexts p.0) p.1 hit in
            let frames : p.0 ≡ frames_at v.contexts c = sym (at-number_of v.contexts p.0 (solver.family.held (number_of v.contexts p.0) p.1 a at)) ∙ ap (frames_at v.contexts) n in
            inr (λ i. (frames i, b i))
      ]

  -- the point was carried on
  pub solver_opened : OrderLaws o → (v : Contents) (worklist : List (ℕ × ℕ)) (filled : Place → Option State) (MayLead : Place → Place → Type 0) (q : Place) (s : State) (Rest : Place → Place → State → Type 0)
      → IsSoundSoFar o f v worklist filled MayLead (λ p. p ≡ q) (λ _ _ _. ⊥) → filled q ≡ Some s → ((r : Reason) → f.Refuses q s r → ⊥)
      → ((p : Place) (t : State) → f.Gives q s p t → Rest q p t) → ((r p : Place) (t : State) → Rest r p t → f.Gives q s p t)
      → IsSoundSoFar o f v worklist filled MayLead (λ _. ⊥) Rest
  solver_opened order v worklist filled MayLead q s Rest solver at free gives back = record {
    family = solver.family;
    entered = solver.entered;
    held = solver.held;
    sound = sound_opened o order f same_or_apart filled MayLead (λ p. IsAmong v worklist p ⊎ (p ≡ q)) (λ p. IsAmong v worklist p ⊎ ⊥) Rest q s solver.sound at free gives back
        (λ p apart m. elim m [ inl hit ↦ inl hit | inr same ↦ absurd (apart same) ]);
  }

  -- a context may have been added
  pub solver_grown : OrderLaws o → (v v' : Contents) (worklist : List (ℕ × ℕ)) (filled : Place → Option State) (MayLead MayLead' : Place → Place → Type 0) (Rest : Place → Place → State → Type 0)
      (frames : List Frame) (number off : ℕ) (t : State) → IsSoundSoFar o f v worklist filled MayLead (λ _. ⊥) Rest → AddsContext v.contexts v'.contexts frames number → v'.states ≡ v.states
      → IsFamily v' → Derived o f (frames, off) t → ((p q : Place) → MayLead p q → MayLead' p q)
      → IsSoundSoFar o f v' worklist filled MayLead' (λ _. ⊥) Rest
  solver_grown order v v' worklist filled MayLead MayLead' Rest frames number off t solver adds states family' d leads = record {
    family = family';
    entered = entered;
    held = λ c b m. let (a, at) = solver.held c b m in (a, ap (λ x. states_of x (c, b)) states ∙ at);
    sound = sound_moved o order f filled MayLead MayLead' (λ p. IsAmong v worklist p ⊎ ⊥) (λ p. IsAmong v' worklist p ⊎ ⊥) Rest solver.sound leads (λ p m. elim m [
      | inl hit ↦
          let (a, at) = solver.held (number_of v.contexts p.0) p.1 hit in
          inl (ap (has_point worklist) (key_kept v v' frames number adds states p (solver.family.held (number_of v.contexts p.0) p.1 a at)) ∙ hit)
      | inr never ↦ absurd never
    ]);
  }
    where
      entered : (i : ℕ) → i < length v'.contexts → (offset : ℕ) × (a : State) × Derived o f (frames_at v'.contexts i, offset) a
      entered i lt = elim adds.how [
        | inl same ↦
            let E : List (List Frame) → Type 0 = λ x. i < length x → (offset : ℕ) × (a : State) × Derived o f (frames_at x i, offset) a in
            subst E (sym same.1) (solver.entered i) lt
        | inr new ↦
            let E : List (List Frame) → Type 0 = λ x. i < length x → (offset : ℕ) × (a : State) × Derived o f (frames_at x i, offset) a in
            subst E (sym new.2) (appended i) lt
      ]
        where
          appended : (i : ℕ) → i < length (v.contexts ++ frames ∷ []) → (offset : ℕ) × (a : State) × Derived o f (frames_at (v.contexts ++ frames ∷ []) i, offset) a
          appended i lt =
              let long = length-append v.contexts (frames ∷ []) in
              elim (cases_lt i (length v.contexts)) [
                | inl old ↦
                    let (a, s, da) = solver.entered i old in
                    let D : List Frame → Type 0 = λ x. Derived o f (x, a) s in
                    (a, s, subst D (sym (get_or-append v.contexts (frames ∷ []) [] i old)) da)
                | inr last ↦
                    let e : length v.contexts ≡ i = omega arith in
                    let at : frames ≡ frames_at (v.contexts ++ frames ∷ []) i = sym (get_or-append_seam v.contexts frames [] []) ∙ ap (frames_at (v.contexts ++ frames ∷ [])) e in
                    let D : List Frame → Type 0 = λ x. Derived o f (x, off) t in
                    (off, t, subst D at d)
              ]

  -- what waits after a put
  module _ (v v' : Contents) (worklist worklist' : List (ℕ × ℕ)) (c off : ℕ) (changed : Bool) (same : v'.contexts ≡ v.contexts) (marks : WaitsMore worklist worklist' (c, off) changed)
      (family : IsFamily v) (lt : c < length v.contexts) where
    key_same : (p : Place) → ◌≡◌ {A = ℕ × ℕ} (point_key_of v' p) (point_key_of v p)
    key_same p = λ i. (number_of (same i) p.0, p.1)

    pub waits_on : (p : Place) → IsAmong v worklist p → IsAmong v' worklist' p
    waits_on p hit = ap (has_point worklist') (key_same p) ∙ marks.more (point_key_of v p) hit

    pub waits_here : changed ≡ true → IsAmong v' worklist' (place_of v c off)
    waits_here is = ap (has_point worklist') (key_same (place_of v c off) ∙ (λ i. (number_at v c family lt i, off))) ∙ marks.here is

    pub waits_back : ((a b : ℕ) → has_point worklist (a, b) ≡ true → a < length v.contexts) → (p : Place) → IsAmong v' worklist' p
        → IsAmong v worklist p ⊎ ((p ≡ place_of v c off) × (changed ≡ true))
    waits_back held p hit = elim (marks.back (point_key_of v p) (ap (has_point worklist') (sym (key_same p)) ∙ hit)) [
      | inl old ↦ inl old
      | inr (here, is) ↦
          let n : number_of v.contexts p.0 ≡ c = ap (λ (x : ℕ × ℕ). x.0) here in
          let b : p.1 ≡ off = ap (λ (x : ℕ × ℕ). x.1) here in
          let frames : p.0 ≡ frames_at v.contexts c = sym (at-number_of v.contexts p.0 (omega arith)) ∙ ap (frames_at v.contexts) n in
          inr ((λ i. (frames i, b i)), is)
    ]

  -- the first of what is still to be put was put
  pub solver_put : OrderLaws o → (v v' : Contents) (worklist worklist' : List (ℕ × ℕ)) (filled filled' : Place → Option State) (MayLead MayLead' : Place → Place → Type 0) (c off : ℕ) (t : State) (changed : Bool)
      (Rest Rest' : Place → Place → State → Type 0)
      → IsSoundSoFar o f v worklist filled MayLead (λ _. ⊥) Rest → c < length v.contexts → PutsAt o (family_of v) (family_of v') (place_of v c off) t changed
      → PutsAt o filled filled' (place_of v c off) t changed → v'.contexts ≡ v.contexts → IsFamily v' → WaitsMore worklist worklist' (c, off) changed → Derived o f (place_of v c off) t
      → ((p r : Place) (s : State) → Rest p r s → Rest' p r s ⊎ ((r ≡ place_of v c off) × (s ≡ t) × MayLead' p (place_of v c off)))
      → ((p r : Place) (s : State) → Rest' p r s → Rest p r s) → ((p r : Place) → MayLead p r → MayLead' p r)
      → IsSoundSoFar o f v' worklist' filled' MayLead' (λ _. ⊥) Rest'
  solver_put order v v' worklist worklist' filled filled' MayLead MayLead' c off t changed Rest Rest' solver lt put fills same family marks d fewer back leads =
      let long = ap length same in
      let E : List (List Frame) → Type 0 = λ x. (i : ℕ) → i < length x → (a : ℕ) × (s : State) × Derived o f (frames_at x i, a) s in
      record {
        family = family;
        entered = subst E (sym same) solver.entered;
        held = held;
        sound = sound_put o order f same_or_apart filled filled' MayLead MayLead' (λ p. IsAmong v worklist p ⊎ ⊥) (λ p. IsAmong v' worklist' p ⊎ ⊥) Rest Rest' (place_of v c off) t changed
            solver.sound fills d fewer back leads
            (λ p m. elim m [ inl hit ↦ inl (waits_on v v' worklist worklist' c off changed same marks solver.family lt p hit) | inr never ↦ absurd never ])
            (λ is. inl (waits_here v v' worklist worklist' c off changed same marks solver.family lt is));
      }
    where
      there : (x y : Option State) → PutGives o x t y changed → (a : State) × (y ≡ Some a)
      there None None g = absurd g
      there None (Some u) g = (u, refl)
      there (Some a) None g = absurd g
      there (Some a) (Some u) g = (u, refl)

      ascends : (a b : ℕ) (s : State) → states_of v.states (a, b) ≡ Some s → (u : State) × (states_of v'.states (a, b) ≡ Some u)
      ascends a b s at =
          let lt' = solver.family.held a b s at in
          let moved : family_of v' (place_of v a b) ≡ states_of v'.states (a, b) =
          let long' = ap length same in (λ i. family_of v' (frames_at (sym same i) a, b)) ∙ family_at v' a b family (omega arith) in
          elim (same_or_apart (place_of v a b) (place_of v c off)) [
            | inl here ↦
                let (u, is) = there (family_of v (place_of v c off)) (family_of v' (place_of v c off)) put.here in
                (u, sym moved ∙ ap (family_of v') here ∙ is)
            | inr apart ↦ (s, sym moved ∙ put.elsewhere (place_of v a b) apart ∙ family_at v a b solver.family lt' ∙ at)
          ]

      held : (a b : ℕ) → has_point worklist' (a, b) ≡ true → (s : State) × (states_of v'.states (a, b) ≡ Some s)
      held a b m = elim (marks.back (a, b) m) [
        | inl old ↦ let (s, at) = solver.held a b old in ascends a b s at
        | inr (new, _) ↦
            let moved : family_of v' (place_of v c off) ≡ states_of v'.states (c, off) =
            let long' = ap length same in (λ i. family_of v' (frames_at (sym same i) c, off)) ∙ family_at v' c off family (omega arith) in
            let (u, is) = there (family_of v (place_of v c off)) (family_of v' (place_of v c off)) put.here in
            (u, ap (states_of v'.states) new ∙ sym moved ∙ is)
      ]
