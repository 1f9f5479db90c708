-- What a put, and carrying on a point, leave of a sound family.
use Rattle.std.specs.Prelude.{◌≡◌, ◌≢◌, ◌⊎◌, Bool, true, false, Option, Some, None}
use Rattle.std.proofs.Common.{refl, sym, ◌∙◌, ap, subst, inl, inr}
use Rattle.tt_code.specs.declared.reason.Reason.{Reason}
use Rattle.tt_abs.specs.Orders.{Order, OrderLaws}
use Rattle.tt_abs.specs.Flows.{Flow}
use Rattle.tt_abs.specs.Families.{CoversAt, Derived, moved, joined, IsGood}
use Rattle.tt_family.specs.Places.{PutGives, PutsAt}
use Rattle.tt_find.specs.Representation.Solvers.{IsSoundFamily}

module _ {S : Type 0} (o : Order S) where
  pub gives_ascends : (old : Option S) (t : S) (slot : Option S) (c : Bool) → PutGives o old t slot c → (s : S) → old ≡ Some s → (u : S) × (slot ≡ Some u) × o.Below s u
  gives_ascends None t None c p s e = absurd p
  gives_ascends None t (Some u) c p s e = cc
  gives_ascends (Some a) t None c p s e = absurd p
  gives_ascends (Some a) t (Some u) c p s e =
      let same : a ≡ s = cc in
      let B : S → Type 0 = λ x. o.Below x u in
      (u, refl, subst B same p.0.left)

  pub gives_covers : OrderLaws o → (old : Option S) (t : S) (slot : Option S) (c : Bool) → PutGives o old t slot c → (u : S) × (slot ≡ Some u) × o.Below t u
  gives_covers laws None t None c p = absurd p
  gives_covers laws None t (Some u) c p =
      let B : S → Type 0 = λ x. o.Below t x in
      (u, refl, subst B (sym p.0) (laws.reflexive t))
  gives_covers laws (Some a) t None c p = absurd p
  gives_covers laws (Some a) t (Some u) c p = (u, refl, p.0.right)

  pub gives_same : (old : Option S) (t : S) (slot : Option S) → PutGives o old t slot false → slot ≡ old
  gives_same None t None p = absurd p
  gives_same None t (Some u) p = let no_such : false ≡ true = p.1 in cc
  gives_same (Some a) t None p = absurd p
  gives_same (Some a) t (Some u) p = ap Some (p.1.0 refl)

module _ {P S : Type 0} (o : Order S) (laws : OrderLaws o) where
  covers_still : (old new : P → Option S) → ((p : P) (s : S) → old p ≡ Some s → CoversAt o new p s) → (p : P) (s : S) → CoversAt o old p s → CoversAt o new p s
  covers_still old new ascends p s (u, at, below) =
      let (v, at', below') = ascends p u at in
      (v, at', laws.transitive s u v below below')

  -- more may wait, and more may be led to
  pub sound_moved : (f : Flow P S) (family : P → Option S) (MayLead MayLead' : P → P → Type 0) (Waits Waits' : P → Type 0) (Rest : P → P → S → Type 0)
      → IsSoundFamily o f family MayLead Waits Rest → ((p q : P) → MayLead p q → MayLead' p q) → ((p : P) → Waits p → Waits' p) → IsSoundFamily o f family MayLead' Waits' Rest
  sound_moved f family MayLead MayLead' Waits Waits' Rest sound leads more = record {
    derived = sound.derived;
    rest_derived = sound.rest_derived;
    start = sound.start;
    safe = λ p s r at free. sound.safe p s r at (λ m. free (more p m));
    closed = λ p s q t at free gives. elim (sound.closed p s q t at (λ m. free (more p m)) gives) [
      | inl (covered, may) ↦ inl (covered, leads p q may)
      | inr rest ↦ inr rest
    ];
  }

  module _ (f : Flow P S) (same_or_apart : (p q : P) → (p ≡ q) ⊎ (p ≢ q)) where
    put_ascends : (old new : P → Option S) (q : P) (t : S) (c : Bool) → PutsAt o old new q t c → (p : P) (s : S) → old p ≡ Some s → CoversAt o new p s
    put_ascends old new q t c put p s at = elim (same_or_apart p q) [
      | inl same ↦
          let at_q : old q ≡ Some s = ap old (sym same) ∙ at in
          let (u, is, below) = gives_ascends o (old q) t (new q) c put.here s at_q in
          (u, ap new same ∙ is, below)
      | inr apart ↦ (s, put.elsewhere p apart ∙ at, laws.reflexive s)
    ]

    put_derived : (old new : P → Option S) (q : P) (t : S) (c : Bool) → PutsAt o old new q t c → ((p : P) (s : S) → old p ≡ Some s → Derived o f p s) → Derived o f q t
        → (p : P) (s : S) → new p ≡ Some s → Derived o f p s
    put_derived old new q t c put before d p s at = elim (same_or_apart p q) [
      | inl same ↦
          let is : new q ≡ Some s = ap new (sym same) ∙ at in
          let D : P → Type 0 = λ x. Derived o f x s in
          subst D (sym same) (slot_derived (old q) (new q) put.here (before q) is)
      | inr apart ↦ before p s (sym (put.elsewhere p apart) ∙ at)
    ]
      where
        slot_derived : (x slot : Option S) → PutGives o x t slot c → ((s : S) → x ≡ Some s → Derived o f q s) → slot ≡ Some s → Derived o f q s
        slot_derived None None g b e = absurd g
        slot_derived None (Some v) g b e =
            let same : v ≡ s = cc in
            let D : S → Type 0 = λ y. Derived o f q y in
            subst D (sym g.0 ∙ same) d
        slot_derived (Some a) None g b e = absurd g
        slot_derived (Some a) (Some v) g b e =
            let same : v ≡ s = cc in
            let D : S → Type 0 = λ y. Derived o f q y in
            subst D same (joined q a t v (b a refl) d g.0)

    -- what doesn't wait after a put is as it was
    pub stays : (old new : P → Option S) (Waits' : P → Type 0) (q : P) (t : S) (c : Bool) → PutsAt o old new q t c → (c ≡ true → Waits' q)
        → (p : P) → (Waits' p → ⊥) → new p ≡ old p
    stays old new Waits' q t c put wait p free = elim (same_or_apart p q) [
      | inr apart ↦ put.elsewhere p apart
      | inl same ↦ by c refl same
    ]
      where
        by : (b : Bool) → c ≡ b → p ≡ q → new p ≡ old p
        by true e same = absurd (free (let W : P → Type 0 = Waits' in subst W (sym same) (wait e)))
        by false e same =
            let G : Bool → Type 0 = λ b. PutGives o (old q) t (new q) b in
            let kept : new q ≡ old q = gives_same o (old q) t (new q) (subst G e put.here) in
            ap new same ∙ kept ∙ ap old (sym same)

    pub unchanged : (old new : P → Option S) (Waits' : P → Type 0) (q : P) (t : S) (c : Bool) → PutsAt o old new q t c → (c ≡ true → Waits' q)
        → (p : P) (s : S) → new p ≡ Some s → (Waits' p → ⊥) → old p ≡ Some s
    unchanged old new Waits' q t c put wait p s at free = sym (stays old new Waits' q t c put wait p free) ∙ at

    -- a put of what waits: where there was a change the point waits
    pub sound_put : (old new : P → Option S) (MayLead MayLead' : P → P → Type 0) (Waits Waits' : P → Type 0) (Rest Rest' : P → P → S → Type 0) (q : P) (t : S) (c : Bool)
        → IsSoundFamily o f old MayLead Waits Rest → PutsAt o old new q t c → Derived o f q t
        → ((p r : P) (s : S) → Rest p r s → Rest' p r s ⊎ ((r ≡ q) × (s ≡ t) × MayLead' p q)) → ((p r : P) (s : S) → Rest' p r s → Rest p r s)
        → ((p r : P) → MayLead p r → MayLead' p r) → ((p : P) → Waits p → Waits' p) → (c ≡ true → Waits' q)
        → IsSoundFamily o f new MayLead' Waits' Rest'
    sound_put old new MayLead MayLead' Waits Waits' Rest Rest' q t c sound put d fewer back leads more wait =
        let ascends = put_ascends old new q t c put in
        let covers : CoversAt o new q t = gives_covers o laws (old q) t (new q) c put.here in
        record {
          derived = put_derived old new q t c put sound.derived d;
          rest_derived = λ p r s h. sound.rest_derived p r s (back p r s h);
          start = covers_still old new ascends f.entry f.start sound.start;
          safe = λ p s r at free. sound.safe p s r (unchanged old new Waits' q t c put wait p s at free) (λ m. free (more p m));
          closed = λ p s q' t' at free gives.
              elim (sound.closed p s q' t' (unchanged old new Waits' q t c put wait p s at free) (λ m. free (more p m)) gives) [
                | inl (covered, may) ↦ inl (covers_still old new ascends q' t' covered, leads p q' may)
                | inr later ↦ elim (fewer p q' t' later) [
                  | inl still ↦ inr still
                  | inr (place, state, may) ↦
                      let both : ◌≡◌ {A = P × S} (q, t) (q', t') = λ i. (sym place i, sym state i) in
                      inl (let C : P × S → Type 0 = λ x. CoversAt o new x.0 x.1 × MayLead' p x.0 in subst C both (covers, may))
                ]
              ];
        }

    -- a state that went on in place
    pub sound_passed : (old new : P → Option S) (MayLead : P → P → Type 0) (Waits Waits' : P → Type 0) (Rest : P → P → S → Type 0) (p q : P) (a t : S)
        → IsSoundFamily o f old MayLead Waits Rest → new q ≡ Some t → ((r : P) → r ≢ q → new r ≡ old r) → Derived o f q t
        → ((p' r : P) (s : S) → Rest p' r s → (p' ≡ p) × (r ≡ q) × (s ≡ t))
        → MayLead p q → ((r : P) → MayLead r q → r ≡ p) → f.Gives p a q t → ((u v : S) → f.Gives p a q u → f.Gives p a q v → u ≡ v)
        → (f.entry ≢ q) → ((Waits p → ⊥) → old p ≡ Some a)
        → ((r : P) → Waits r → Waits' r) → Waits' q
        → IsSoundFamily o f new MayLead Waits' (λ _ _ _. ⊥)
    sound_passed old new MayLead Waits Waits' Rest p q a t sound here elsewhere d pends may only gives one entry at_p more wait =
        let was = λ (r : P) (s : S) (at : new r ≡ Some s) (free : Waits' r → ⊥). was_there r s at free in
        record {
          derived = λ r s at. elim (same_or_apart r q) [
            | inl same ↦
                let at_q : Some t ≡ Some s = sym here ∙ ap new (sym same) ∙ at in
                let is : t ≡ s = cc in
                let D : P × S → Type 0 = λ x. Derived o f x.0 x.1 in
                let both : ◌≡◌ {A = P × S} (q, t) (r, s) = λ i. (sym same i, is i) in
                subst D both d
            | inr apart ↦ sound.derived r s (sym (elsewhere r apart) ∙ at)
          ];
          rest_derived = λ _ _ _ never. absurd never;
          start = let (u, at, below) = sound.start in (u, elsewhere f.entry entry ∙ at, below);
          safe = λ r s n at free. sound.safe r s n (was r s at free) (λ m. free (more r m));
          closed = λ r s q' t' at free given. inl (elim (sound.closed r s q' t' (was r s at free) (λ m. free (more r m)) given) [
            | inr later ↦
                let (from, place, state) = pends r q' t' later in
                let C : P × P × S → Type 0 = λ x. CoversAt o new x.1 x.2 × MayLead x.0 x.1 in
                let all : ◌≡◌ {A = P × P × S} (p, q, t) (r, q', t') = λ i. (sym from i, sym place i, sym state i) in
                subst C all ((t, here, laws.reflexive t), may)
            | inl ((u, at', below), led) ↦ elim (same_or_apart q' q) [
              | inr apart ↦ ((u, elsewhere q' apart ∙ at', below), led)
              | inl same ↦
                  let L : P → Type 0 = λ x. MayLead r x in
                  let from : r ≡ p = only r (subst L same led) in
                  let at_r : old r ≡ Some s = was r s at free in
                  let at_p' : old p ≡ Some s = ap old (sym from) ∙ at_r in
                  let W : P → Type 0 = λ x. Waits x → ⊥ in
                  let at_p'' = at_p (subst W from (λ m. free (more r m))) in
                  let state : s ≡ a = cc in
                  let G : P × S × P → Type 0 = λ x. f.Gives x.0 x.1 x.2 t' in
                  let all : ◌≡◌ {A = P × S × P} (r, s, q') (p, a, q) = λ i. (from i, state i, same i) in
                  let is : t' ≡ t = one t' t (subst G all given) gives in
                  let B : S → Type 0 = λ x. o.Below x t in
                  ((t, ap new same ∙ here, subst B (sym is) (laws.reflexive t)), led)
            ]
          ]);
        }
      where
        was_there : (r : P) (s : S) → new r ≡ Some s → (Waits' r → ⊥) → old r ≡ Some s
        was_there r s at free = elim (same_or_apart r q) [
          | inl same ↦ absurd (free (let W : P → Type 0 = Waits' in subst W (sym same) wait))
          | inr apart ↦ sym (elsewhere r apart) ∙ at
        ]

    -- a point that waited was carried on
    pub sound_opened : (family : P → Option S) (MayLead : P → P → Type 0) (Waits Waits' : P → Type 0) (Rest' : P → P → S → Type 0) (p : P) (s : S)
        → IsSoundFamily o f family MayLead Waits (λ _ _ _. ⊥) → family p ≡ Some s → ((r : Reason) → f.Refuses p s r → ⊥)
        → ((q : P) (t : S) → f.Gives p s q t → Rest' p q t) → ((r q : P) (t : S) → Rest' r q t → f.Gives p s q t) → ((q : P) → q ≢ p → Waits q → Waits' q)
        → IsSoundFamily o f family MayLead Waits' Rest'
    sound_opened family MayLead Waits Waits' Rest' p s sound at free gives back more = record {
      derived = sound.derived;
      rest_derived = λ r q t h. moved p q s t (sound.derived p s at) free (back r q t h);
      start = sound.start;
      safe = λ p' s' r at' unmarked refused. elim (same_or_apart p' p) [
        | inl same ↦
            let at_p : family p ≡ Some s' = ap family (sym same) ∙ at' in
            let one : s' ≡ s = cc in
            let R : P × S → Type 0 = λ x. f.Refuses x.0 x.1 r in
            free r (subst R (pair_same same one) refused)
        | inr other ↦ sound.safe p' s' r at' (λ m. unmarked (more p' other m)) refused
      ];
      closed = λ p' s' q t at' unmarked given. elim (same_or_apart p' p) [
        | inl same ↦
            let at_p : family p ≡ Some s' = ap family (sym same) ∙ at' in
            let one : s' ≡ s = cc in
            let G : P × S → Type 0 = λ x. f.Gives x.0 x.1 q t in
            let R : P → Type 0 = λ x. Rest' x q t in
            inr (subst R (sym same) (gives q t (subst G (pair_same same one) given)))
        | inr other ↦ elim (sound.closed p' s' q t at' (λ m. unmarked (more p' other m)) given) [ inl covered ↦ inl covered | inr never ↦ absurd never ]
      ];
    }
      where
        pair_same : {a b : P} {x y : S} → a ≡ b → x ≡ y → ◌≡◌ {A = P × S} (a, x) (b, y)
        pair_same e e' = λ i. (e i, e' i)

    -- where nothing waits the family is good
    pub good_from_sound : ((p : P) (s : S) → Derived o f p s → o.InRange s) → (family : P → Option S) (MayLead : P → P → Type 0)
        → IsSoundFamily o f family MayLead (λ _. ⊥) (λ _ _ _. ⊥) → IsGood o f family
    good_from_sound in_range family MayLead sound = record {
      in_range = λ p s at. in_range p s (sound.derived p s at);
      start = sound.start;
      safe = λ p s r at. sound.safe p s r at (λ m. m);
      closed = λ p s q t at gives. elim (sound.closed p s q t at (λ m. m) gives) [ inl (covered, may) ↦ covered | inr never ↦ absurd never ];
    }
