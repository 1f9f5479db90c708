-- How often states come to the places.
use Rattle.std.specs.Prelude.{◌≡◌, ◌≢◌, ◌⊎◌, ℕ, zero, suc, ◌+◌, ◌*◌, ◌≤◌, ◌<◌, true, false, Option, Some, None, List, [], ◌∷◌, length}
use Rattle.std.specs.List.{sum_by}
use Rattle.std.proofs.Common.{refl, sym, ◌∙◌, ap, subst, arith, inl, inr}
use Rattle.std.proofs.lemmas.List.Sums.{sum_by-cons}
use Rattle.tt_code.specs.Settings.{Setting}
use Rattle.tt_abs.specs.declared.state.State.{State}
use Rattle.tt_abs.specs.Lines.{Precedes}
use Rattle.tt_abs.specs.StateFlow.{Place}
use Rattle.tt_abs.specs.States.{state_laws, state_order}
use Rattle.tt_abs.proofs.LineLaws.{precedes_one, precedes_ascends}
use Rattle.tt_family.specs.Places.{PutGives, PutsAt}
use Rattle.tt_family.proofs.FillingLaws.{some_or_none}
use Rattle.tt_find.specs.Found.{HasPlace}
use Rattle.tt_find.specs.Representation.Solvers.{ArePoints, AreVisits}
use Rattle.tt_find.proofs.Points.{same_or_apart}

-- one more at a place
abbrev pub one_more : (Place → ℕ) → Place → Place → ℕ
one_more visits q p = elim (same_or_apart p q) as (λ _. ℕ) [ inl same ↦ visits p + 1 | inr apart ↦ visits p ]

pub more_here : (visits : Place → ℕ) (q : Place) → one_more visits q q ≡ visits q + 1
more_here visits q = go (same_or_apart q q)
  where
    go : (x : (q ≡ q) ⊎ (q ≢ q)) → (elim x as (λ _. ℕ) [ inl same ↦ visits q + 1 | inr apart ↦ visits q ]) ≡ visits q + 1
    go (inl same) = refl
    go (inr apart) = absurd (apart refl)

pub more_elsewhere : (visits : Place → ℕ) (q p : Place) → p ≢ q → one_more visits q p ≡ visits p
more_elsewhere visits q p other = go (same_or_apart p q)
  where
    go : (x : (p ≡ q) ⊎ (p ≢ q)) → (elim x as (λ _. ℕ) [ inl same ↦ visits p + 1 | inr apart ↦ visits p ]) ≡ visits p
    go (inl same) = absurd (other same)
    go (inr apart) = refl

pub more_ascends : (visits : Place → ℕ) (q p : Place) → visits p ≤ one_more visits q p
more_ascends visits q p = go (same_or_apart p q)
  where
    go : (x : (p ≡ q) ⊎ (p ≢ q)) → visits p ≤ (elim x as (λ _. ℕ) [ inl same ↦ visits p + 1 | inr apart ↦ visits p ])
    go (inl same) = omega arith
    go (inr apart) = omega arith

-- the visits of some places together
sum_ascends : (f g : Place → ℕ) → ((p : Place) → f p ≤ g p) → (ps : List Place) → sum_by f ps ≤ sum_by g ps
sum_ascends f g le [] = omega arith
sum_ascends f g le (p ∷ ps) =
    let ih = sum_ascends f g le ps in
    let one = le p in
    let e = sum_by-cons f p ps in
    let e' = sum_by-cons g p ps in
    omega arith

sum_more : (f g : Place → ℕ) → ((p : Place) → f p ≤ g p) → (q : Place) → f q + 1 ≤ g q → (ps : List Place) → HasPlace ps q → sum_by f ps + 1 ≤ sum_by g ps
sum_more f g le q more [] never = absurd never
sum_more f g le q more (p ∷ ps) has =
    let e = sum_by-cons f p ps in
    let e' = sum_by-cons g p ps in
    elim has [
      | inl same ↦
          let rest = sum_ascends f g le ps in
          let a : f q ≡ f p = ap f same in
          let b : g q ≡ g p = ap g same in
          omega arith
      | inr later ↦
          let ih = sum_more f g le q more ps later in
          let one = le p in
          omega arith
    ]

pub sum_at_most : (f : Place → ℕ) (m : ℕ) → ((p : Place) → f p ≤ m) → (ps : List Place) → sum_by f ps ≤ length ps * m
sum_at_most f m le [] = omega arith
sum_at_most f m le (p ∷ ps) =
    let ih = sum_at_most f m le ps in
    let one = le p in
    let e = sum_by-cons f p ps in
    let l : length (p ∷ ps) * m ≡ length ps * m + m = omega arith in
    omega arith

-- a state came once more to a place
pub points_more : (filled filled' : Place → Option State) (visits : Place → ℕ) (points : List Place) (count : ℕ) (q : Place) (t : State) → ArePoints filled visits points count
    → filled' q ≡ Some t → ((p : Place) → p ≢ q → filled' p ≡ filled p) → (points' : List Place) × ArePoints filled' (one_more visits q) points' (count + 1)
points_more filled filled' visits points count q t are here elsewhere = elim (some_or_none (filled q)) [
  | inl (a, at) ↦ (
    points,
    record {
      exact = record {
        distinct = are.exact.distinct;
        all = λ p b at'. elim (same_or_apart p q) [
          | inl same ↦ let H : Place → Type 0 = λ x. HasPlace points x in subst H (sym same) (are.exact.all q a at)
          | inr apart ↦ are.exact.all p b (sym (elsewhere p apart) ∙ at')
        ];
        only = λ p has. elim (same_or_apart p q) [
          | inl same ↦ (t, ap filled' same ∙ here)
          | inr apart ↦ let (b, at') = are.exact.only p has in (b, elsewhere p apart ∙ at')
        ];
      };
      least = let l = are.least in omega arith;
      most =
          let more = more_here visits q in
          let sums = sum_more visits (one_more visits q) (more_ascends visits q) q (omega arith) points (are.exact.all q a at) in
          let m = are.most in omega arith;
    },
  )
  | inr none ↦ (
    q ∷ points,
    record {
      exact = record {
        distinct = ((λ has. let (b, at) = are.exact.only q has in let no_such : None ≡ Some b = sym none ∙ at in cc), are.exact.distinct);
        all = λ p b at'. elim (same_or_apart p q) [
          | inl same ↦ inl same
          | inr apart ↦ inr (are.exact.all p b (sym (elsewhere p apart) ∙ at'))
        ];
        only = λ p has. elim (same_or_apart p q) [
          | inl same ↦ (t, ap filled' same ∙ here)
          | inr apart ↦ elim has [
            | inl same ↦ absurd (apart same)
            | inr later ↦ let (b, at') = are.exact.only p later in (b, elsewhere p apart ∙ at')
          ]
        ];
      };
      least = let l = are.least in omega arith;
      most =
          let more = more_here visits q in
          let sums = sum_ascends visits (one_more visits q) (more_ascends visits q) points in
          let e = sum_by-cons (one_more visits q) q points in
          let m = are.most in omega arith;
    },
  )
]

pub points_same : (filled filled' : Place → Option State) (visits : Place → ℕ) (points : List Place) (count : ℕ) → ArePoints filled visits points count
    → ((p : Place) → filled' p ≡ filled p) → ArePoints filled' visits points count
points_same filled filled' visits points count are same = record {
  exact = record {
    distinct = are.exact.distinct;
    all = λ p b at. are.exact.all p b (sym (same p) ∙ at);
    only = λ p has. let (b, at) = are.exact.only p has in (b, same p ∙ at);
  };
  least = are.least;
  most = are.most;
}

module _ (s : Setting) (h : ℕ) where
  -- a kept state has changed, or is new
  pub visits_changed : (stored stored' filled filled' : Place → Option State) (Waits Waits' : Place → Type 0) (visits : Place → ℕ) (q : Place) (t : State)
      → AreVisits s h stored filled Waits visits → PutsAt state_order stored stored' q t true → stored q ≡ filled q → filled' q ≡ stored' q → ((p : Place) → p ≢ q → filled' p ≡ filled p)
      → state_order.left t ≤ h → ((a : State) → stored q ≡ Some a → state_order.InRange a) → ((p : Place) → Waits' p → Waits p ⊎ (p ≡ q))
      → AreVisits s h stored' filled' Waits' (one_more visits q)
  visits_changed stored stored' filled filled' Waits Waits' visits q t are put kept here elsewhere low ranged back = record {
    seen = λ p a at. elim (same_or_apart p q) [
      | inl same ↦ let e = ap (one_more visits q) same in let m = more_here visits q in omega arith
      | inr apart ↦ let n = are.seen p a (sym (elsewhere p apart) ∙ at) in let m = more_ascends visits q p in omega arith
    ];
    unseen = λ p none. elim (same_or_apart p q) [
      | inl same ↦
          let (u, is) = there (stored q) (stored' q) put.here in
          absurd (let no_such : Some u ≡ None = sym is ∙ sym here ∙ ap filled' (sym same) ∙ none in cc)
      | inr apart ↦ more_elsewhere visits q p apart ∙ are.unseen p (sym (elsewhere p apart) ∙ none)
    ];
    waits = λ p w. elim (same_or_apart p q) [
      | inl same ↦ let e = ap (one_more visits q) same in let m = more_here visits q in omega arith
      | inr apart ↦ elim (back p w) [
        | inl old ↦ let n = are.waits p old in let m = more_ascends visits q p in omega arith
        | inr same ↦ absurd (apart same)
      ]
    ];
    high = λ p a at. elim (same_or_apart p q) [
      | inr apart ↦ let n = are.high p a (sym (put.elsewhere p apart) ∙ at) in let m = more_elsewhere visits q p apart in omega arith
      | inl same ↦
          let e = ap (one_more visits q) same in
          let m = more_here visits q in
          let n = high_here (stored q) (stored' q) refl put.here a (ap stored' (sym same) ∙ at) in
          omega arith
    ];
    before = λ p a at none. are.before p a (sym (elsewhere p (apart_from p none)) ∙ at) (sym (put.elsewhere p (apart_from p none)) ∙ none);
    follow = λ p r just none.
        let n = are.follow p r just (sym (put.elsewhere r (apart_from r none)) ∙ none) in
        let e = more_elsewhere visits q r (apart_from r none) in
        let m = more_ascends visits q p in
        omega arith;
    ahead = λ p r just none w.
        let other = apart_from r none in
        let gone = sym (put.elsewhere r other) ∙ none in
        let e = more_elsewhere visits q r other in
        elim (back p w) [
          | inl old ↦ let n = are.ahead p r just gone old in let m = more_ascends visits q p in omega arith
          | inr same ↦
              let n = are.follow p r just gone in
              let e' = ap (one_more visits q) same in
              let v = ap visits same in
              let m = more_here visits q in
              omega arith
        ];
  }
    where
      there : (x y : Option State) → PutGives state_order x t y true → (u : State) × (y ≡ Some u)
      there None None g = absurd g
      there None (Some u) g = (u, refl)
      there (Some a) None g = absurd g
      there (Some a) (Some u) g = (u, refl)

      apart_from : (p : Place) → stored' p ≡ None → p ≢ q
      apart_from p none same =
          let (u, is) = there (stored q) (stored' q) put.here in
          let no_such : Some u ≡ None = sym is ∙ ap stored' (sym same) ∙ none in cc

      high_here : (x y : Option State) → stored q ≡ x → PutGives state_order x t y true → (u : State) → y ≡ Some u → visits q + 1 + state_order.left u ≤ 1 + h
      high_here None None e g u at = absurd g
      high_here None (Some v) e g u at =
          let new : visits q ≡ 0 = are.unseen q (sym kept ∙ e) in
          let same : v ≡ u = cc in
          let l : state_order.left u ≡ state_order.left t = ap state_order.left (sym same ∙ g.0) in
          omega arith
      high_here (Some a) None e g u at = absurd g
      high_here (Some a) (Some v) e g u at =
          let same : v ≡ u = cc in
          let l : state_order.left v ≡ state_order.left u = ap state_order.left same in
          let n = are.high q a e in
          let falls = state_laws.left_falls a v (ranged a e) g.0.in_range g.0.left in
          let differ : state_order.left v ≢ state_order.left a = λ e'. let one : a ≡ v = state_laws.left_strict a v (ranged a e) g.0.in_range g.0.left e' in
          let no_such : true ≡ false = g.1.1 (sym one) in cc in
          omega arith

  -- nothing has changed
  pub visits_same : (stored stored' filled filled' : Place → Option State) (Waits Waits' : Place → Type 0) (visits : Place → ℕ) → AreVisits s h stored filled Waits visits
      → ((p : Place) → stored' p ≡ stored p) → ((p : Place) → filled' p ≡ filled p) → ((p : Place) → Waits' p → Waits p) → AreVisits s h stored' filled' Waits' visits
  visits_same stored stored' filled filled' Waits Waits' visits are same same' back = record {
    seen = λ p a at. are.seen p a (sym (same' p) ∙ at);
    unseen = λ p none. are.unseen p (sym (same' p) ∙ none);
    waits = λ p w. are.waits p (back p w);
    high = λ p a at. are.high p a (sym (same p) ∙ at);
    before = λ q a at none. are.before q a (sym (same' q) ∙ at) (sym (same q) ∙ none);
    follow = λ p q just none. are.follow p q just (sym (same q) ∙ none);
    ahead = λ p q just none w. are.ahead p q just (sym (same q) ∙ none) (back p w);
  }

  -- a state went over a place
  pub visits_passed : (stored filled filled' : Place → Option State) (Waits Waits' : Place → Type 0) (visits : Place → ℕ) (p q : Place) (t : State) → AreVisits s h stored filled Waits visits
      → stored q ≡ None → filled' q ≡ Some t → ((r : Place) → r ≢ q → filled' r ≡ filled r) → Precedes s p q → visits q + 1 ≤ visits p → (Waits p → visits q + 2 ≤ visits p)
      → ((r : Place) → Waits' r → Waits r ⊎ (r ≡ q)) → AreVisits s h stored filled' Waits' (one_more visits q)
  visits_passed stored filled filled' Waits Waits' visits p q t are none here elsewhere just ahead twice back = record {
    seen = λ r a at. elim (same_or_apart r q) [
      | inl same ↦ let e = ap (one_more visits q) same in let m = more_here visits q in omega arith
      | inr apart ↦ let n = are.seen r a (sym (elsewhere r apart) ∙ at) in let m = more_ascends visits q r in omega arith
    ];
    unseen = λ r no'. elim (same_or_apart r q) [
      | inl same ↦ absurd (let no_such : Some t ≡ None = sym here ∙ ap filled' (sym same) ∙ no' in cc)
      | inr apart ↦ more_elsewhere visits q r apart ∙ are.unseen r (sym (elsewhere r apart) ∙ no')
    ];
    waits = λ r w. elim (same_or_apart r q) [
      | inl same ↦ let e = ap (one_more visits q) same in let m = more_here visits q in omega arith
      | inr apart ↦ elim (back r w) [
        | inl old ↦ let n = are.waits r old in let m = more_ascends visits q r in omega arith
        | inr same ↦ absurd (apart same)
      ]
    ];
    high = λ r a at.
        let apart : r ≢ q = λ same. let no_such : None ≡ Some a = sym none ∙ ap stored (sym same) ∙ at in cc in
        let n = are.high r a at in let m = more_elsewhere visits q r apart in omega arith;
    before = λ r a at gone. elim (same_or_apart r q) [
      | inl same ↦ (p, let P : Place → Type 0 = λ x. Precedes s p x in subst P (sym same) just)
      | inr apart ↦ are.before r a (sym (elsewhere r apart) ∙ at) gone
    ];
    follow = λ p' r just' gone. elim (same_or_apart r q) [
      | inr apart ↦
          let n = are.follow p' r just' gone in
          let e = more_elsewhere visits q r apart in
          let m = more_ascends visits q p' in
          omega arith
      | inl same ↦
          let from = from_here p' r just' same in
          let e = ap (one_more visits q) same in
          let e' = ap visits from in
          let m = more_here visits q in
          let m' = more_ascends visits q p' in
          omega arith
    ];
    ahead = λ p' r just' gone w. elim (same_or_apart r q) [
      | inr apart ↦
          let e = more_elsewhere visits q r apart in
          let m = more_ascends visits q p' in
          elim (back p' w) [
            | inl old ↦ let n = are.ahead p' r just' gone old in omega arith
            | inr same ↦
                let n = are.follow p' r just' gone in
                let e' = ap (one_more visits q) same in
                let v = ap visits same in
                let m' = more_here visits q in
                omega arith
          ]
      | inl same ↦
          let from = from_here p' r just' same in
          let e = ap (one_more visits q) same in
          let e' = ap visits from in
          let m = more_here visits q in
          let m' = more_ascends visits q p' in
          elim (back p' w) [
            | inl old ↦ let W : Place → Type 0 = Waits in let n = twice (subst W from old) in omega arith
            | inr here' ↦
                let rise = precedes_ascends s p' r just' in
                let o = ap (λ (x : Place). x.1) here' in
                let o' = ap (λ (x : Place). x.1) same in
                omega arith
          ]
    ];
  }
    where
      from_here : (p' r : Place) → Precedes s p' r → r ≡ q → p' ≡ p
      from_here p' r just' same = let P : Place → Type 0 = λ x. Precedes s p' x in precedes_one s p' p q (subst P same just') just

  -- no place has more visits than a state can rise
  visits_below : (stored filled : Place → Option State) (Waits : Place → Type 0) (visits : Place → ℕ) → AreVisits s h stored filled Waits visits → (k : ℕ) (q : Place) → q.1 < k → visits q ≤ 1 + h
  visits_below stored filled Waits visits are zero q lt = absurd (omega arith)
  visits_below stored filled Waits visits are (suc k) q lt = elim (some_or_none (filled q)) [
    | inr none ↦ let e = are.unseen q none in omega arith
    | inl (a, at) ↦ elim (some_or_none (stored q)) [
      | inl (b, kept) ↦ let n = are.high q b kept in omega arith
      | inr gone ↦
          let (p, just) = are.before q a at gone in
          let rise = precedes_ascends s p q just in
          let ih = visits_below stored filled Waits visits are k p (omega arith) in
          let n = are.follow p q just gone in
          omega arith
    ]
  ]

  pub visits_at_most : (stored filled : Place → Option State) (Waits : Place → Type 0) (visits : Place → ℕ) (points : List Place) (count : ℕ) → AreVisits s h stored filled Waits visits
      → ArePoints filled visits points count → count ≤ length points * (1 + h)
  visits_at_most stored filled Waits visits points count are counted =
      let sums = sum_at_most visits (1 + h) (λ q. visits_below stored filled Waits visits are (q.1 + 1) q (omega arith)) points in
      let m = counted.most in
      omega arith
