-- Walks, and what they say about runs.
use Rattle.std.proofs.Common.{◌≡◌, ℕ, zero, suc, ◌+◌, ◌<◌, ℤ, List, [], ◌∷◌, ◌++◌, ◌&&◌, reverse, Ok, Err, Some, Bool, true, false, length, get_or, refl, sym, ◌∙◌, ap, subst, arith, ◌⊎◌, inl, inr}
use Rattle.std.specs.Prelude.{slice_get, Box, insert, remove}
use Rattle.std.specs.declared.alloc.Global.{Global}
use Rattle.std.proofs.lemmas.Int.{by_lt_z}
use Rattle.std.proofs.lemmas.Bool.{cases_lt}
use Rattle.std.proofs.lemmas.Option.{slice_get_within}
use Rattle.tt_code.specs.Refusals.{Tested}
use Rattle.tt_code.specs.Runs.{Faults, is_at_end, left_by}
use Rattle.tt_code.specs.States.{Machine, Outcome}
use Rattle.tt_code.specs.declared.reason.Reason.{Reason}
use Rattle.tt_setting.specs.declared.setting.Setting.{Setting}
use Rattle.tt_setting.specs.Settings.{setting_of}
use Rattle.tt_setting.specs.Functions.{CoversFunctions}
use Rattle.tt_symbolic_state.specs.declared.cell.Cell.{Cell}
use Rattle.tt_symbolic_state.specs.declared.cell.Range.{Range}
use Rattle.tt_symbolic_state.specs.declared.state.OpenCall.{OpenCall}
use Rattle.tt_symbolic_state.specs.declared.state.State.{State}
use Rattle.tt_symbolic_state.specs.Values.{Fits, Valuation}
use Rattle.tt_symbolic_state.specs.CvtMachine.{CvtMachine, CvtRuns, CvtSteps, here, step}
use Rattle.tt_symbolic_state.specs.Shows.{IsShown, Shows, ShowsArea, ShowsCalls, graphics_of, values}
use Rattle.tt_symbolic.specs.Kept.{KeepsMemory, StepsKeep}
use Rattle.tt_symbolic.specs.declared.kept.Kept.{Kept}
use Rattle.tt_symbolic.specs.Steps.{StepsTo}
use Rattle.tt_symbolic_check.specs.Checked.{AreEnds, IsSafe, IsShownByOne, KeepsEntries}
use Rattle.tt_symbolic_check.specs.Copying.{IsCopy, IsLower, IsSplit, IsUpper}
use Rattle.tt_symbolic_check.specs.Covering.{Covers}
use Rattle.tt_symbolic_check.specs.Starts.{IsStartState, StartsFrom}
use Rattle.tt_symbolic_check.specs.Walking.{Begins, EndsAs, Extends, HeadsWalk, IsIn, IsMet, NothingPending, PutsEnd, PutsHead, PutsPending, Reaches, ReachesFrom, StartWalks, TakesPending, Walks, ends, goes, meets, splits, widens}
use Rattle.tt_symbolic_check.specs.declared.copying.Split.{Split}
use Rattle.tt_symbolic_check.specs.declared.start.Start.{Start}
use Rattle.tt_symbolic_check.specs.declared.walk.Pending.{Pending}
use Rattle.tt_symbolic_check.specs.declared.walk.Walk.{Walk}

-- Copies and parts show what the state shows.

copy_shown : (a b : State) (m : Machine) (controls : ℕ → ℤ) → IsCopy a b → IsShown a m controls → IsShown b m controls
copy_shown a b m controls c h = record {
  valuation = h.valuation;
  fits = subst (λ (r : List Range). Fits r h.valuation) (sym c.ranges) h.fits;
  shows = record {
    calls = subst (λ (l : List OpenCall). ShowsCalls h.valuation (reverse l) m.frames) (sym c.calls) h.shows.calls;
    stack = h.shows.stack ∙ ap (λ l. values h.valuation l) (sym c.stack);
    graphics = h.shows.graphics ∙ ap (λ g. graphics_of h.valuation g) (sym c.graphics);
    storage = subst (λ (l : List (ℕ × Cell)). ShowsArea h.valuation l m.registers.storage) (sym c.storage) h.shows.storage;
    controls_are = subst (λ (l : List (ℕ × Cell)). ShowsArea h.valuation l controls) (sym c.controls_are) h.shows.controls_are;
    functions = subst (λ (l : List (ℕ × ℕ)). CoversFunctions l m.functions) (sym c.functions) h.shows.functions;
  };
  offset_is = h.offset_is ∙ sym c.offset;
}

part_shown : (v : Valuation) (a b : State) (m : Machine) (controls : ℕ → ℤ) → b ≡ record a { ranges = b.ranges } → Fits b.ranges.items v → Shows v a m controls → m.offset ≡ a.offset → IsShown b m controls
part_shown v a b m controls same fits h o = record {
  valuation = v;
  fits = fits;
  shows = let S : State → Type 0 = λ x. Shows v x m controls in subst S (sym same) (record { calls = h.calls; stack = h.stack; graphics = h.graphics; storage = h.storage; controls_are = h.controls_are; functions = h.functions });
  offset_is = o ∙ sym (ap (λ (x : State). x.offset) same);
}

pub parts_split : (split : Split) (a b low high : State) → IsCopy a b → IsLower split b low → IsUpper split a high → IsSplit a low high
unfolding copy_shown
parts_split split a b low high copy lower upper = record {
  split = λ m controls s.
      by_lt_z split.last (s.valuation split.symbol)
      (λ above. inr (part_shown s.valuation a high m controls upper.same (upper.fits s.valuation s.fits above) s.shows s.offset_is))
      (λ below.
      let t = copy_shown a b m controls copy s in
      inl (part_shown s.valuation b low m controls lower.same (lower.fits s.valuation t.fits below) t.shows t.offset_is));
}

-- Lists with one more, and with one less.

more_get : {A : Type 0} (xs : List A) (x : A) (i : ℕ) (y : A) → slice_get (xs ++ x ∷ []) i ≡ Some y → (slice_get xs i ≡ Some y) ⊎ (y ≡ x)
more_get [] x zero y e = let same : x ≡ y = cc in inr (sym same)
more_get [] x (suc i) y e = absurd (cc)
more_get (z ∷ xs) x zero y e = inl e
more_get (z ∷ xs) x (suc i) y e = more_get xs x i y e

get_more : {A : Type 0} (xs : List A) (x : A) (i : ℕ) (y : A) → slice_get xs i ≡ Some y → slice_get (xs ++ x ∷ []) i ≡ Some y
get_more [] x i y e = absurd (cc)
get_more (z ∷ xs) x zero y e = e
get_more (z ∷ xs) x (suc i) y e = get_more xs x i y e

get_last : {A : Type 0} (xs : List A) (x : A) → slice_get (xs ++ x ∷ []) (length xs) ≡ Some x
get_last [] x = refl
get_last (z ∷ xs) x = get_last xs x

none_in : {A : Type 0} (list : List A) (a : A) → list ≡ [] → IsIn list a → ⊥
none_in {A} list a e h = let q = ap (λ (l : List A). slice_get l h.index) (sym e) ∙ h.found in absurd (cc)

in_same : {A : Type 0} (xs ys : List A) (a : A) → ys ≡ xs → IsIn xs a → IsIn ys a
in_same {A} xs ys a e h = subst (λ (l : List A). IsIn l a) (sym e) h

in_more : {A : Type 0} (xs : List A) (x y : A) → IsIn xs y → IsIn (xs ++ x ∷ []) y
in_more xs x y h = record { index = h.index; found = get_more xs x h.index y h.found }

in_last : {A : Type 0} (xs : List A) (x : A) → IsIn (xs ++ x ∷ []) x
in_last xs x = record { index = length xs; found = get_last xs x }

more_in : {A : Type 0} (xs : List A) (x y : A) → IsIn (xs ++ x ∷ []) y → IsIn xs y ⊎ (y ≡ x)
more_in xs x y h = elim (more_get xs x h.index y h.found) [
  | inl e ↦ inl (record { index = h.index; found = e })
  | inr e ↦ inr e
]

in_tail : {A : Type 0} (x : A) (xs : List A) (y : A) → IsIn xs y → IsIn (x ∷ xs) y
in_tail x xs y h = record { index = suc h.index; found = h.found }

in_front : {A : Type 0} (x : A) (xs : List A) → IsIn (x ∷ xs) x
in_front x xs = record { index = zero; found = refl }

in_at : {A : Type 0} (x : A) (xs : List A) (y : A) (i : ℕ) → slice_get (x ∷ xs) i ≡ Some y → (y ≡ x) ⊎ IsIn xs y
in_at x xs y zero e = let same : x ≡ y = cc in inl (sym same)
in_at x xs y (suc i) e = inr (record { index = i; found = e })

in_cases : {A : Type 0} (x : A) (xs : List A) (y : A) → IsIn (x ∷ xs) y → (y ≡ x) ⊎ IsIn xs y
in_cases x xs y h = in_at x xs y h.index h.found

pub in_insert : {A : Type 0} (xs : List A) (i : ℕ) (x y : A) → IsIn xs y → IsIn (insert xs i x) y
in_insert [] i x y h = absurd (none_in [] y refl h)
in_insert (z ∷ xs) zero x y h = in_tail x (z ∷ xs) y h
in_insert (z ∷ xs) (suc i) x y h = elim (in_cases z xs y h) [
  | inl e ↦ subst (λ (a : _). IsIn (z ∷ insert xs i x) a) (sym e) (in_front z (insert xs i x))
  | inr k ↦ in_tail z (insert xs i x) y (in_insert xs i x y k)
]

pub insert_in : {A : Type 0} (xs : List A) (i : ℕ) (x : A) → IsIn (insert xs i x) x
insert_in [] zero x = in_front x []
insert_in [] (suc i) x = in_front x []
insert_in (z ∷ xs) zero x = in_front x (z ∷ xs)
insert_in (z ∷ xs) (suc i) x = in_tail z (insert xs i x) x (insert_in xs i x)

pub in_removed : {A : Type 0} (xs : List A) (i : ℕ) (r y : A) → i < length xs → r ≡ get_or xs i r → IsIn xs y → IsIn (remove xs i) y ⊎ (y ≡ r)
in_removed [] i r y lt e h = absurd (none_in [] y refl h)
in_removed (z ∷ xs) zero r y lt e h = elim (in_cases z xs y h) [
  | inl same ↦ inr (same ∙ sym e)
  | inr k ↦ inl k
]
in_removed (z ∷ xs) (suc i) r y lt e h = elim (in_cases z xs y h) [
  | inl same ↦ inl (subst (λ (a : _). IsIn (z ∷ remove xs i) a) (sym same) (in_front z (remove xs i)))
  | inr k ↦ elim (in_removed xs i r y (omega arith) e k) [
    | inl rest ↦ inl (in_tail z (remove xs i) y rest)
    | inr last ↦ inr last
  ]
]

pub in_popped : {A : Type 0} (old new : List A) (r y : A) → old ≡ new ++ r ∷ [] → IsIn old y → IsIn new y ⊎ (y ≡ r)
in_popped {A} old new r y e h = more_in new r y (in_same old (new ++ r ∷ []) y (sym e) h)

-- What is reached.

copy_covered : (a b : State) → IsCopy a b → Covers b a
copy_covered a b c = record { covers = λ m controls s. copy_shown b a m controls back s }
  where
    back : IsCopy b a
    back = record {
      offset = sym c.offset;
      calls = sym c.calls;
      stack = sym c.stack;
      graphics = sym c.graphics;
      storage = sym c.storage;
      controls_are = sym c.controls_are;
      functions = sym c.functions;
      ranges = sym c.ranges;
    }

module _ (setting : Setting) (kept : Kept) where
  -- a walk that may not stop at first may stop
  may_stop : (final : Walk) (b : Bool) (a : State) → Walks setting kept final b a → Walks setting kept final true a
  may_stop final b a (ends c x e i) = ends true x e i
  may_stop final b a (meets x h) = meets x h
  may_stop final b a (goes c x y e h k w) = goes true x y e h k w
  may_stop final b a (splits c x low high h l u) = splits true x low high h (may_stop final c low l) (may_stop final c high u)
  may_stop final b a (widens c x y h w) = widens true x y h (may_stop final c y w)

  from_false : (final : Walk) (b : Bool) (a : State) → Walks setting kept final false a → Walks setting kept final b a
  from_false final true a w = may_stop final false a w
  from_false final false a w = w

  -- a state that may stop only where both of two may
  from_both : (final : Walk) (b c : Bool) (a : State) → Walks setting kept final (b && c) a → Walks setting kept final b a × Walks setting kept final c a
  from_both final true c a w = (may_stop final c a w, w)
  from_both final false c a w = (w, from_false final c a w)

  extends_same : (w : Walk) → Extends w w
  extends_same w = record { heads = λ a h. h; ends = λ a h. h }

  extends_more : (one two three : Walk) → Extends one two → Extends two three → Extends one three
  extends_more one two three h k = record { heads = λ a e. k.heads a (h.heads a e); ends = λ a e. k.ends a (h.ends a e) }

  pub reaches_none : (w : Walk) → Reaches setting kept w w (λ final. Unit {0})
  reaches_none w = record { extends = extends_same w; reaches = λ final x all. (all, tt, λ a found. inl found) }

  pub reaches_to : (old new : Walk) (P Q : Walk → Type 0) → ((final : Walk) → P final → Q final) → Reaches setting kept old new P → Reaches setting kept old new Q
  reaches_to old new P Q f h = record { extends = h.extends; reaches = λ final x all. let (old', p, heads) = h.reaches final x all in (old', f final p, heads) }

  pub go_reaches : (old new : Walk) (b : Bool) (a : State) → ReachesFrom setting kept old new false a → ReachesFrom setting kept old new b a
  go_reaches old new b a h = reaches_to old new (λ final. Walks setting kept final false a) (λ final. Walks setting kept final b a) (λ final w. from_false final b a w) h

  reaches_then : (one two three : Walk) (P Q R : Walk → Type 0) → ((final : Walk) → P final → Q final → R final) → Reaches setting kept one two P → Reaches setting kept two three Q → Reaches setting kept one three R
  reaches_then one two three P Q R f h k = record {
    extends = extends_more one two three h.extends k.extends;
    reaches = λ final x all.
        let (all', q, heads) = k.reaches final x all in
        let (all'', p, heads') = h.reaches final (extends_more two three final k.extends x) all' in
        (all'', f final p q, λ a found. elim (heads a found) [ inl before ↦ heads' a before | inr w ↦ inr w ]);
  }

  pub reaches_on : (one two three : Walk) → Reaches setting kept one two (λ final. Unit {0}) → Reaches setting kept two three (λ final. Unit {0}) → Reaches setting kept one three (λ final. Unit {0})
  reaches_on one two three h k = reaches_then one two three (λ final. Unit {0}) (λ final. Unit {0}) (λ final. Unit {0}) (λ final p q. tt) h k

  same_extends : (old new : Walk) → new.heads.items ≡ old.heads.items → new.ends.items ≡ old.ends.items → Extends old new
  same_extends old new w e = record { heads = λ a h. in_same old.heads.items new.heads.items a w h; ends = λ a h. in_same old.ends.items new.ends.items a e h }

  same_heads : (old new final : Walk) → new.heads.items ≡ old.heads.items → HeadsWalk setting kept old new final
  same_heads old new final e a h = inl (in_same new.heads.items old.heads.items a (sym e) h)

  -- a state waits
  pub put_reaches : (state : Box State Global) (b : Bool) (old new : Walk) → PutsPending state b old new → ReachesFrom setting kept old new b state.value
  put_reaches state b old new p = record {
    extends = same_extends old new p.heads p.ends;
    reaches = λ final x all. ((λ q found. all q (p.pending q found)), all (record { state = state; may_stop = b }) p.waits, same_heads old new final p.heads);
  }

  pub end_reaches : (state : State) (b : Bool) (old new : Walk) → EndsAs setting state true → PutsEnd state old new → ReachesFrom setting kept old new b state
  end_reaches state b old new e p = record {
    extends = record {
      heads = λ a h. in_same old.heads.items new.heads.items a p.heads h;
      ends = λ a h. in_same (old.ends.items ++ state ∷ []) new.ends.items a p.ends (in_more old.ends.items state a h);
    };
    reaches = λ final x all. (
      (λ q found. all q (in_same old.pending.items new.pending.items q p.pending found)),
      ends b state e (x.ends state (in_same (old.ends.items ++ state ∷ []) new.ends.items state p.ends (in_last old.ends.items state))),
      same_heads old new final p.heads,
    );
  }

  pub step_reaches : (a : State) (c : Box State Global) (old new : Walk) → EndsAs setting a false → StepsTo setting a c.value → StepsKeep (setting_of setting) kept a → PutsPending c true old new → ReachesFrom setting kept old new false a
  step_reaches a c old new e h k p = reaches_to old new (λ final. Walks setting kept final true c.value) (λ final. Walks setting kept final false a) (λ final w. goes false a c.value e h k w) (put_reaches c true old new p)

  pub split_reaches : (a : State) (b : Bool) (low high : Box State Global) (old middle new : Walk) → IsSplit a low.value high.value → PutsPending high b old middle → PutsPending low b middle new → ReachesFrom setting kept old new b a
  split_reaches a b low high old middle new h p q =
      reaches_then old middle new (λ final. Walks setting kept final b high.value) (λ final. Walks setting kept final b low.value) (λ final. Walks setting kept final b a) (λ final u l. splits b a low.value high.value h l u)
      (put_reaches high b old middle p) (put_reaches low b middle new q)

  pub widen_reaches : (a : State) (b : Bool) (wider : Box State Global) (old new : Walk) → Covers a wider.value → PutsPending wider b old new → ReachesFrom setting kept old new b a
  widen_reaches a b wider old new h p = reaches_to old new (λ final. Walks setting kept final b wider.value) (λ final. Walks setting kept final b a) (λ final w. widens b a wider.value h w) (put_reaches wider b old new p)

  -- a head covers the state, and the walk stays as it is
  pub stop_reaches : (a : State) (b : Bool) (w : Walk) → b ≡ true → IsMet w a → ReachesFrom setting kept w w b a
  stop_reaches a b w e h = record {
    extends = extends_same w;
    reaches = λ final x all. (all, subst (λ (c : Bool). Walks setting kept final c a) (sym e) (meets a (record { head = h.head; is_head = x.heads h.head h.is_head; covers = h.covers })), λ c found. inl found);
  }

  -- a copy of the state is a head, and the state waits, which may not stop
  pub head_reaches : (a : Box State Global) (b : Bool) (head : State) (old middle new : Walk) → IsCopy a.value head → PutsHead head old middle → PutsPending a false middle new → ReachesFrom setting kept old new b a.value
  head_reaches a b head old middle new is p q = record {
    extends = extends_more old middle new (record {
      heads = λ c h. in_same (old.heads.items ++ head ∷ []) middle.heads.items c p.heads (in_more old.heads.items head c h);
      ends = λ c h. in_same old.ends.items middle.ends.items c p.ends h;
    }) r.extends;
    reaches = λ final x all.
        let (all', w, heads) = r.reaches final x all in
        let there : Walks setting kept final false head = widens false head a.value (copy_covered a.value head is) w in (
          (λ k found. all' k (in_same old.pending.items middle.pending.items k p.pending found)),
          from_false final b a.value w,
          (λ c found. elim (heads c found) [
            | inl before ↦ elim (more_in old.heads.items head c (in_same middle.heads.items (old.heads.items ++ head ∷ []) c (sym p.heads) before)) [
              | inl earlier ↦ inl earlier
              | inr same ↦ inr (subst (λ (y : State). Walks setting kept final false y) (sym same) there)
            ]
            | inr walks ↦ inr walks
          ]),
        );
  }
    where
      r : ReachesFrom setting kept middle new false a.value
      r = put_reaches a false middle new q

  -- one of what waited is taken, and walks
  take_then : (P Q : Walk → Type 0) (old middle new : Walk) (p : Pending) → TakesPending old middle p → ((final : Walk) → P final → Walks setting kept final p.may_stop p.state.value × Q final) → Reaches setting kept middle new P → Reaches setting kept old new Q
  take_then P Q old middle new p t f r = record {
    extends = extends_more old middle new (same_extends old middle t.heads t.ends) r.extends;
    reaches = λ final x all.
        let (all', claim, heads) = r.reaches final x all in
        let (w, q) = f final claim in (
          (λ k found. elim (t.pending k found) [
            | inl before ↦ all' k before
            | inr same ↦ subst (λ (y : Pending). Walks setting kept final y.may_stop y.state.value) (sym same) w
          ]),
          q,
          (λ a at. elim (heads a at) [ inl before ↦ inl (in_same middle.heads.items old.heads.items a (sym t.heads) before) | inr w' ↦ inr w' ]),
        );
  }

  pub take_reaches : (old middle new : Walk) (p : Pending) → TakesPending old middle p → ReachesFrom setting kept middle new p.may_stop p.state.value → Reaches setting kept old new (λ final. Unit {0})
  take_reaches old middle new p t r = take_then (λ final. Walks setting kept final p.may_stop p.state.value) (λ final. Unit {0}) old middle new p t (λ final w. (w, tt)) r

  pub nothing_reaches : (old new : Walk) → NothingPending old new → Reaches setting kept old new (λ final. Unit {0})
  nothing_reaches old new n = record {
    extends = same_extends old new n.heads n.ends;
    reaches = λ final x all. ((λ p found. absurd (none_in old.pending.items p n.none found)), tt, same_heads old new final n.heads);
  }

  pub join_reaches : (a : State) (b : Bool) (other : Pending) (joined : Box State Global) (old middle new : Walk) → TakesPending old middle other → Covers a joined.value → Covers other.state.value joined.value → PutsPending joined (b && other.may_stop) middle new → ReachesFrom setting kept old new b a
  join_reaches a b other joined old middle new t h k p =
      take_then (λ final. Walks setting kept final (b && other.may_stop) joined.value) (λ final. Walks setting kept final b a) old middle new other t
      (λ final w. let (one, two) = from_both final b other.may_stop joined.value w in (widens other.may_stop other.state.value joined.value k two, widens b a joined.value h one))
      (put_reaches joined (b && other.may_stop) middle new p)

  -- what waits covers the state, and is put back
  pub meet_reaches : (a : State) (b : Bool) (other : Pending) (old middle new : Walk) → TakesPending old middle other → Covers a other.state.value → PutsPending other.state (b && other.may_stop) middle new → ReachesFrom setting kept old new b a
  meet_reaches a b other old middle new t h p =
      take_then (λ final. Walks setting kept final (b && other.may_stop) other.state.value) (λ final. Walks setting kept final b a) old middle new other t
      (λ final w. let (one, two) = from_both final b other.may_stop other.state.value w in (two, widens b a other.state.value h one))
      (put_reaches other.state (b && other.may_stop) middle new p)

  -- Runs.

  -- what a walk comes to at a machine: to the ends, or to a step
  data Resolves (final : Walk) (m : Machine) (controls : ℕ → ℤ) : Type 0 where
    at_end : is_at_end (setting_of setting) m ≡ true → (a : State) → IsIn final.ends.items a → IsShown a m controls → Resolves final m controls
    steps : is_at_end (setting_of setting) m ≡ false → (a c : State) → IsShown a m controls → StepsTo setting a c → StepsKeep (setting_of setting) kept a → Walks setting kept final true c → Resolves final m controls

  first : (final : Walk) (b : Bool) → b ≡ false → (a : State) → Walks setting kept final b a → (m : Machine) (controls : ℕ → ℤ) → IsShown a m controls → Resolves final m controls
  first final b f a (ends c x e i) m controls s = at_end (e m controls s) x i s
  first final b f a (meets x h) m controls s = absurd (cc)
  first final b f a (goes c x y e h k w) m controls s = steps (e m controls s) x y s h k w
  first final b f a (splits c x low high h l u) m controls s = elim (h.split m controls s) [ inl p ↦ first final c f low l m controls p | inr p ↦ first final c f high u m controls p ]
  first final b f a (widens c x y h w) m controls s = first final c f y w m controls (h.covers m controls s)

  module _ (final : Walk) (all : (a : State) → IsIn final.heads.items a → Walks setting kept final false a) where
    resolved : (b : Bool) (a : State) → Walks setting kept final b a → (m : Machine) (controls : ℕ → ℤ) → IsShown a m controls → Resolves final m controls
    resolved b a (ends c x e i) m controls s = at_end (e m controls s) x i s
    resolved b a (meets x h) m controls s = first final false refl h.head (all h.head h.is_head) m controls (h.covers.covers m controls s)
    resolved b a (goes c x y e h k w) m controls s = steps (e m controls s) x y s h k w
    resolved b a (splits c x low high h l u) m controls s = elim (h.split m controls s) [ inl p ↦ resolved c low l m controls p | inr p ↦ resolved c high u m controls p ]
    resolved b a (widens c x y h w) m controls s = resolved c y w m controls (h.covers m controls s)

    record IsOnWalk (m : CvtMachine) : Type 0 where
      state : State
      walks : Walks setting kept final true state
      shown : IsShown state m.machine m.controls

    resolves : (m : CvtMachine) → IsOnWalk m → Resolves final m.machine m.controls
    resolves m h = resolved true h.state h.walks m.machine m.controls h.shown

    step_by : (m n : CvtMachine) → CvtSteps (setting_of setting) m n → Resolves final m.machine m.controls → IsOnWalk n
    step_by m n w (at_end e a i s) = let r = w.steps.running in absurd (cc)
    step_by m n w (steps e a c s h k walks) =
        let g = h.sound m.machine m.controls s in
        let same : w.steps.result ≡ g.after = let e : ◌≡◌ {A = Tested Outcome} (Ok w.steps.result) (Ok g.after) = sym w.steps.does_it ∙ g.goes in cc in
        let there : IsShown c (left_by g.after w.steps.choices) n.controls = g.into w.steps.choices n.controls w.steps.are_numbers w.allowed in
        let new : n.machine ≡ left_by g.after w.steps.choices = w.steps.new_is ∙ ap (λ (o : Outcome). left_by o w.steps.choices) same in
        record { state = c; walks = walks; shown = subst (λ (x : Machine). IsShown c x n.controls) (sym new) there }

    runs_on : (m n : CvtMachine) → IsOnWalk m → CvtRuns (setting_of setting) m n → IsOnWalk n
    runs_on m n h (here m') = h
    runs_on m n h (step a b c w rest) = runs_on b c (step_by a b w (resolves a h)) rest

    keep_by : (m n : CvtMachine) → CvtSteps (setting_of setting) m n → Resolves final m.machine m.controls → KeepsMemory kept m n
    keep_by m n w (at_end e a i s) = let r = w.steps.running in absurd (cc)
    keep_by m n w (steps e a c s h k walks) = k m n s w

    keeps_same : (m : CvtMachine) → KeepsMemory kept m m
    keeps_same m = record { storage = λ i among. refl; controls = λ i among. refl }

    keeps_more : (a b c : CvtMachine) → KeepsMemory kept a b → KeepsMemory kept b c → KeepsMemory kept a c
    keeps_more a b c h k = record { storage = λ i among. k.storage i among ∙ h.storage i among; controls = λ i among. k.controls i among ∙ h.controls i among }

    runs_keep : (m n : CvtMachine) → IsOnWalk m → CvtRuns (setting_of setting) m n → KeepsMemory kept m n
    runs_keep m n h (here m') = keeps_same m'
    runs_keep m n h (step a b c w rest) = keeps_more a b c (keep_by a b w (resolves a h)) (runs_keep b c (step_by a b w (resolves a h)) rest)

    no_fault_by : (n : CvtMachine) (r : Reason) → Faults (setting_of setting) n.machine r → Resolves final n.machine n.controls → ⊥
    no_fault_by n r f (at_end e a i s) = let q = f.running in absurd (cc)
    no_fault_by n r f (steps e a c s h k walks) =
        let g = h.sound n.machine n.controls s in
        let e : ◌≡◌ {A = Tested Outcome} (Ok g.after) (Err r) = sym g.goes ∙ f.fails in cc

    ends_by : (n : CvtMachine) → is_at_end (setting_of setting) n.machine ≡ true → Resolves final n.machine n.controls → IsShownByOne final.ends.items n
    ends_by n e (at_end q a i s) = record { index = i.index; state = a; found = i.found; shown = s }
    ends_by n e (steps q a c s h k walks) = absurd (cc)

    module _ (starts : List Start) (walk : (i : ℕ) (start : Start) → slice_get starts i ≡ Some start → StartWalks setting kept final start) where
      begun : (m : CvtMachine) → StartsFrom starts m → IsOnWalk m
      begun m s = let w = walk s.index s.start s.found in record { state = w.state; walks = w.walks; shown = w.is_start.shows m s.is_one }

      pub walk_is_safe : IsSafe (setting_of setting) starts
      walk_is_safe m n r s runs f = no_fault_by n r f (resolves n (runs_on m n (begun m s) runs))

      pub walk_has_ends : AreEnds (setting_of setting) starts final.ends.items
      walk_has_ends m n s runs e = ends_by n e (resolves n (runs_on m n (begun m s) runs))

      pub walk_keeps : KeepsEntries (setting_of setting) kept starts
      walk_keeps m n s runs = runs_keep m n (begun m s) runs

-- The first walk, and the whole.

module _ (setting : Setting) (kept : Kept) (starts : List Start) where
  -- all that began has been walked
  pub whole : (begin final : Walk) → Begins setting kept (length starts) starts begin → Reaches setting kept begin final (λ f. Unit {0}) → final.pending.items ≡ []
      → IsSafe (setting_of setting) starts × AreEnds (setting_of setting) starts final.ends.items × KeepsEntries (setting_of setting) kept starts
  whole begin final b r none =
      let (all, u, heads) = r.reaches final (record { heads = λ a h. h; ends = λ a h. h }) (λ p h. absurd (none_in final.pending.items p none h)) in
      let heads' : (a : State) → IsIn final.heads.items a → Walks setting kept final false a =
      λ a h. elim (heads a h) [ inl before ↦ absurd (none_in begin.heads.items a b.no_heads before) | inr w ↦ w ] in
      let walks : (i : ℕ) (start : Start) → slice_get starts i ≡ Some start → StartWalks setting kept final start =
      λ i start found. b.begins final all i start (let lt = slice_get_within starts i start found in omega arith) found in
      (walk_is_safe setting kept final heads' starts walks, walk_has_ends setting kept final heads' starts walks, walk_keeps setting kept final heads' starts walks)

  pub begin_more : (count : ℕ) (state : Box State Global) (start : Start) (old new : Walk) → slice_get starts count ≡ Some start → IsStartState start state.value → Begins setting kept count starts old → PutsPending state true old new → Begins setting kept (count + 1) starts new
  begin_more count state start old new found is b p = record {
    no_heads = p.heads ∙ b.no_heads;
    begins = λ final all i s lt at.
        elim (cases_lt i count) [
          | inl less ↦ b.begins final (λ q f. all q (p.pending q f)) i s (omega arith) at
          | inr last ↦
              let same : i ≡ count = omega arith in
              let one : Some start ≡ Some s = sym found ∙ ap (slice_get starts) (sym same) ∙ at in
              let two : start ≡ s = cc in
              subst (StartWalks setting kept final) two (record {
                state = state.value;
                is_start = is;
                walks = all (record { state = state; may_stop = true }) p.waits;
              })
        ];
  }
