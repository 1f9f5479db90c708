-- The test of the depth afterwards; and an outcome on cells that stands for the machine's outcomes is monotone.
use Rattle.std.specs.Prelude.{ℤ, nat_le, slice_get, ◌&&◌}
use Rattle.std.proofs.Common.{◌≡◌, ℕ, zero, suc, ◌+◌, List, [], ◌∷◌, Ok, Err, Some, refl, sym, ◌∙◌, ap, subst, arith, length, Bool, true, false}
use Rattle.std.proofs.lemmas.Bool.{and_parts}
use Rattle.tt_code.specs.Refusals.{Tested, ◌>>=◌, holds_or}
use Rattle.tt_code.specs.Settings.{Setting}
use Rattle.tt_code.specs.States.{Machine, Outcome, Value}
use Rattle.tt_code.specs.Runs.{Choices, pushed_on, value, left_by, within_depth}
use Rattle.tt_code.specs.declared.machine.Frame.{Frame}
use Rattle.tt_code.specs.declared.reason.Reason.TheVariants as reason
use Rattle.tt_abs.specs.Cells.{Abstract, CoversState}
use Rattle.tt_abs.specs.Covers.{Stands, Becomes, TransfersTo, Transfers}
use Rattle.tt_abs.specs.Transfers.{Next, are_within, within_cells}
use Rattle.tt_abs.proofs.Bests.{covered_length}
use Rattle.tt_abs.proofs.Machines.{some_machine, zeros}
use Rattle.tt_abs.proofs.Ways.{smallest_same, covers_same, becomes_of}

pushed_length : (vs : List Value) (choices : Choices) (stack : List ℤ) → length (pushed_on vs choices stack) ≡ length stack + length vs
pushed_length [] choices stack = omega arith
pushed_length (v ∷ vs) choices stack = let e = pushed_length vs (λ i. choices (suc i)) (value v (choices 0) ∷ stack) in omega arith

-- the depth of what is left is that of its cover
depth_known : (s : Setting) (b : Abstract) (o : Outcome) (choices : Choices) → CoversState b (left_by o choices)
    → within_depth s o ≡ (holds_or (nat_le (length b.stack) s.limits.stack) reason.Overflow >>= (λ ok. Ok o))
depth_known s b o choices h =
    let covered = covered_length b.stack (left_by o choices).stack h.stack in
    let deep : length o.after.stack + length o.pushes ≡ length b.stack = sym (pushed_length o.pushes choices o.after.stack) ∙ covered in
    ap (λ n. holds_or (nat_le n s.limits.stack) reason.Overflow >>= (λ ok. Ok o)) deep

module _ (s : Setting) (a : Abstract) (fs : List Frame) (at : ℕ) (does : Machine → Tested Outcome) where
  -- where no outcome is too deep the test changes nothing

  within_becomes : ((o : Outcome) (m : Machine) → Stands a fs at m → does m ≡ Ok o → within_depth s o ≡ Ok o) → (m : Machine) → Becomes a fs at does m → Becomes a fs at (λ m. does m >>= within_depth s) m
  within_becomes fits m w = record {
    old = w.old;
    stands = w.stands;
    result = w.result;
    does_it = rw w.does_it (fits w.result w.old w.stands w.does_it);
    choices = w.choices;
    are_numbers = w.are_numbers;
    new_is = w.new_is;
  }

  becomes_within : (fits : (o : Outcome) (m : Machine) → Stands a fs at m → does m ≡ Ok o → within_depth s o ≡ Ok o) → ((m : Machine) → Stands a fs at m → (o : Outcome) × (does m ≡ Ok o))
      → (m : Machine) → Becomes a fs at (λ m. does m >>= within_depth s) m → Becomes a fs at does m
  becomes_within fits none m w =
      let (o, f) = none w.old w.stands in
      let both : (does w.old >>= within_depth s) ≡ Ok o = rw f (fits o w.old w.stands f) in
      let oks : Ok o ≡ Ok w.result = sym both ∙ w.does_it in
      let same : o ≡ w.result = cc in
      record {
        old = w.old;
        stands = w.stands;
        result = w.result;
        does_it = f ∙ ap Ok same;
        choices = w.choices;
        are_numbers = w.are_numbers;
        new_is = w.new_is;
      }

  -- one state
  pub depth_stands : (r : Tested Abstract) → Transfers a fs at does r
      → Transfers a fs at (λ m. does m >>= within_depth s) (r >>= (λ b. holds_or (nat_le (length b.stack) s.limits.stack) reason.Overflow >>= (λ ok. Ok b)))
  depth_stands (Err q) h = let (m, k, st, e) = h in (m, k, st, rw e refl)
  depth_stands (Ok b) h = go (nat_le (length b.stack) s.limits.stack) refl
    where
      known : (m : Machine) → Stands a fs at m → (o : Outcome) → does m ≡ Ok o → within_depth s o ≡ (holds_or (nat_le (length b.stack) s.limits.stack) reason.Overflow >>= (λ ok. Ok o))
      known m st o e = depth_known s b o zeros (h.1.covers (left_by o zeros) (becomes_of a fs at does m o st e))

      go : (v : Bool) → nat_le (length b.stack) s.limits.stack ≡ v → Transfers a fs at (λ m. does m >>= within_depth s) (holds_or v reason.Overflow >>= (λ ok. Ok b))
      go false e =
          let (m, st, is) = some_machine a fs at in
          let (o, f) = h.0 m st in (m, reason.Overflow, st, rw f (known m st o f ∙ rw e refl))
      go true e =
          let fits : (o : Outcome) (m : Machine) → Stands a fs at m → does m ≡ Ok o → within_depth s o ≡ Ok o = λ o m st f. known m st o f ∙ rw e refl in (
            λ m st. let (o, f) = h.0 m st in (o, rw f (fits o m st f)),
            smallest_same (Becomes a fs at does) (Becomes a fs at (λ m. does m >>= within_depth s)) b (within_becomes fits) (becomes_within fits h.0) h.1,
          )

  -- Several ways: if one state is too deep some machine at its place is, and else none is.

  all_within : (ns : List Next) → are_within s ns ≡ true → (i : ℕ) (n : Next) → slice_get ns i ≡ Some n → nat_le (length n.state.stack) s.limits.stack ≡ true
  all_within [] e i n is = absurd (cc)
  all_within (m ∷ ns) e zero n is =
      let same : m ≡ n = cc in
      let (one, rest) = and_parts (nat_le (length m.state.stack) s.limits.stack) (are_within s ns) e in ap (λ x. nat_le (length x.state.stack) s.limits.stack) (sym same) ∙ one
  all_within (m ∷ ns) e (suc i) n is =
      let (one, rest) = and_parts (nat_le (length m.state.stack) s.limits.stack) (are_within s ns) e in all_within ns rest i n is

  abbrev OneTooDeep : List Next → Type 0
  OneTooDeep ns = (i : ℕ) × (n : Next) × (slice_get ns i ≡ Some n) × (nat_le (length n.state.stack) s.limits.stack ≡ false)

  one_too_deep : (ns : List Next) → are_within s ns ≡ false → OneTooDeep ns
  one_too_deep [] e = absurd (cc)
  one_too_deep (m ∷ ns) e = go (nat_le (length m.state.stack) s.limits.stack) refl e (one_too_deep ns)
    where
      go : (b : Bool) → nat_le (length m.state.stack) s.limits.stack ≡ b → b && are_within s ns ≡ false → (are_within s ns ≡ false → OneTooDeep ns) → OneTooDeep (m ∷ ns)
      go false f e rest = (0, m, refl, f)
      go true f e rest = let (i, n, is, g) = rest e in (suc i, n, is, g)

  pub depth_of_ways : (r : Tested (List Next)) → TransfersTo a fs at does r → TransfersTo a fs at (λ m. does m >>= within_depth s) (r >>= within_cells s)
  depth_of_ways (Err q) h = let (m, k, st, e) = h in (m, k, st, rw e refl)
  depth_of_ways (Ok ns) h = go (are_within s ns) refl
    where
      go : (v : Bool) → are_within s ns ≡ v → TransfersTo a fs at (λ m. does m >>= within_depth s) (holds_or v reason.Overflow >>= (λ ok. Ok ns))
      go false e =
          let (i, n, is, deep) = one_too_deep ns e in
          let (m, there) = h.1.met i n is in
          let w = there.0 in
          let C : Machine → Type 0 = λ m. CoversState n.state m in
          let covered : CoversState n.state (left_by w.result w.choices) = subst C w.new_is ((h.1.smallest i n is).covers m there) in (w.old, reason.Overflow, w.stands, rw w.does_it (depth_known s n.state w.result w.choices covered ∙ rw deep refl))
      go true e = (
        λ m st. let (o, f) = h.0 m st in (o, rw f (fits o m st f)),
        covers_same (Becomes a fs at does) (Becomes a fs at (λ m. does m >>= within_depth s)) ns (within_becomes fits) (becomes_within fits h.0) h.1,
      )
        where
          fits : (o : Outcome) (m : Machine) → Stands a fs at m → does m ≡ Ok o → within_depth s o ≡ Ok o
          fits o m st f =
              let w = becomes_of a fs at does m o st f in
              let (i, n, is, g, p) = h.1.places (left_by o zeros) w in depth_known s n.state o zeros ((h.1.smallest i n is).covers (left_by o zeros) (w, g, p)) ∙ rw (all_within ns e i n is) refl

-- What stands for the machine is monotone.

pub becomes_wider : (a b : Abstract) (fs : List Frame) (at : ℕ) (does : Machine → Tested Outcome) → ((m : Machine) → CoversState a m → CoversState b m)
    → (m : Machine) → Becomes a fs at does m → Becomes b fs at does m
becomes_wider a b fs at does wider m w = record {
  old = w.old;
  stands = record { covered = wider w.old w.stands.covered; frames_are = w.stands.frames_are; offset_is = w.stands.offset_is };
  result = w.result;
  does_it = w.does_it;
  choices = w.choices;
  are_numbers = w.are_numbers;
  new_is = w.new_is;
}

pub monotone : (a b c : Abstract) (fs : List Frame) (at : ℕ) (does : Machine → Tested Outcome) (r : Tested Abstract) → ((m : Machine) → CoversState a m → CoversState b m)
    → Transfers a fs at does r → Transfers b fs at does (Ok c) → (d : Abstract) × (r ≡ Ok d) × ((m : Machine) → CoversState d m → CoversState c m)
monotone a b c fs at does (Err q) wider h k =
    let (m, p, st, e) = h in
    let (o, f) = k.0 m (record { covered = wider m st.covered; frames_are = st.frames_are; offset_is = st.offset_is }) in
    let no_such : Ok o ≡ Err p = sym f ∙ e in absurd (cc)
monotone a b c fs at does (Ok d) wider h k = (d, refl, h.1.least c (λ m w. k.1.covers m (becomes_wider a b fs at does wider m w)))

-- each of these successors is at the place of one of the others, and that one covers what it covers
abbrev pub AreBelow : List Next → List Next → Type 0
AreBelow ns os =
    (i : ℕ) (n : Next) → slice_get ns i ≡ Some n
    → (j : ℕ) × (o : Next) × (slice_get os j ≡ Some o) × (n.frames ≡ o.frames) × (n.offset ≡ o.offset) × ((m : Machine) → CoversState n.state m → CoversState o.state m)

pub monotone_ways : (a b : Abstract) (fs : List Frame) (at : ℕ) (does : Machine → Tested Outcome) (r : Tested (List Next)) (os : List Next) → ((m : Machine) → CoversState a m → CoversState b m)
    → TransfersTo a fs at does r → TransfersTo b fs at does (Ok os) → (ns : List Next) × (r ≡ Ok ns) × AreBelow ns os
monotone_ways a b fs at does (Err q) os wider h k =
    let (m, p, st, e) = h in
    let (o, f) = k.0 m (record { covered = wider m st.covered; frames_are = st.frames_are; offset_is = st.offset_is }) in
    let no_such : Ok o ≡ Err p = sym f ∙ e in absurd (cc)
monotone_ways a b fs at does (Ok ns) os wider h k = (ns, refl, below)
  where
    below : AreBelow ns os
    below i n is =
        let (m, there) = h.1.met i n is in
        let (j, o, was, f, p) = k.1.places m (becomes_wider a b fs at does wider m there.0) in (
          j,
          o,
          was,
          sym there.1 ∙ f,
          sym there.2 ∙ p,
          (h.1.smallest i n is).least o.state
              (λ l g. (k.1.smallest j o was).covers l (becomes_wider a b fs at does wider l g.0, g.1 ∙ sym there.1 ∙ f, g.2 ∙ sym there.2 ∙ p)),
        )
