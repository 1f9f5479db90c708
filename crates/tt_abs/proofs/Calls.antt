-- CALL, LOOPCALL and ENDF: what they do on cells stands for what the machine does. The function that is called is the one that all
-- covered machines call, and a count that isn't known leads to more lists of frames than a program may have.
use Rattle.std.specs.Prelude.{ℤ, pos, negsuc, ◌<◌, ◌≤◌, nat_lt, nat_le, not, slice_get, Option, ◌&&◌, if◌then◌else◌}
use Rattle.std.proofs.Common.{◌≡◌, ℕ, zero, suc, ◌+◌, List, [], ◌∷◌, Ok, Err, Some, None, refl, sym, ◌∙◌, ap, subst, inl, inr, arith, rules, length, drop, Bool, true, false}
use Rattle.std.proofs.lemmas.Bool.{or_parts}
use Rattle.tt_code.specs.Refusals.{Tested, ◌>>=◌, holds_or, some_or}
use Rattle.tt_code.specs.Settings.{Setting, body_offset}
use Rattle.tt_code.specs.States.{Machine, Outcome, IsNumber}
use Rattle.tt_code.specs.Operands.{top}
use Rattle.tt_code.specs.Control.{goes_to, body_named, called, enters, returns, controlled}
use Rattle.tt_code.specs.Runs.{within_depth, left_by}
use Rattle.tt_code.specs.declared.machine.Frame.{Frame}
use Rattle.tt_code.specs.declared.reason.Reason.{Reason}
use Rattle.tt_code.specs.declared.reason.Reason.TheVariants as reason
use Rattle.tt_code.specs.declared.kinds.Control.TheVariants.{Call, LoopCall, EndFunction}
use Rattle.tt_abs.specs.declared.cells.Cell.{Cell}
use Rattle.tt_abs.specs.declared.cells.Cell.TheVariants.{Known, Unknown}
use Rattle.tt_abs.specs.Cells.{Covers, CoversStack, Abstract}
use Rattle.tt_setting.specs.Functions.{CoversFunctions}
use Rattle.tt_abs.specs.Covers.{Stands, Becomes, TransfersTo, MOST_CONTEXTS, ManyFrames, StandsFor, has_body_twice}
use Rattle.tt_abs.specs.Transfers.{Next, one_way, known, leaves_cells, called_cell, is_running, enters_cells, loops_cells, returns_cells, controlled_cells, within_cells}
use Rattle.tt_abs.proofs.Choosing.{minus_one_is_number, some_stack, some_graphics}
use Rattle.tt_abs.proofs.Bests.{IsBestStack, best_drop}
use Rattle.tt_abs.proofs.Machines.{May, zeros, machine_with, machine_stands, some_area, area_covered, some_machine, stack_best, registers_best, transfers_same}
use Rattle.tt_abs.proofs.Ways.{becomes_as, covers_same, one_entry, becomes_of}
use Rattle.tt_abs.proofs.Depth.{depth_of_ways}
use Rattle.tt_abs.proofs.Branches.{there, fails_there}
use Rattle.tt_abs.proofs.Places.{leads_one, RunOnce, settled_stands, settled_within}

-- What is said of any instruction may be said of only the machines that are there.

pub stands_for_as : (a : Abstract) (fs : List Frame) (at : ℕ) (does other : Machine → Tested Outcome) (r : Tested (List Next)) → ((m : Machine) → Stands a fs at m → other m ≡ does m)
    → StandsFor a fs at does r → StandsFor a fs at other r
stands_for_as a fs at does other (Err q) same h = elim h [
  | inl h ↦ let (m, r, st, e) = h in inl (m, r, st, same m st ∙ e)
  | inr h ↦ elim h [
    | inl h ↦ let (m, w, twice) = h in inr (inl (m, becomes_as a fs at other does (λ m st. sym (same m st)) m w, twice))
    | inr h ↦ inr (inr (record {
      lists = h.lists;
      many = h.many;
      apart = h.apart;
      each = λ i gs e. let (m, w, f) = h.each i gs e in (m, becomes_as a fs at other does (λ m st. sym (same m st)) m w, f);
    }))
  ]
]
stands_for_as a fs at does other (Ok ns) same h = record {
  none_faults = λ m st. let (o, e) = h.none_faults m st in (o, same m st ∙ e);
  none_recurs = λ w. let (m, b, twice) = w in h.none_recurs (m, becomes_as a fs at does other same m b, twice);
  few = h.few;
  covers = covers_same (Becomes a fs at does) (Becomes a fs at other) ns (becomes_as a fs at other does (λ m st. sym (same m st))) (becomes_as a fs at does other same) h.covers;
}

-- What leaves a stack and goes to one place, with other frames.

pub lands_stands : (a : Abstract) (fs : List Frame) (at : ℕ) (does : Machine → Tested Outcome) (gs : List Frame) (next : ℕ) (rest : Machine → List ℤ) (stack : List Cell)
    → IsBestStack (May a fs at) (λ x. rest x.0) stack → ((m : Machine) → Stands a fs at m → does m ≡ Ok (goes_to (record m { frames = gs }) (rest m) next))
    → TransfersTo a fs at does (Ok (one_way gs next (leaves_cells a stack [])))
lands_stands a fs at does gs next rest stack best always =
    let t = transfers_same a fs at does (λ m. goes_to (record m { frames = gs }) (rest m) next) (leaves_cells a stack []) always best (registers_best a fs at) (λ m st. refl) refl in
    let (m, st, is) = some_machine a fs at in
    let (o, e) = t.0 m st in
    (t.0, one_entry (Becomes a fs at does) (record { frames = gs; offset = next; state = leaves_cells a stack [] }) lands (left_by o zeros) (becomes_of a fs at does m o st e) t.1)
  where
    lands : (m : Machine) → Becomes a fs at does m → (m.frames ≡ gs) × (m.offset ≡ next)
    lands m w =
        let oks : Ok (goes_to (record w.old { frames = gs }) (rest w.old) next) ≡ Ok w.result = sym (always w.old w.stands) ∙ w.does_it in
        let same : w.result ≡ goes_to (record w.old { frames = gs }) (rest w.old) next = cc in
        (ap (λ x. x.frames) w.new_is ∙ ap (λ x. x.after.frames) same, ap (λ x. x.offset) w.new_is ∙ ap (λ x. x.after.offset) same)

-- a machine with these numbers on its stack that has only the listed functions
exact_machine : (a : Abstract) (fs : List Frame) (at : ℕ) (ns : List ℤ) → CoversStack a.stack ns → (m : Machine) × Stands a fs at m × (m.stack ≡ ns) × (m.functions ≡ a.functions)
exact_machine a fs at ns d =
    let (g, c) = some_graphics a.registers.graphics in
    (machine_with a fs at g ns (some_area a), machine_stands a fs at g ns (some_area a) c d (area_covered a), refl, refl)

-- The called function: some covered number, with only the listed functions, names none, or each covered number, with whatever functions
-- are covered names the same body.

abbrev CallsAs : Setting → List (ℕ × ℕ) → Cell → Tested ℕ → Type 0
CallsAs s functions c (Err r) = (z : ℤ) × (q : Reason) × Covers c z × ((m : Machine) → m.functions ≡ functions → called s m z ≡ Err q)
CallsAs s functions c (Ok name) = (z : ℤ) → Covers c z → (m : Machine) → CoversFunctions functions m.functions → called s m z ≡ Ok name

called_stands : (s : Setting) (functions : List (ℕ × ℕ)) (c : Cell) → CallsAs s functions c (called_cell s functions c)
called_stands s functions Unknown = (negsuc 0, reason.Function, minus_one_is_number, λ m e. refl)
called_stands s functions (Known (negsuc n)) = (negsuc n, reason.Function, refl, λ m e. refl)
called_stands s functions (Known (pos n)) = below (nat_lt n s.limits.functions) refl
  where
    named : (o : Option ℕ) → nat_lt n s.limits.functions ≡ true → body_named functions n ≡ o → CallsAs s functions (Known (pos n)) (some_or o reason.Function)
    named None e f = (pos n, reason.Function, refl, λ m is. rw (e, is, f) refl)
    named (Some name) e f = λ z is m covers. let same : z ≡ pos n = is in ap (called s m) same ∙ rw (e, covers n name f) refl

    below : (b : Bool) → nat_lt n s.limits.functions ≡ b → CallsAs s functions (Known (pos n)) (holds_or b reason.Function >>= (λ ok. some_or (body_named functions n) reason.Function))
    below false e = (pos n, reason.Function, refl, λ m is. rw e refl)
    below true e = named (body_named functions n) e refl

-- The frames of a call with so many turns.

abbrev pub called_frames : List Frame → ℕ → ℕ → ℕ → List Frame
called_frames fs at name turns = record { body = name; call = at; turn = 1; count = turns } ∷ fs

abbrev first_count : List Frame → ℕ
first_count [] = 0
first_count (f ∷ fs) = f.count

-- those of all calls with at most so many turns
frames_up_to : List Frame → ℕ → ℕ → ℕ → List (List Frame)
frames_up_to fs at name zero = []
frames_up_to fs at name (suc n) = called_frames fs at name (suc n) ∷ frames_up_to fs at name n

up_to_length : (fs : List Frame) (at name n : ℕ) → length (frames_up_to fs at name n) ≡ n
unfolding frames_up_to
up_to_length fs at name zero = refl
up_to_length fs at name (suc n) = let e = up_to_length fs at name n in omega arith

up_to_each : (fs : List Frame) (at name n i : ℕ) (gs : List Frame) → slice_get (frames_up_to fs at name n) i ≡ Some gs → (k : ℕ) × (suc k + i ≡ n) × (gs ≡ called_frames fs at name (suc k))
unfolding frames_up_to
up_to_each fs at name zero i gs e = absurd (cc)
up_to_each fs at name (suc n) zero gs e = (n, omega arith, cc)
up_to_each fs at name (suc n) (suc i) gs e = let (k, p, q) = up_to_each fs at name n i gs e in (k, omega arith, q)

-- more turns than a program may have lists of frames
many_frames : (a : Abstract) (fs : List Frame) (at : ℕ) (does : Machine → Tested Outcome) (name n : ℕ) → MOST_CONTEXTS < n
    → ((k : ℕ) → suc k ≤ n → (m : Machine) × Becomes a fs at does m × (m.frames ≡ called_frames fs at name (suc k))) → ManyFrames a fs at does
many_frames a fs at does name n more h = record {
  lists = frames_up_to fs at name n;
  many = let e = up_to_length fs at name n in omega arith;
  apart = λ i j gs e f.
      let (k, p, q) = up_to_each fs at name n i gs e in
      let (l, t, u) = up_to_each fs at name n j gs f in
      let same : called_frames fs at name (suc k) ≡ called_frames fs at name (suc l) = sym q ∙ u in
      let turns : suc k ≡ suc l = ap first_count same in omega arith;
  each = λ i gs e.
      let (k, p, q) = up_to_each fs at name n i gs e in
      let (m, w, f) = h k (omega arith) in (m, w, f ∙ sym q);
}

module _ (s : Setting) (fs : List Frame) (at : ℕ) (once : RunOnce fs) where
  -- the body's start, with this stack
  abbrev entered : Abstract → List Cell → ℕ → ℕ → List Next
  entered a stack name turns = one_way (called_frames fs at name turns) (body_offset name) (leaves_cells a stack [])

  -- Into a body: where it is too deep some machine faults, and where the body runs already some machine comes to run it twice.

  pub enters_stands : (a : Abstract) (old stack : List Cell) (does : Machine → Tested Outcome) (name turns : ℕ)
      → TransfersTo (record a { stack = old }) fs at does (Ok (one_way (called_frames fs at name turns) (body_offset name) (leaves_cells a stack [])))
      → StandsFor (record a { stack = old }) fs at (λ m. does m >>= within_depth s) (enters_cells s fs at a name stack turns >>= within_cells s)
  enters_stands a old stack does name turns h = go (nat_le (length stack) s.limits.stack) refl
    where
      deep_stands : (d : Bool) → nat_le (length stack) s.limits.stack ≡ d
          → TransfersTo (record a { stack = old }) fs at (λ m. does m >>= within_depth s) (holds_or (d && true) reason.Overflow >>= (λ ok. Ok (entered a stack name turns)))
      deep_stands d e =
          let R : Bool → Type 0 = λ d. TransfersTo (record a { stack = old }) fs at (λ m. does m >>= within_depth s) (holds_or (d && true) reason.Overflow >>= (λ ok. Ok (entered a stack name turns))) in
          subst R e (depth_of_ways s (record a { stack = old }) fs at does (Ok (entered a stack name turns)) h)

      fresh_stands : nat_le (length stack) s.limits.stack ≡ true → (v : Bool) → is_running name fs ≡ v
          → StandsFor (record a { stack = old }) fs at (λ m. does m >>= within_depth s) ((holds_or (not v) reason.Recursion >>= (λ fresh. Ok (entered a stack name turns))) >>= within_cells s)
      fresh_stands e true f =
          let t = deep_stands true e in
          let (m, met) = t.1.met 0 (record { frames = called_frames fs at name turns; offset = body_offset name; state = leaves_cells a stack [] }) refl in
          let runs : has_body_twice (called_frames fs at name turns) ≡ true = rw f refl in inr (inl (m, met.0, ap has_body_twice met.1 ∙ runs))
      fresh_stands e false f =
          let runs : has_body_twice (called_frames fs at name turns) ≡ false = rw f once in
          let R : Bool → Type 0 = λ d. StandsFor (record a { stack = old }) fs at (λ m. does m >>= within_depth s) (holds_or (d && true) reason.Overflow >>= (λ ok. Ok (entered a stack name turns))) in
          subst R (sym e)
          (settled_stands (record a { stack = old }) fs at (λ m. does m >>= within_depth s) (Ok (entered a stack name turns))
          (leads_one RunOnce (called_frames fs at name turns) (body_offset name) (leaves_cells a stack []) runs) (deep_stands true e))

      go : (d : Bool) → nat_le (length stack) s.limits.stack ≡ d
          → StandsFor (record a { stack = old }) fs at (λ m. does m >>= within_depth s)
          ((holds_or d reason.Overflow >>= (λ deep. holds_or (not (is_running name fs)) reason.Recursion >>= (λ fresh. Ok (entered a stack name turns)))) >>= within_cells s)
      go false e = inl (deep_stands false e)
      go true e = fresh_stands e (is_running name fs) refl

  -- what some covered machine faults at
  faults_stands : (a : Abstract) (does : Machine → Tested Outcome) (q : Reason) → TransfersTo a fs at does (Err q) → StandsFor a fs at (λ m. does m >>= within_depth s) (Err q)
  faults_stands a does q h = settled_within s a fs at does (Err q) tt h

  -- what isn't the number of a function that all covered machines have
  no_function : (a : Abstract) (c : Cell) (cs : List Cell) (does : Machine → List ℤ → Tested Outcome) (z : ℤ) (q r : Reason) → Covers c z
      → ((m : Machine) (ns : List ℤ) → m.functions ≡ a.functions → does m (z ∷ ns) ≡ Err q)
      → TransfersTo (record a { stack = c ∷ cs }) fs at (λ m. does m m.stack) (Err r)
  no_function a c cs does z q r covers h =
      let (ns, d) = some_stack cs in
      let (m, st, e, f) = exact_machine (record a { stack = c ∷ cs }) fs at (z ∷ ns) (covers, d) in
      (m, q, st, ap (does m) e ∙ h m ns f)

  -- CALL

  abbrev call_on : Machine → List ℤ → Tested Outcome
  call_on m ns = do
    n ← top ns
    name ← called s (there s fs at m) n.0
    Ok (enters (there s fs at m) name n.1 (pos 1))

  pub call_stands : (a : Abstract) → StandsFor a fs at (λ m. controlled s (there s fs at m) Call >>= within_depth s) (controlled_cells s fs at a Call >>= within_cells s)
  call_stands a = go a.stack
    where
      empty : (m : Machine) (ns : List ℤ) → CoversStack [] ns → call_on m ns ≡ Err reason.Underflow
      empty m [] h = refl
      empty m (z ∷ ns) h = absurd h

      of_body : (c : Cell) (cs : List Cell) (t : Tested ℕ) → CallsAs s a.functions c t
          → StandsFor (record a { stack = c ∷ cs }) fs at (λ m. call_on m m.stack >>= within_depth s) ((t >>= (λ name. enters_cells s fs at a name cs 1)) >>= within_cells s)
      of_body c cs (Err r) h =
          let (z, q, covers, fails) = h in
          faults_stands (record a { stack = c ∷ cs }) (λ m. call_on m m.stack) r
          (no_function a c cs call_on z q r covers (λ m ns e. ap (λ t. t >>= (λ name. Ok (enters (there s fs at m) name ns (pos 1)))) (fails (there s fs at m) e)))
      of_body c cs (Ok name) h =
          enters_stands a (c ∷ cs) cs (λ m. call_on m m.stack) name 1
          (lands_stands (record a { stack = c ∷ cs }) fs at (λ m. call_on m m.stack) (called_frames fs at name 1) (body_offset name) (λ m. drop 1 m.stack) cs
          (best_drop (May (record a { stack = c ∷ cs }) fs at) (λ x. x.0.stack) (c ∷ cs) 1 (stack_best (record a { stack = c ∷ cs }) fs at))
          (λ m st. on_called m m.stack st.covered.functions st.covered.stack))
        where
          on_called : (m : Machine) (ns : List ℤ) → CoversFunctions a.functions m.functions → CoversStack (c ∷ cs) ns → call_on m ns ≡ Ok (enters (there s fs at m) name (drop 1 ns) (pos 1))
          on_called m [] f d = absurd d
          on_called m (z ∷ ns) f d = ap (λ t. t >>= (λ name. Ok (enters (there s fs at m) name ns (pos 1)))) (h z d.0 (there s fs at m) f)

      go : (cs : List Cell) → StandsFor (record a { stack = cs }) fs at (λ m. controlled s (there s fs at m) Call >>= within_depth s) (controlled_cells s fs at (record a { stack = cs }) Call >>= within_cells s)
      go [] =
          faults_stands (record a { stack = [] }) (λ m. controlled s (there s fs at m) Call) reason.Underflow
          (fails_there s fs at (record a { stack = [] }) (λ m. controlled s (there s fs at m) Call) reason.Underflow reason.Underflow (λ m st. empty m m.stack st.covered.stack))
      go (c ∷ cs) = of_body c cs (called_cell s a.functions c) (called_stands s a.functions c)

  -- LOOPCALL

  abbrev loop_on : Machine → List ℤ → Tested Outcome
  loop_on m ns = do
    n ← top ns
    name ← called s (there s fs at m) n.0
    count ← top n.1
    Ok (enters (there s fs at m) name count.1 count.0)

  -- with the body that all covered machines have

  module _ (a : Abstract) (c : Cell) (name : ℕ) (h : CallsAs s a.functions c (Ok name)) (us : List Cell) where
    abbrev counting : Cell → Abstract
    counting u = record a { stack = c ∷ u ∷ us }

    on_count : (k : ℤ) (m : Machine) (ns : List ℤ) → CoversFunctions a.functions m.functions → CoversStack (c ∷ Known k ∷ us) ns → loop_on m ns ≡ Ok (enters (there s fs at m) name (drop 2 ns) k)
    on_count k m [] f d = absurd d
    on_count k m (z ∷ []) f d = absurd d.1
    on_count k m (z ∷ y ∷ ns) f d =
        ap (λ t. t >>= (λ name. Ok (enters (there s fs at m) name ns y))) (h z d.0 (there s fs at m) f) ∙ ap (λ y. Ok (enters (there s fs at m) name ns y)) d.1.0

    below_count : (u : Cell) → IsBestStack (May (counting u) fs at) (λ x. drop 2 x.0.stack) us
    below_count u = best_drop (May (counting u) fs at) (λ x. x.0.stack) (c ∷ u ∷ us) 2 (stack_best (counting u) fs at)

    -- a count above 0 enters the body
    counted_enters : (k : ℕ) → TransfersTo (counting (Known (pos (suc k)))) fs at (λ m. loop_on m m.stack) (Ok (one_way (called_frames fs at name (suc k)) (body_offset name) (leaves_cells a us [])))
    counted_enters k =
        lands_stands (counting (Known (pos (suc k)))) fs at (λ m. loop_on m m.stack) (called_frames fs at name (suc k)) (body_offset name) (λ m. drop 2 m.stack) us
        (below_count (Known (pos (suc k)))) (λ m st. on_count (pos (suc k)) m m.stack st.covered.functions st.covered.stack)

    -- another one goes on after the call
    passes : (k : ℤ) → ((m : Machine) (ns : List ℤ) → enters (there s fs at m) name ns k ≡ goes_to (there s fs at m) ns (at + 1))
        → StandsFor (counting (Known k)) fs at (λ m. loop_on m m.stack >>= within_depth s) (Ok (one_way fs (at + 1) (leaves_cells a us [])) >>= within_cells s)
    passes k behind =
        settled_within s (counting (Known k)) fs at (λ m. loop_on m m.stack) (Ok (one_way fs (at + 1) (leaves_cells a us []))) (leads_one RunOnce fs (at + 1) (leaves_cells a us []) once)
        (lands_stands (counting (Known k)) fs at (λ m. loop_on m m.stack) fs (at + 1) (λ m. drop 2 m.stack) us (below_count (Known k))
        (λ m st. on_count k m m.stack st.covered.functions st.covered.stack ∙ ap Ok (behind m (drop 2 m.stack))))

    -- each count is one that may be where it isn't known

    any_count : (k : ℤ) → IsNumber k → (m : Machine) → Stands (counting (Known k)) fs at m → Stands (counting Unknown) fs at m
    any_count k fits m st = record {
      covered = record { stack = wider m.stack st.covered.stack; graphics = st.covered.graphics; storage = st.covered.storage; functions = st.covered.functions };
      frames_are = st.frames_are;
      offset_is = st.offset_is;
    }
      where
        wider : (ns : List ℤ) → CoversStack (c ∷ Known k ∷ us) ns → CoversStack (c ∷ Unknown ∷ us) ns
        wider [] d = absurd d
        wider (z ∷ []) d = absurd d.1
        wider (z ∷ y ∷ ns) d = let N : ℤ → Type 0 = λ n. IsNumber n in (d.0, (subst N (sym d.1.0) fits, d.1.1))

    count_fits : (k : ℕ) → suc k ≤ 65536 → IsNumber (pos (suc k))
    count_fits k small = search rules

    unknown_count : (d : Bool) → nat_le (length us) s.limits.stack ≡ d → StandsFor (counting Unknown) fs at (λ m. loop_on m m.stack >>= within_depth s) (Err reason.UnknownOperand)
    unknown_count d e = go d e
      where
        deep : (k : ℕ) (d : Bool) → nat_le (length us) s.limits.stack ≡ d
            → TransfersTo (counting (Known (pos (suc k)))) fs at (λ m. loop_on m m.stack >>= within_depth s) (holds_or (d && true) reason.Overflow >>= (λ ok. Ok (entered a us name (suc k))))
        deep k d e =
            let R : Bool → Type 0 = λ d. TransfersTo (counting (Known (pos (suc k)))) fs at (λ m. loop_on m m.stack >>= within_depth s) (holds_or (d && true) reason.Overflow >>= (λ ok. Ok (entered a us name (suc k)))) in
            subst R e (depth_of_ways s (counting (Known (pos (suc k)))) fs at (λ m. loop_on m m.stack) (Ok (entered a us name (suc k))) (counted_enters k))

        go : (d : Bool) → nat_le (length us) s.limits.stack ≡ d → StandsFor (counting Unknown) fs at (λ m. loop_on m m.stack >>= within_depth s) (Err reason.UnknownOperand)
        go false e =
            let t = deep 0 false e in
            let (m, r, st, f) = t in inl (m, r, any_count (pos 1) (count_fits 0 (omega arith)) m st, f)
        go true e =
            inr (inr (many_frames (counting Unknown) fs at (λ m. loop_on m m.stack >>= within_depth s) name 65536 (omega arith)
            (λ k small.
            let t = deep k true e in
            let (m, met) = t.1.met 0 (record { frames = called_frames fs at name (suc k); offset = body_offset name; state = leaves_cells a us [] }) refl in
            let wide : Becomes (counting Unknown) fs at (λ m. loop_on m m.stack >>= within_depth s) m = record {
              old = met.0.old;
              stands = any_count (pos (suc k)) (count_fits k small) met.0.old met.0.stands;
              result = met.0.result;
              does_it = met.0.does_it;
              choices = met.0.choices;
              are_numbers = met.0.are_numbers;
              new_is = met.0.new_is;
            } in (m, wide, met.1))))

    pub of_count : (u : Cell) → StandsFor (counting u) fs at (λ m. loop_on m m.stack >>= within_depth s) ((known u >>= (λ count. loops_cells s fs at a name us count)) >>= within_cells s)
    of_count (Known (pos zero)) = passes (pos 0) (λ m ns. refl)
    of_count (Known (pos (suc k))) = enters_stands a (c ∷ Known (pos (suc k)) ∷ us) us (λ m. loop_on m m.stack) name (suc k) (counted_enters k)
    of_count (Known (negsuc k)) = passes (negsuc k) (λ m ns. refl)
    of_count Unknown = unknown_count (nat_le (length us) s.limits.stack) refl

  abbrev loop_cells_on : Abstract → List Cell → Tested ℕ → Tested (List Next)
  loop_cells_on a cs t = do
    name ← t
    u ← top cs
    count ← known u.0
    loops_cells s fs at a name u.1 count

  pub loop_call_stands : (a : Abstract) → StandsFor a fs at (λ m. controlled s (there s fs at m) LoopCall >>= within_depth s) (controlled_cells s fs at a LoopCall >>= within_cells s)
  loop_call_stands a = go a.stack
    where
      empty : (m : Machine) (ns : List ℤ) → CoversStack [] ns → loop_on m ns ≡ Err reason.Underflow
      empty m [] h = refl
      empty m (z ∷ ns) h = absurd h

      of_body : (c : Cell) (cs : List Cell) (t : Tested ℕ) → CallsAs s a.functions c t
          → StandsFor (record a { stack = c ∷ cs }) fs at (λ m. loop_on m m.stack >>= within_depth s) (loop_cells_on a cs t >>= within_cells s)
      of_body c cs (Err r) h =
          let (z, q, covers, fails) = h in
          faults_stands (record a { stack = c ∷ cs }) (λ m. loop_on m m.stack) r
          (no_function a c cs loop_on z q r covers (λ m ns e. ap (λ t. t >>= (λ name. top ns >>= (λ count. Ok (enters (there s fs at m) name count.1 count.0)))) (fails (there s fs at m) e)))
      of_body c [] (Ok name) h =
          faults_stands (record a { stack = c ∷ [] }) (λ m. loop_on m m.stack) reason.Underflow
          (fails_there s fs at (record a { stack = c ∷ [] }) (λ m. loop_on m m.stack) reason.Underflow reason.Underflow (λ m st. short m m.stack st.covered.functions st.covered.stack))
        where
          short : (m : Machine) (ns : List ℤ) → CoversFunctions a.functions m.functions → CoversStack (c ∷ []) ns → loop_on m ns ≡ Err reason.Underflow
          short m [] f d = absurd d
          short m (z ∷ []) f d = ap (λ t. t >>= (λ name. top [] >>= (λ count. Ok (enters (there s fs at m) name count.1 count.0)))) (h z d.0 (there s fs at m) f)
          short m (z ∷ y ∷ ns) f d = absurd d.1
      of_body c (u ∷ us) (Ok name) h = of_count a c name h us u

      go : (cs : List Cell) → StandsFor (record a { stack = cs }) fs at (λ m. controlled s (there s fs at m) LoopCall >>= within_depth s) (controlled_cells s fs at (record a { stack = cs }) LoopCall >>= within_cells s)
      go [] =
          faults_stands (record a { stack = [] }) (λ m. controlled s (there s fs at m) LoopCall) reason.Underflow
          (fails_there s fs at (record a { stack = [] }) (λ m. controlled s (there s fs at m) LoopCall) reason.Underflow reason.Underflow (λ m st. empty m m.stack st.covered.stack))
      go (c ∷ cs) = of_body c cs (called_cell s a.functions c) (called_stands s a.functions c)

  -- ENDF

  -- what goes to one place with the whole stack
  whole_stack : (a : Abstract) (gs : List Frame) (next : ℕ) → RunOnce gs
      → StandsFor a fs at (λ m. Ok (goes_to (record m { frames = gs }) m.stack next) >>= within_depth s) (Ok (one_way gs next (leaves_cells a a.stack [])) >>= within_cells s)
  whole_stack a gs next runs =
      settled_within s a fs at (λ m. Ok (goes_to (record m { frames = gs }) m.stack next)) (Ok (one_way gs next (leaves_cells a a.stack []))) (leads_one RunOnce gs next (leaves_cells a a.stack []) runs)
      (lands_stands a fs at (λ m. Ok (goes_to (record m { frames = gs }) m.stack next)) gs next (λ m. m.stack) a.stack (stack_best a fs at) (λ m st. refl))

  returns_stand : (a : Abstract) (gs : List Frame) → RunOnce gs → StandsFor a fs at (λ m. returns (there s fs at m) gs >>= within_depth s) (returns_cells a gs >>= within_cells s)
  returns_stand a [] runs =
      faults_stands a (λ m. returns (there s fs at m) []) reason.Target (fails_there s fs at a (λ m. returns (there s fs at m) []) reason.Target reason.Target (λ m st. refl))
  returns_stand a (f ∷ gs) runs = go (nat_lt f.turn f.count)
    where
      go : (b : Bool)
          → StandsFor a fs at
          (λ m. (if b then Ok (goes_to (record (there s fs at m) { frames = record f { turn = f.turn + 1 } ∷ gs }) m.stack (body_offset f.body)) else Ok (goes_to (record (there s fs at m) { frames = gs }) m.stack (f.call + 1))) >>= within_depth s)
          ((if b then Ok (one_way (record f { turn = f.turn + 1 } ∷ gs) (body_offset f.body) (leaves_cells a a.stack [])) else Ok (one_way gs (f.call + 1) (leaves_cells a a.stack []))) >>= within_cells s)
      go true = whole_stack a (record f { turn = f.turn + 1 } ∷ gs) (body_offset f.body) runs
      go false = whole_stack a gs (f.call + 1) (or_parts (is_running f.body gs) (has_body_twice gs) runs).1

  pub end_stands : (a : Abstract) → StandsFor a fs at (λ m. controlled s (there s fs at m) EndFunction >>= within_depth s) (controlled_cells s fs at a EndFunction >>= within_cells s)
  end_stands a = returns_stand a fs once
