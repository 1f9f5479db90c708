-- The instructions that lead elsewhere: each is followed at its place, and a condition that isn't known leads both ways, where each
-- way is that of one number.
use Rattle.std.specs.Prelude.{ℤ, pos, negsuc, ◌+ℤ◌, ◌<◌, ◌^◌, not, nat_eq, nat_lt, nat_le, slice_get, Option, if◌then◌else◌}
use Rattle.std.proofs.Common.{◌≡◌, ℕ, zero, suc, ◌+◌, List, [], ◌∷◌, Ok, Err, Some, None, refl, sym, ◌∙◌, ap, subst, inl, inr, ◌⊎◌, arith, rules, length, drop, Bool, true, false}
use Rattle.std.proofs.lemmas.Int.{ints}
use Rattle.std.proofs.lemmas.Bool.{eqb-true, eq-eqb}
use Rattle.tt_code.specs.Refusals.{Tested, ◌>>=◌, holds_or, some_or}
use Rattle.tt_code.specs.Table.{Controls}
use Rattle.tt_code.specs.Structure.{after_if, after_else, after_fdef}
use Rattle.tt_code.specs.Settings.{Setting, body_name, program_of, is_target}
use Rattle.tt_code.specs.States.{Machine, Outcome, IsNumber, is_below, is_true}
use Rattle.tt_code.specs.Operands.{top}
use Rattle.tt_code.specs.Changes.{natural}
use Rattle.tt_code.specs.Control.{goes_to, jumps, jumps_if, body_named, may_define, controlled}
use Rattle.tt_code.specs.declared.machine.Frame.{Frame}
use Rattle.tt_code.specs.declared.reason.Reason.{Reason}
use Rattle.tt_code.specs.declared.reason.Reason.TheVariants as reason
use Rattle.tt_code.specs.declared.kinds.Control.{Control}
use Rattle.tt_code.specs.declared.kinds.Control.TheVariants.{If, Else, Jump, JumpIfTrue, JumpIfFalse, Call, LoopCall, FunctionDefinition, EndFunction, InstructionDefinition}
use Rattle.tt_abs.specs.declared.cells.Cell.{Cell}
use Rattle.tt_abs.specs.declared.cells.Cell.TheVariants.{Known, Unknown}
use Rattle.tt_abs.specs.Cells.{Covers, CoversStack, Abstract}
use Rattle.tt_setting.specs.Functions.{CoversFunctions}
use Rattle.tt_abs.specs.Covers.{Stands, Becomes, IsSmallestCover, At, AreSmallestCovers, TransfersTo}
use Rattle.tt_setting.specs.Entries.{with_entry}
use Rattle.tt_abs.specs.Transfers.{Next, one_way, two_ways, known, leaves_cells, jump_target, jumps_cells, jumps_by, jumps_if_cells, controlled_cells}
use Rattle.tt_abs.specs.Representation.Followed.{is_followed}
use Rattle.tt_abs.proofs.Choosing.{zero_is_number, one_is_number, minus_one_is_number, some_covered, some_stack}
use Rattle.tt_abs.proofs.Bests.{IsBestStack, best_drop, covered_length}
use Rattle.tt_abs.proofs.Machines.{May, some_machine, with_stack, stack_best, registers_best, transfers_ok, transfers_same}
use Rattle.tt_abs.proofs.Ways.{smallest_by_some, smallest_same, transfers_to_as, one_way_stands, two_ways_stand}

-- One entry.

pub one_place : (These : Machine → Type 0) (fs : List Frame) (next : ℕ) (b : Abstract) → AreSmallestCovers These (one_way fs next b) → (m : Machine) → These m → (m.frames ≡ fs) × (m.offset ≡ next)
one_place These fs next b h m t = let (i, n, e, f, p) = h.places m t in go i n e f p
  where
    go : (i : ℕ) (n : Next) → slice_get (one_way fs next b) i ≡ Some n → m.frames ≡ n.frames → m.offset ≡ n.offset → (m.frames ≡ fs) × (m.offset ≡ next)
    go zero n e f p = let is : n ≡ record { frames = fs; offset = next; state = b } = cc in (f ∙ ap (λ x. x.frames) is, p ∙ ap (λ x. x.offset) is)
    go (suc i) n e f p = absurd (cc)

pub one_smallest : (These : Machine → Type 0) (fs : List Frame) (next : ℕ) (b : Abstract) → AreSmallestCovers These (one_way fs next b) → IsSmallestCover These b
one_smallest These fs next b h =
    smallest_same (At These fs next) These b (λ m g. g.0) (λ m t. let (f, p) = one_place These fs next b h m t in (t, f, p)) (h.smallest 0 (record { frames = fs; offset = next; state = b }) refl)

pub one_met : (These : Machine → Type 0) (fs : List Frame) (next : ℕ) (b : Abstract) → AreSmallestCovers These (one_way fs next b) → (m : Machine) × At These fs next m
one_met These fs next b h = h.met 0 (record { frames = fs; offset = next; state = b }) refl

-- What a number on top that isn't known leads to: each way is that of a number that is known.

module _ (a : Abstract) (cs : List Cell) (fs : List Frame) (at : ℕ) (does : Machine → Tested Outcome) where
  abbrev with_top : Cell → Abstract
  with_top c = record a { stack = c ∷ cs }

  known_top : (m : Machine) → Stands (with_top Unknown) fs at m → (k : ℤ) × IsNumber k × Stands (with_top (Known k)) fs at m
  known_top m st = go m.stack refl st.covered.stack
    where
      go : (ns : List ℤ) → m.stack ≡ ns → CoversStack (Unknown ∷ cs) ns → (k : ℤ) × IsNumber k × Stands (with_top (Known k)) fs at m
      go [] e h = absurd h
      go (k ∷ ns) e h =
          let C : List ℤ → Type 0 = λ l. CoversStack (Known k ∷ cs) l in (
            k,
            h.0,
            record {
              covered = record { stack = subst C (sym e) (refl, h.1); graphics = st.covered.graphics; storage = st.covered.storage; functions = st.covered.functions };
              frames_are = st.frames_are;
              offset_is = st.offset_is;
            },
          )

  any_top : (k : ℤ) → IsNumber k → (m : Machine) → Stands (with_top (Known k)) fs at m → Stands (with_top Unknown) fs at m
  any_top k fits m st = go m.stack refl st.covered.stack
    where
      go : (ns : List ℤ) → m.stack ≡ ns → CoversStack (Known k ∷ cs) ns → Stands (with_top Unknown) fs at m
      go [] e h = absurd h
      go (z ∷ ns) e h =
          let C : List ℤ → Type 0 = λ l. CoversStack (Unknown ∷ cs) l in
          let N : ℤ → Type 0 = λ n. IsNumber n in
          record {
            covered = record { stack = subst C (sym e) (subst N (sym h.0) fits, h.1); graphics = st.covered.graphics; storage = st.covered.storage; functions = st.covered.functions };
            frames_are = st.frames_are;
            offset_is = st.offset_is;
          }

  known_becomes : (m : Machine) → Becomes (with_top Unknown) fs at does m → (k : ℤ) × IsNumber k × Becomes (with_top (Known k)) fs at does m
  known_becomes m w =
      let (k, fits, st) = known_top w.old w.stands in
      (k, fits, record { old = w.old; stands = st; result = w.result; does_it = w.does_it; choices = w.choices; are_numbers = w.are_numbers; new_is = w.new_is })

  any_becomes : (k : ℤ) → IsNumber k → (m : Machine) → Becomes (with_top (Known k)) fs at does m → Becomes (with_top Unknown) fs at does m
  any_becomes k fits m w =
      record { old = w.old; stands = any_top k fits w.old w.stands; result = w.result; does_it = w.does_it; choices = w.choices; are_numbers = w.are_numbers; new_is = w.new_is }

  -- where one number faults, some number does
  pub some_number_faults : (k : ℤ) → IsNumber k → (r q : Reason) → TransfersTo (with_top (Known k)) fs at does (Err r) → TransfersTo (with_top Unknown) fs at does (Err q)
  some_number_faults k fits r q h = let (m, p, st, e) = h in (m, p, any_top k fits m st, e)

  pub both_ways : (way : ℤ → ℕ) (one other : ℕ) (p q : ℤ) → IsNumber p → IsNumber q → way p ≡ one → way q ≡ other → ((k : ℤ) → (way k ≡ one) ⊎ (way k ≡ other)) → (b : Abstract)
      → ((k : ℤ) → IsNumber k → TransfersTo (with_top (Known k)) fs at does (Ok (one_way fs (way k) b))) → TransfersTo (with_top Unknown) fs at does (Ok (two_ways fs one other b))
  both_ways way one other p q fits_p fits_q to_one to_other ways b h = (
    λ m st. let (k, fits, known) = known_top m st in (h k fits).0 m known,
    two_ways_stand (Becomes (with_top Unknown) fs at does) fs one other b
        (record { lands = lands; first_met = met p fits_p one to_one; second_met = met q fits_q other to_other; first_smallest = smallest p fits_p one to_one; second_smallest = smallest q fits_q other to_other }),
  )
    where
      lands : (m : Machine) → Becomes (with_top Unknown) fs at does m → (m.frames ≡ fs) × ((m.offset ≡ one) ⊎ (m.offset ≡ other))
      lands m w =
          let (k, fits, v) = known_becomes m w in
          let (f, e) = one_place (Becomes (with_top (Known k)) fs at does) fs (way k) b (h k fits).1 m v in (f, elim (ways k) [ inl is ↦ inl (e ∙ is) | inr is ↦ inr (e ∙ is) ])

      met : (k : ℤ) → IsNumber k → (next : ℕ) → way k ≡ next → (m : Machine) × At (Becomes (with_top Unknown) fs at does) fs next m
      met k fits next is =
          let (m, g) = one_met (Becomes (with_top (Known k)) fs at does) fs (way k) b (h k fits).1 in (m, (any_becomes k fits m g.0, g.1, g.2 ∙ is))

      smallest : (k : ℤ) → IsNumber k → (next : ℕ) → way k ≡ next → IsSmallestCover (At (Becomes (with_top Unknown) fs at does) fs next) b
      smallest k fits next is =
          smallest_by_some (At (Becomes (with_top Unknown) fs at does) fs next) (Becomes (with_top (Known k)) fs at does) b
          (λ m w. let (f, e) = one_place (Becomes (with_top (Known k)) fs at does) fs (way k) b (h k fits).1 m w in (any_becomes k fits m w, f, e ∙ is))
          (one_smallest (Becomes (with_top (Known k)) fs at does) fs (way k) b (h k fits).1)
          (λ m g. let (l, fit, v) = known_becomes m g.0 in (one_smallest (Becomes (with_top (Known l)) fs at does) fs (way l) b (h l fit).1).covers m v)

-- Each instruction.

module _ (s : Setting) (fs : List Frame) (at : ℕ) where
  -- the machine at this place
  abbrev pub there : Machine → Machine
  there m = record m { frames = fs; offset = at }

  pub stands_there : (a : Abstract) (m : Machine) → Stands a fs at m → m ≡ there m
  stands_there a m st = λ i. record { frames = st.frames_are i; offset = st.offset_is i; stack = m.stack; registers = m.registers; functions = m.functions }

  pub fails_there : (a : Abstract) (does : Machine → Tested Outcome) (r q : Reason) → ((m : Machine) → Stands a fs at m → does m ≡ Err r) → TransfersTo a fs at does (Err q)
  fails_there a does r q h = let (m, st, is) = some_machine a fs at in (m, r, st, h m st)

  -- what leaves a stack and goes to one place
  pub goes_stands : (a : Abstract) (does : Machine → Tested Outcome) (rest : Machine → List ℤ) (stack : List Cell) (next : ℕ)
      → IsBestStack (May a fs at) (λ x. rest x.0) stack → ((m : Machine) → Stands a fs at m → does m ≡ Ok (goes_to (there m) (rest m) next))
      → TransfersTo a fs at does (Ok (one_way fs next (leaves_cells a stack [])))
  goes_stands a does rest stack next best always =
      one_way_stands a fs at does next (Ok (leaves_cells a stack []))
      (transfers_same a fs at does (λ m. goes_to (there m) (rest m) next) (leaves_cells a stack []) always best (registers_best a fs at) (λ m st. refl) refl)
      (λ m st o e.
      let oks : Ok (goes_to (there m) (rest m) next) ≡ Ok o = sym (always m st) ∙ e in
      let same : goes_to (there m) (rest m) next ≡ o = cc in (ap (λ x. x.after.frames) (sym same), ap (λ x. x.after.offset) (sym same)))

  -- ELSE

  pub else_stands : (a : Abstract) → TransfersTo a fs at (λ m. controlled s (there m) Else) (controlled_cells s fs at a Else)
  else_stands a = go (after_else (program_of s fs) at) refl
    where
      go : (o : Option ℕ) → after_else (program_of s fs) at ≡ o
          → TransfersTo a fs at (λ m. controlled s (there m) Else) (some_or o reason.Target >>= (λ after. Ok (one_way fs after (leaves_cells a a.stack []))))
      go None e = fails_there a (λ m. controlled s (there m) Else) reason.Target reason.Target (λ m st. rw e refl)
      go (Some after) e = goes_stands a (λ m. controlled s (there m) Else) (λ m. m.stack) a.stack after (stack_best a fs at) (λ m st. rw e refl)

  -- what is below the first elements of covered stacks

  covers_drop : (n : ℕ) (cs : List Cell) (ns : List ℤ) → CoversStack cs ns → CoversStack (drop n cs) (drop n ns)
  covers_drop zero cs ns h = h
  covers_drop (suc n) [] [] h = tt
  covers_drop (suc n) [] (z ∷ ns) h = absurd h
  covers_drop (suc n) (c ∷ cs) [] h = absurd h
  covers_drop (suc n) (c ∷ cs) (z ∷ ns) h = covers_drop n cs ns h.1

  choose_below : (n : ℕ) (cs : List Cell) (c : Cell) (below : List Cell) (z : ℤ) → drop n cs ≡ c ∷ below → Covers c z → (ns : List ℤ) × CoversStack cs ns × (rest : List ℤ) × (drop n ns ≡ z ∷ rest)
  choose_below zero cs c below z e h =
      let (ns, d) = some_stack below in
      let C : List Cell → Type 0 = λ l. CoversStack l (z ∷ ns) in (z ∷ ns, subst C (sym e) (h, d), ns, refl)
  choose_below (suc n) [] c below z e h = absurd (cc)
  choose_below (suc n) (x ∷ cs) c below z e h =
      let (ns, d, rest, is) = choose_below n cs c below z e h in
      let (k, f) = some_covered x in (k ∷ ns, (f, d), rest, is)

  -- IF

  abbrev if_on : Machine → List ℤ → Tested Outcome
  if_on m ns = do
    e ← top ns
    after ← if is_true e.0 then Ok (at + 1) else some_or (after_if (program_of s fs) at) reason.Target
    Ok (goes_to (there m) e.1 after)

  known_if : (a : Abstract) (cs : List Cell) (k : ℤ) (o : Option ℕ) → after_if (program_of s fs) at ≡ o
      → TransfersTo (record a { stack = Known k ∷ cs }) fs at (λ m. controlled s (there m) If)
      ((if is_true k then Ok (at + 1) else some_or o reason.Target) >>= (λ after. Ok (one_way fs after (leaves_cells a cs []))))
  known_if a cs k o e = go (is_true k) refl o e
    where
      on_known : (m : Machine) (ns : List ℤ) → CoversStack (Known k ∷ cs) ns
          → if_on m ns ≡ ((if is_true k then Ok (at + 1) else some_or (after_if (program_of s fs) at) reason.Target) >>= (λ after. Ok (goes_to (there m) (drop 1 ns) after)))
      on_known m [] h = absurd h
      on_known m (z ∷ ns) h = rw h.0 refl

      below : IsBestStack (May (record a { stack = Known k ∷ cs }) fs at) (λ x. drop 1 x.0.stack) cs
      below = best_drop (May (record a { stack = Known k ∷ cs }) fs at) (λ x. x.0.stack) (Known k ∷ cs) 1 (stack_best (record a { stack = Known k ∷ cs }) fs at)

      go : (b : Bool) → is_true k ≡ b → (o : Option ℕ) → after_if (program_of s fs) at ≡ o
          → TransfersTo (record a { stack = Known k ∷ cs }) fs at (λ m. controlled s (there m) If)
          ((if b then Ok (at + 1) else some_or o reason.Target) >>= (λ after. Ok (one_way fs after (leaves_cells a cs []))))
      go true f o e = goes_stands (record a { stack = Known k ∷ cs }) (λ m. controlled s (there m) If) (λ m. drop 1 m.stack) cs (at + 1) below (λ m st. on_known m m.stack st.covered.stack ∙ rw f refl)
      go false f None e = fails_there (record a { stack = Known k ∷ cs }) (λ m. controlled s (there m) If) reason.Target reason.Target (λ m st. on_known m m.stack st.covered.stack ∙ rw (f, e) refl)
      go false f (Some after) e = goes_stands (record a { stack = Known k ∷ cs }) (λ m. controlled s (there m) If) (λ m. drop 1 m.stack) cs after below (λ m st. on_known m m.stack st.covered.stack ∙ rw (f, e) refl)

  way_pulled : (b : Bool) (x y : ℕ) (c : Abstract) → ((if b then Ok x else Ok y) >>= (λ next. Ok (one_way fs next c))) ≡ Ok (one_way fs (if b then x else y) c)
  way_pulled true x y c = refl
  way_pulled false x y c = refl

  one_of_two : (b : Bool) (x y : ℕ) → ((if b then x else y) ≡ x) ⊎ ((if b then x else y) ≡ y)
  one_of_two true x y = inl refl
  one_of_two false x y = inr refl

  pub if_stands : (a : Abstract) → TransfersTo a fs at (λ m. controlled s (there m) If) (controlled_cells s fs at a If)
  if_stands a = go a.stack
    where
      empty : (m : Machine) (ns : List ℤ) → CoversStack [] ns → if_on m ns ≡ Err reason.Underflow
      empty m [] h = refl
      empty m (z ∷ ns) h = absurd h

      unknown : (cs : List Cell) (o : Option ℕ) → after_if (program_of s fs) at ≡ o
          → TransfersTo (record a { stack = Unknown ∷ cs }) fs at (λ m. controlled s (there m) If) (some_or o reason.Target >>= (λ after. Ok (two_ways fs (at + 1) after (leaves_cells a cs []))))
      unknown cs None e = some_number_faults a cs fs at (λ m. controlled s (there m) If) (pos 0) zero_is_number reason.Target reason.Target (known_if a cs (pos 0) None e)
      unknown cs (Some after) e =
          both_ways a cs fs at (λ m. controlled s (there m) If) (λ k. if is_true k then at + 1 else after) (at + 1) after (pos 1) (pos 0) one_is_number zero_is_number refl refl
          (λ k. one_of_two (is_true k) (at + 1) after) (leaves_cells a cs [])
          (λ k fits.
          let R : Tested (List Next) → Type 0 = λ r. TransfersTo (record a { stack = Known k ∷ cs }) fs at (λ m. controlled s (there m) If) r in
          subst R (way_pulled (is_true k) (at + 1) after (leaves_cells a cs [])) (known_if a cs k (Some after) e))

      go : (cs : List Cell) → TransfersTo (record a { stack = cs }) fs at (λ m. controlled s (there m) If) (controlled_cells s fs at (record a { stack = cs }) If)
      go [] = fails_there (record a { stack = [] }) (λ m. controlled s (there m) If) reason.Underflow reason.Underflow (λ m st. empty m m.stack st.covered.stack)
      go (Known k ∷ cs) = known_if a cs k (after_if (program_of s fs) at) refl
      go (Unknown ∷ cs) = unknown cs (after_if (program_of s fs) at) refl

  -- Jumps. The number by which to jump is below so many others.

  abbrev pub jumping : ℕ → Machine → Tested Outcome
  jumping n m = do
    by ← top (drop n m.stack)
    jumps s (there m) by.0 by.1

  -- the offset leads before the program
  back_to_minus_one : (at : ℕ) → pos at +ℤ negsuc at ≡ negsuc 0
  back_to_minus_one at = omega (arith, ints)

  offset_fits : at < 2 ^ 31 → IsNumber (negsuc at)
  offset_fits small = search rules

  pub jumps_stand : (n : ℕ) (a : Abstract) (by : Cell) (below : List Cell) → at < 2 ^ 31 → drop n a.stack ≡ by ∷ below → TransfersTo a fs at (jumping n) (jumps_cells s fs at a by below)
  jumps_stand n a by below small is = shallow (nat_le (length below) s.limits.stack) refl
    where
      stacked : (m : Machine) → Stands a fs at m → (z : ℤ) × (rest : List ℤ) × (drop n m.stack ≡ z ∷ rest) × Covers by z × (length rest ≡ length below)
      stacked m st = split (drop n m.stack) refl (let C : List Cell → Type 0 = λ l. CoversStack l (drop n m.stack) in subst C is (covers_drop n a.stack m.stack st.covered.stack))
        where
          split : (ns : List ℤ) → drop n m.stack ≡ ns → CoversStack (by ∷ below) ns → (z : ℤ) × (rest : List ℤ) × (drop n m.stack ≡ z ∷ rest) × Covers by z × (length rest ≡ length below)
          split [] e h = absurd h
          split (z ∷ ns) e h = (z, ns, e, h.0, covered_length below ns h.1)

      -- where the depth and the target are tested
      tested_jump : (m : Machine) (z : ℤ) (rest : List ℤ) (deep target : Bool) → drop n m.stack ≡ z ∷ rest → nat_le (length rest) s.limits.stack ≡ deep → is_target s fs (pos at +ℤ z) ≡ target
          → jumping n m ≡ (holds_or deep reason.Overflow >>= (λ d. holds_or target reason.Target >>= (λ t. Ok (goes_to (there m) rest (natural (pos at +ℤ z))))))
      tested_jump m z rest deep target e d t = rw (e, d, t) refl

      lands : (z : ℤ) (b : Bool) → nat_le (length below) s.limits.stack ≡ true → by ≡ Known z → is_target s fs (pos at +ℤ z) ≡ b
          → TransfersTo a fs at (jumping n) (holds_or b reason.Target >>= (λ ok. Ok (one_way fs (natural (pos at +ℤ z)) (leaves_cells a below []))))
      lands z false d by_is t =
          fails_there a (jumping n) reason.Target reason.Target
          (λ m st.
          let (y, rest, e, c, l) = stacked m st in
          let K : Cell → Type 0 = λ x. Covers x y in
          let same : y ≡ z = subst K by_is c in
          tested_jump m y rest true false e (ap (λ k. nat_le k s.limits.stack) l ∙ d) (ap (λ k. is_target s fs (pos at +ℤ k)) same ∙ t))
      lands z true d by_is t =
          let B : List Cell → Type 0 = λ l. IsBestStack (May a fs at) (λ x. drop 1 (drop n x.0.stack)) l in
          goes_stands a (jumping n) (λ m. drop 1 (drop n m.stack)) below (natural (pos at +ℤ z))
          (subst B (ap (λ l. drop 1 l) is) (best_drop (May a fs at) (λ x. drop n x.0.stack) (drop n a.stack) 1 (best_drop (May a fs at) (λ x. x.0.stack) a.stack n (stack_best a fs at))))
          (λ m st.
          let (y, rest, e, c, l) = stacked m st in
          let K : Cell → Type 0 = λ x. Covers x y in
          let same : y ≡ z = subst K by_is c in
          tested_jump m y rest true true e (ap (λ k. nat_le k s.limits.stack) l ∙ d) (ap (λ k. is_target s fs (pos at +ℤ k)) same ∙ t)
          ∙ ap (λ k. Ok (goes_to (there m) rest (natural (pos at +ℤ k)))) same
          ∙ ap (λ l. Ok (goes_to (there m) (drop 1 l) (natural (pos at +ℤ z)))) (sym e))

      of_cell : (c : Cell) → by ≡ c → nat_le (length below) s.limits.stack ≡ true
          → TransfersTo a fs at (jumping n) ((known c >>= (λ z. holds_or (is_target s fs (pos at +ℤ z)) reason.Target >>= (λ ok. Ok (natural (pos at +ℤ z))))) >>= (λ target. Ok (one_way fs target (leaves_cells a below []))))
      of_cell (Known z) e d = pulled (is_target s fs (pos at +ℤ z)) refl
        where
          pulled : (b : Bool) → is_target s fs (pos at +ℤ z) ≡ b
              → TransfersTo a fs at (jumping n) ((holds_or b reason.Target >>= (λ ok. Ok (natural (pos at +ℤ z)))) >>= (λ target. Ok (one_way fs target (leaves_cells a below []))))
          pulled true t = lands z true d e t
          pulled false t = lands z false d e t
      of_cell Unknown e d =
          let C : Cell → Type 0 = λ c. Covers c (negsuc at) in
          let (ns, covered, rest, f) = choose_below n a.stack by below (negsuc at) is (subst C (sym e) (offset_fits small)) in
          let (m, st, same) = with_stack a fs at ns covered in
          let (y, more, g, c, l) = stacked m st in
          let below_is : negsuc at ∷ rest ≡ y ∷ more = sym f ∙ ap (λ l. drop n l) (sym same) ∙ g in
          let number : negsuc at ≡ y = cc in (
            m,
            reason.Target,
            st,
            tested_jump m y more true false g (ap (λ k. nat_le k s.limits.stack) l ∙ d) (ap (λ k. is_target s fs (pos at +ℤ k)) (sym number) ∙ ap (λ k. is_target s fs k) (back_to_minus_one at)),
          )

      shallow : (b : Bool) → nat_le (length below) s.limits.stack ≡ b
          → TransfersTo a fs at (jumping n)
          ((holds_or b reason.Overflow >>= (λ deep. known by >>= (λ z. holds_or (is_target s fs (pos at +ℤ z)) reason.Target >>= (λ ok. Ok (natural (pos at +ℤ z)))))) >>= (λ target. Ok (one_way fs target (leaves_cells a below []))))
      shallow true d = of_cell by refl d
      shallow false d =
          fails_there a (jumping n) reason.Overflow reason.Overflow
          (λ m st. let (z, rest, e, c, l) = stacked m st in tested_jump m z rest false (is_target s fs (pos at +ℤ z)) e (ap (λ k. nat_le k s.limits.stack) l ∙ d) refl)

  pub jump_stands : (a : Abstract) → at < 2 ^ 31 → TransfersTo a fs at (λ m. controlled s (there m) Jump) (controlled_cells s fs at a Jump)
  jump_stands a small = go a.stack
    where
      jumping_on : Machine → List ℤ → Tested Outcome
      jumping_on m ns = top ns >>= (λ by. jumps s (there m) by.0 by.1)

      empty : (m : Machine) (ns : List ℤ) → CoversStack [] ns → jumping_on m ns ≡ Err reason.Underflow
      empty m [] h = refl
      empty m (z ∷ ns) h = absurd h

      go : (cs : List Cell) → TransfersTo (record a { stack = cs }) fs at (λ m. controlled s (there m) Jump) (controlled_cells s fs at (record a { stack = cs }) Jump)
      go [] = fails_there (record a { stack = [] }) (λ m. controlled s (there m) Jump) reason.Underflow reason.Underflow (λ m st. empty m m.stack st.covered.stack)
      go (by ∷ below) = jumps_stand 0 (record a { stack = by ∷ below }) by below small refl

  -- Jumps by a condition.

  abbrev jumps_if_on : (ℤ → Bool) → Machine → List ℤ → Tested Outcome
  jumps_if_on holds m ns = do
    e ← top ns
    by ← top e.1
    if holds e.0 then jumps s (there m) by.0 by.1 else Ok (goes_to (there m) by.1 (at + 1))

  known_jump : (a : Abstract) (holds : ℤ → Bool) (k : ℤ) (by : Cell) (below : List Cell) → at < 2 ^ 31
      → TransfersTo (record a { stack = Known k ∷ by ∷ below }) fs at (λ m. jumps_if s (there m) holds)
      (if holds k then jumps_cells s fs at a by below else Ok (one_way fs (at + 1) (leaves_cells a below [])))
  known_jump a holds k by below small = go (holds k) refl
    where
      go : (b : Bool) → holds k ≡ b
          → TransfersTo (record a { stack = Known k ∷ by ∷ below }) fs at (λ m. jumps_if s (there m) holds)
          (if b then jumps_cells s fs at a by below else Ok (one_way fs (at + 1) (leaves_cells a below [])))
      go true e =
          transfers_to_as (record a { stack = Known k ∷ by ∷ below }) fs at (jumping 1) (λ m. jumps_if s (there m) holds) (jumps_cells s fs at a by below)
          (λ m st. taken m m.stack st.covered.stack) (jumps_stand 1 (record a { stack = Known k ∷ by ∷ below }) by below small refl)
        where
          taken : (m : Machine) (ns : List ℤ) → CoversStack (Known k ∷ by ∷ below) ns → jumps_if_on holds m ns ≡ (top (drop 1 ns) >>= (λ t. jumps s (there m) t.0 t.1))
          taken m [] h = absurd h
          taken m (z ∷ []) h = absurd h.1
          taken m (z ∷ y ∷ ns) h = rw (h.0, e) refl
      go false e =
          goes_stands (record a { stack = Known k ∷ by ∷ below }) (λ m. jumps_if s (there m) holds) (λ m. drop 2 m.stack) below (at + 1)
          (best_drop (May (record a { stack = Known k ∷ by ∷ below }) fs at) (λ x. x.0.stack) (Known k ∷ by ∷ below) 2 (stack_best (record a { stack = Known k ∷ by ∷ below }) fs at))
          (λ m st. passed m m.stack st.covered.stack)
        where
          passed : (m : Machine) (ns : List ℤ) → CoversStack (Known k ∷ by ∷ below) ns → jumps_if_on holds m ns ≡ Ok (goes_to (there m) (drop 2 ns) (at + 1))
          passed m [] h = absurd h
          passed m (z ∷ []) h = absurd h.1
          passed m (z ∷ y ∷ ns) h = rw (h.0, e) refl

  unknown_jump : (a : Abstract) (holds : ℤ → Bool) (p q : ℤ) → IsNumber p → IsNumber q → holds p ≡ true → holds q ≡ false → (by : Cell) (below : List Cell) → at < 2 ^ 31
      → TransfersTo (record a { stack = Unknown ∷ by ∷ below }) fs at (λ m. jumps_if s (there m) holds) (jumps_by s fs at a holds Unknown by below)
  unknown_jump a holds p q fits_p fits_q p_holds q_fails by below small = go (jump_target s fs at by below) refl
    where
      known_to : (k : ℤ) (t : Tested ℕ) → jump_target s fs at by below ≡ t
          → TransfersTo (record a { stack = Known k ∷ by ∷ below }) fs at (λ m. jumps_if s (there m) holds)
          (if holds k then t >>= (λ target. Ok (one_way fs target (leaves_cells a below []))) else Ok (one_way fs (at + 1) (leaves_cells a below [])))
      known_to k t e =
          let R : Tested ℕ → Type 0 = λ t. TransfersTo (record a { stack = Known k ∷ by ∷ below }) fs at (λ m. jumps_if s (there m) holds)
          (if holds k then t >>= (λ target. Ok (one_way fs target (leaves_cells a below []))) else Ok (one_way fs (at + 1) (leaves_cells a below []))) in
          subst R e (known_jump a holds k by below small)

      pulled : (b : Bool) (x y : ℕ) (c : Abstract) → ◌≡◌ {A = Tested (List Next)} (if b then Ok (one_way fs x c) else Ok (one_way fs y c)) (Ok (one_way fs (if b then x else y) c))
      pulled true x y c = refl
      pulled false x y c = refl

      go : (t : Tested ℕ) → jump_target s fs at by below ≡ t
          → TransfersTo (record a { stack = Unknown ∷ by ∷ below }) fs at (λ m. jumps_if s (there m) holds) (t >>= (λ target. Ok (two_ways fs (at + 1) target (leaves_cells a below []))))
      go (Err r) e =
          let R : Bool → Type 0 = λ b. TransfersTo (record a { stack = Known p ∷ by ∷ below }) fs at (λ m. jumps_if s (there m) holds) (if b then Err r else Ok (one_way fs (at + 1) (leaves_cells a below []))) in
          some_number_faults a (by ∷ below) fs at (λ m. jumps_if s (there m) holds) p fits_p r r (subst R p_holds (known_to p (Err r) e))
      go (Ok target) e =
          both_ways a (by ∷ below) fs at (λ m. jumps_if s (there m) holds) (λ k. if holds k then target else at + 1) (at + 1) target q p fits_q fits_p (rw q_fails refl) (rw p_holds refl)
          (λ k. elim (one_of_two (holds k) target (at + 1)) [ inl is ↦ inr is | inr is ↦ inl is ]) (leaves_cells a below [])
          (λ k fits.
          let R : Tested (List Next) → Type 0 = λ r. TransfersTo (record a { stack = Known k ∷ by ∷ below }) fs at (λ m. jumps_if s (there m) holds) r in
          subst R (pulled (holds k) target (at + 1) (leaves_cells a below [])) (known_to k (Ok target) e))

  pub jump_if_stands : (a : Abstract) (holds : ℤ → Bool) (p q : ℤ) → IsNumber p → IsNumber q → holds p ≡ true → holds q ≡ false → at < 2 ^ 31
      → TransfersTo a fs at (λ m. jumps_if s (there m) holds) (jumps_if_cells s fs at a holds)
  jump_if_stands a holds p q fits_p fits_q p_holds q_fails small = go a.stack
    where
      empty : (m : Machine) (ns : List ℤ) → CoversStack [] ns → jumps_if_on holds m ns ≡ Err reason.Underflow
      empty m [] h = refl
      empty m (z ∷ ns) h = absurd h

      short : (c : Cell) (m : Machine) (ns : List ℤ) → CoversStack (c ∷ []) ns → jumps_if_on holds m ns ≡ Err reason.Underflow
      short c m [] h = absurd h
      short c m (z ∷ []) h = refl
      short c m (z ∷ y ∷ ns) h = absurd h.1

      go : (cs : List Cell) → TransfersTo (record a { stack = cs }) fs at (λ m. jumps_if s (there m) holds) (jumps_if_cells s fs at (record a { stack = cs }) holds)
      go [] = fails_there (record a { stack = [] }) (λ m. jumps_if s (there m) holds) reason.Underflow reason.Underflow (λ m st. empty m m.stack st.covered.stack)
      go (c ∷ []) = fails_there (record a { stack = c ∷ [] }) (λ m. jumps_if s (there m) holds) reason.Underflow reason.Underflow (λ m st. short c m m.stack st.covered.stack)
      go (Known k ∷ by ∷ below) = known_jump a holds k by below small
      go (Unknown ∷ by ∷ below) = unknown_jump a holds p q fits_p fits_q p_holds q_fails by below small

  -- FDEF

  -- an entry put at its place names the same as one put in front
  entry_named : (k v : ℕ) (es : List (ℕ × ℕ)) (n : ℕ) → body_named (with_entry k v es) n ≡ body_named ((k, v) ∷ es) n
  entry_named k v [] n = refl
  entry_named k v (e ∷ es) n = go (nat_lt k e.0) (nat_eq k e.0) refl (entry_named k v es n)
    where
      behind : (b c : Bool) → nat_eq e.0 n ≡ b → nat_eq k n ≡ c → nat_eq k e.0 ≡ false → (if b then Some e.1 else (if c then Some v else body_named es n)) ≡ (if c then Some v else (if b then Some e.1 else body_named es n))
      behind true true f g h = absurd (cc (eq-eqb k e.0 (eqb-true k n g ∙ sym (eqb-true e.0 n f))))
      behind true false f g h = refl
      behind false c f g h = refl

      replaced : (b c : Bool) → nat_eq k n ≡ b → nat_eq e.0 n ≡ c → k ≡ e.0 → (if b then Some v else body_named es n) ≡ (if b then Some v else (if c then Some e.1 else body_named es n))
      replaced true c f g h = refl
      replaced false false f g h = refl
      replaced false true f g h = absurd (cc (eq-eqb k n (h ∙ eqb-true e.0 n g)))

      go : (before same : Bool) → nat_eq k e.0 ≡ same → body_named (with_entry k v es) n ≡ body_named ((k, v) ∷ es) n
          → body_named (if before then (k, v) ∷ e ∷ es else if same then (k, v) ∷ es else e ∷ with_entry k v es) n ≡ body_named ((k, v) ∷ e ∷ es) n
      go true same f rest = refl
      go false true f rest = replaced (nat_eq k n) (nat_eq e.0 n) refl refl (eqb-true k e.0 f)
      go false false f rest = ap (λ o. if nat_eq e.0 n then Some e.1 else o) rest ∙ behind (nat_eq e.0 n) (nat_eq k n) refl refl f

  abbrev defining_on : Machine → Bool → List ℤ → Option ℕ → Tested Outcome
  defining_on m may ns behind = do
    allowed ← holds_or may reason.Definition
    n ← top ns
    ok ← holds_or (is_below n.0 s.limits.functions) reason.Function
    after ← some_or behind reason.Target
    Ok (goes_to (record (there m) { functions = (natural n.0, body_name s.kind (at + 1)) ∷ m.functions }) n.1 after)

  -- what is left where the function is defined
  abbrev defined : ℤ → ℕ → Machine → List ℤ → Outcome
  defined k after m rest = goes_to (record (there m) { functions = (natural k, body_name s.kind (at + 1)) ∷ m.functions }) rest after

  abbrev defining_cells : Abstract → Bool → List Cell → Option ℕ → Tested (List Next)
  defining_cells a may cs behind = do
    allowed ← holds_or may reason.Definition
    t ← top cs
    n ← known t.0
    ok ← holds_or (is_below n s.limits.functions) reason.Function
    after ← some_or behind reason.Target
    Ok (one_way fs after (leaves_cells (record a { functions = with_entry (natural n) (body_name s.kind (at + 1)) a.functions }) t.1 []))

  defines_stands : (a : Abstract) (cs : List Cell) (k : ℤ) (after : ℕ) → is_below k s.limits.functions ≡ true
      → TransfersTo (record a { stack = Known k ∷ cs }) fs at (λ m. defining_on m true m.stack (Some after))
      (Ok (one_way fs after (leaves_cells (record a { functions = with_entry (natural k) (body_name s.kind (at + 1)) a.functions }) cs [])))
  defines_stands a cs k after e =
      one_way_stands (record a { stack = Known k ∷ cs }) fs at (λ m. defining_on m true m.stack (Some after)) after
      (Ok (leaves_cells (record a { functions = with_entry (natural k) (body_name s.kind (at + 1)) a.functions }) cs []))
      (transfers_ok (record a { stack = Known k ∷ cs }) fs at (λ m. defining_on m true m.stack (Some after)) (λ m. defined k after m (drop 1 m.stack))
      (leaves_cells (record a { functions = with_entry (natural k) (body_name s.kind (at + 1)) a.functions }) cs [])
      (λ m st. always m m.stack st.covered.stack)
      (best_drop (May (record a { stack = Known k ∷ cs }) fs at) (λ x. x.0.stack) (Known k ∷ cs) 1 (stack_best (record a { stack = Known k ∷ cs }) fs at))
      (registers_best (record a { stack = Known k ∷ cs }) fs at)
      (λ m st n body g. more m.functions st.covered.functions n body (sym (entry_named (natural k) (body_name s.kind (at + 1)) a.functions n) ∙ g))
      (let (m, st, is) = some_machine (record a { stack = Known k ∷ cs }) fs at in
      (m, st, λ n body g. entry_named (natural k) (body_name s.kind (at + 1)) a.functions n ∙ ap (λ l. body_named ((natural k, body_name s.kind (at + 1)) ∷ l) n) (sym is) ∙ g)))
      (λ m st o f.
      let oks : Ok (defined k after m (drop 1 m.stack)) ≡ Ok o = sym (always m m.stack st.covered.stack) ∙ f in
      let same : defined k after m (drop 1 m.stack) ≡ o = cc in (ap (λ x. x.after.frames) (sym same), ap (λ x. x.after.offset) (sym same)))
    where
      always : (m : Machine) (ns : List ℤ) → CoversStack (Known k ∷ cs) ns
          → defining_on m true ns (Some after) ≡ Ok (defined k after m (drop 1 ns))
      always m [] h = absurd h
      always m (z ∷ ns) h = rw (h.0, e) refl

      more : (functions : List (ℕ × ℕ)) → CoversFunctions a.functions functions → CoversFunctions ((natural k, body_name s.kind (at + 1)) ∷ a.functions) ((natural k, body_name s.kind (at + 1)) ∷ functions)
      more functions h n body = go (nat_eq (natural k) n)
        where
          go : (b : Bool) → (if b then Some (body_name s.kind (at + 1)) else body_named a.functions n) ≡ Some body → (if b then Some (body_name s.kind (at + 1)) else body_named functions n) ≡ Some body
          go true g = g
          go false g = h n body g

  pub definition_stands : (a : Abstract) → TransfersTo a fs at (λ m. controlled s (there m) FunctionDefinition) (controlled_cells s fs at a FunctionDefinition)
  definition_stands a = allowed (may_define s.kind) refl
    where
      -- what the definition is of, if it is allowed
      of_number : (cs : List Cell) (k : ℤ) (b : Bool) → is_below k s.limits.functions ≡ b → (o : Option ℕ)
          → TransfersTo (record a { stack = Known k ∷ cs }) fs at (λ m. defining_on m true m.stack o)
          (holds_or b reason.Function >>= (λ ok. some_or o reason.Target
          >>= (λ after. Ok (one_way fs after (leaves_cells (record a { functions = with_entry (natural k) (body_name s.kind (at + 1)) a.functions }) cs [])))))
      of_number cs k false e o = fails_there (record a { stack = Known k ∷ cs }) (λ m. defining_on m true m.stack o) reason.Function reason.Function (λ m st. fails m m.stack st.covered.stack)
        where
          fails : (m : Machine) (ns : List ℤ) → CoversStack (Known k ∷ cs) ns → defining_on m true ns o ≡ Err reason.Function
          fails m [] h = absurd h
          fails m (z ∷ ns) h = rw (h.0, e) refl
      of_number cs k true e None = fails_there (record a { stack = Known k ∷ cs }) (λ m. defining_on m true m.stack None) reason.Target reason.Target (λ m st. fails m m.stack st.covered.stack)
        where
          fails : (m : Machine) (ns : List ℤ) → CoversStack (Known k ∷ cs) ns → defining_on m true ns None ≡ Err reason.Target
          fails m [] h = absurd h
          fails m (z ∷ ns) h = rw (h.0, e) refl
      of_number cs k true e (Some after) = defines_stands a cs k after e

      of_stack : (cs : List Cell) (o : Option ℕ) → TransfersTo (record a { stack = cs }) fs at (λ m. defining_on m true m.stack o) (defining_cells (record a { stack = cs }) true cs o)
      of_stack [] o = fails_there (record a { stack = [] }) (λ m. defining_on m true m.stack o) reason.Underflow reason.Underflow (λ m st. fails m m.stack st.covered.stack)
        where
          fails : (m : Machine) (ns : List ℤ) → CoversStack [] ns → defining_on m true ns o ≡ Err reason.Underflow
          fails m [] h = refl
          fails m (z ∷ ns) h = absurd h
      of_stack (Known k ∷ cs) o = of_number cs k (is_below k s.limits.functions) refl o
      of_stack (Unknown ∷ cs) o = some_number_faults a cs fs at (λ m. defining_on m true m.stack o) (negsuc 0) minus_one_is_number reason.Function reason.UnknownOperand (of_number cs (negsuc 0) false refl o)

      allowed : (b : Bool) → may_define s.kind ≡ b
          → TransfersTo a fs at (λ m. controlled s (there m) FunctionDefinition) (defining_cells a b a.stack (after_fdef (program_of s fs) at))
      allowed true e =
          transfers_to_as a fs at (λ m. defining_on m true m.stack (after_fdef (program_of s fs) at)) (λ m. controlled s (there m) FunctionDefinition)
          (defining_cells a true a.stack (after_fdef (program_of s fs) at)) (λ m st. ap (λ b. defining_on m b m.stack (after_fdef (program_of s fs) at)) e) (of_stack a.stack (after_fdef (program_of s fs) at))
      allowed false e = fails_there a (λ m. controlled s (there m) FunctionDefinition) reason.Definition reason.Definition (λ m st. ap (λ b. defining_on m b m.stack (after_fdef (program_of s fs) at)) e)

  -- All of these instructions.

  controlled_there : (c : Control) → is_followed (Controls c) ≡ true → at < 2 ^ 31 → (a : Abstract) → TransfersTo a fs at (λ m. controlled s (there m) c) (controlled_cells s fs at a c)
  controlled_there If followed small a = if_stands a
  controlled_there Else followed small a = else_stands a
  controlled_there Jump followed small a = jump_stands a small
  controlled_there JumpIfTrue followed small a = jump_if_stands a is_true (pos 1) (pos 0) one_is_number zero_is_number refl refl small
  controlled_there JumpIfFalse followed small a = jump_if_stands a (λ e. not (is_true e)) (pos 0) (pos 1) zero_is_number one_is_number refl refl small
  controlled_there Call followed small a = absurd (cc)
  controlled_there LoopCall followed small a = absurd (cc)
  controlled_there FunctionDefinition followed small a = definition_stands a
  controlled_there EndFunction followed small a = absurd (cc)
  controlled_there InstructionDefinition followed small a = fails_there a (λ m. controlled s (there m) InstructionDefinition) reason.InstructionDefinition reason.InstructionDefinition (λ m st. refl)

  pub controlled_stands : (c : Control) → is_followed (Controls c) ≡ true → at < 2 ^ 31 → (a : Abstract) → TransfersTo a fs at (λ m. controlled s m c) (controlled_cells s fs at a c)
  controlled_stands c followed small a =
      transfers_to_as a fs at (λ m. controlled s (there m) c) (λ m. controlled s m c) (controlled_cells s fs at a c) (λ m st. ap (λ x. controlled s x c) (stands_there a m st)) (controlled_there c followed small a)
