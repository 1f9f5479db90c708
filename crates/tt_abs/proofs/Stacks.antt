-- Instructions that use only the stack: what they leave of it and what they push, and choosing the numbers with which they fault.
use Rattle.std.specs.Prelude.{ℤ, pos, min, ◌-◌, map, remove}
use Rattle.std.proofs.Common.{◌≡◌, ℕ, zero, suc, ◌+◌, ◌≤◌, ◌<◌, List, [], ◌∷◌, Ok, Err, refl, sym, ◌∙◌, ap, inl, inr, arith, length, length-append, drop}
use Rattle.std.proofs.Math.ListN.{length-drop, length-take}
use Rattle.std.proofs.lemmas.Bool.{cases_lt}
use Rattle.tt_code.specs.Refusals.{Tested}
use Rattle.tt_code.specs.States.{Machine, Value, Exactly, Outcome, leaves}
use Rattle.tt_code.specs.Changes.{taken_at}
use Rattle.tt_code.specs.Runs.{Choices, pushed_on}
use Rattle.tt_code.specs.declared.machine.Frame.{Frame}
use Rattle.tt_code.specs.declared.reason.Reason.{Reason}
use Rattle.tt_abs.specs.declared.cells.Cell.{Cell}
use Rattle.tt_abs.specs.declared.cells.Cell.TheVariants.{Known}
use Rattle.tt_abs.specs.Cells.{Covers, CoversStack, Abstract}
use Rattle.tt_abs.specs.Covers.{Stands, SomeFaults, Transfers}
use Rattle.tt_abs.specs.Transfers.{leaves_cells, cells_on}
use Rattle.tt_abs.proofs.Bests.{IsBestStack, best_cons, best_drop, best_same, cell_is}
use Rattle.tt_abs.proofs.Machines.{May, with_stack, stack_best, registers_best, transfers_same}

-- the abstract state with this stack
abbrev pub with_cells : Abstract → List Cell → Abstract
with_cells a cs = record a { stack = cs }

-- Covered stacks.

pub one_element : (c : Cell) (cs : List Cell) (ns : List ℤ) → CoversStack (c ∷ cs) ns → (n : ℤ) × (ms : List ℤ) × (ns ≡ n ∷ ms) × Covers c n × CoversStack cs ms
one_element c cs [] h = absurd h
one_element c cs (n ∷ ns) h = (n, ns, refl, h.0, h.1)

pub two_elements : (c d : Cell) (cs : List Cell) (ns : List ℤ) → CoversStack (c ∷ d ∷ cs) ns → (n : ℤ) × (o : ℤ) × (ms : List ℤ) × (ns ≡ n ∷ o ∷ ms)
two_elements c d cs [] h = absurd h
two_elements c d cs (n ∷ []) h = absurd h.1
two_elements c d cs (n ∷ o ∷ ns) h = (n, o, ns, refl)

pub three_elements : (c d e : Cell) (cs : List Cell) (ns : List ℤ) → CoversStack (c ∷ d ∷ e ∷ cs) ns → (n : ℤ) × (o : ℤ) × (p : ℤ) × (ms : List ℤ) × (ns ≡ n ∷ o ∷ p ∷ ms)
three_elements c d e cs [] h = absurd h
three_elements c d e cs (n ∷ []) h = absurd h.1
three_elements c d e cs (n ∷ o ∷ []) h = absurd h.1.1
three_elements c d e cs (n ∷ o ∷ p ∷ ns) h = (n, o, p, ns, refl)

pub alone : (c : Cell) (ns : List ℤ) → CoversStack (c ∷ []) ns → (n : ℤ) × (ns ≡ n ∷ [])
alone c [] h = absurd h
alone c (n ∷ []) h = (n, refl)
alone c (n ∷ o ∷ ns) h = absurd h.1

pub two_alone : (c d : Cell) (ns : List ℤ) → CoversStack (c ∷ d ∷ []) ns → (n : ℤ) × (o : ℤ) × (ns ≡ n ∷ o ∷ [])
two_alone c d [] h = absurd h
two_alone c d (n ∷ []) h = absurd h.1
two_alone c d (n ∷ o ∷ []) h = (n, o, refl)
two_alone c d (n ∷ o ∷ p ∷ ns) h = absurd h.1.1

-- Faults on numbers that are chosen.

pub faults_with : (a : Abstract) (frames : List Frame) (offset : ℕ) (does : Machine → Tested Outcome) (ns : List ℤ) (r : Reason)
    → CoversStack a.stack ns → ((m : Machine) → m.stack ≡ ns → does m ≡ Err r) → SomeFaults a frames offset does
faults_with a frames offset does ns r h fails = let (m, s, is) = with_stack a frames offset ns h in (m, r, s, fails m is)

-- What is left of a stack.

pub dropped_best : (a : Abstract) (frames : List Frame) (offset n : ℕ) → IsBestStack (May a frames offset) (λ x. drop n x.0.stack) (drop n a.stack)
dropped_best a frames offset n = best_drop (May a frames offset) (λ x. x.0.stack) a.stack n (stack_best a frames offset)

at_remove_below : {C : Type 0} (d : C) (i : ℕ) (xs : List C) (k : ℕ) → k < i → taken_at d (remove xs i) k ≡ taken_at d xs k
at_remove_below d zero xs k h = absurd (omega arith)
at_remove_below d (suc i) [] k h = refl
at_remove_below d (suc i) (x ∷ xs) zero h = refl
at_remove_below d (suc i) (x ∷ xs) (suc k) h = at_remove_below d i xs k (omega arith)

at_remove_above : {C : Type 0} (d : C) (i : ℕ) (xs : List C) (k : ℕ) → i ≤ k → taken_at d (remove xs i) k ≡ taken_at d xs (suc k)
at_remove_above d zero [] k h = refl
at_remove_above d zero (x ∷ xs) k h = refl
at_remove_above d (suc i) [] k h = refl
at_remove_above d (suc i) (x ∷ xs) zero h = absurd (omega arith)
at_remove_above d (suc i) (x ∷ xs) (suc k) h = at_remove_above d i xs k (omega arith)

length_remove : {C : Type 0} (xs : List C) (i : ℕ) → length (remove xs i) ≡ min i (length xs) + (length xs - suc i)
length_remove xs i = simp (length-append, length-take, length-drop) refl

pub best_remove : {X : Type 0} (In : X → Type 0) (f : X → List ℤ) (cs : List Cell) (i : ℕ) → IsBestStack In f cs → IsBestStack In (λ x. remove (f x) i) (remove cs i)
best_remove {X} In f cs i h = record {
  lengths = λ x j. length_remove (f x) i ∙ ap (λ l. min i l + (l - suc i)) (h.lengths x j) ∙ sym (length_remove cs i);
  each = λ k. elim (cases_lt k i) [
    | inl l ↦ cell_is In (λ x. taken_at (pos 1) (remove (f x) i) k) (taken_at (Known (pos 1)) cs k) (taken_at (Known (pos 1)) (remove cs i) k) (sym (at_remove_below (Known (pos 1)) i cs k l))
        (best_same In (λ x. taken_at (pos 1) (f x) k) (λ x. taken_at (pos 1) (remove (f x) i) k) (taken_at (Known (pos 1)) cs k) (λ x j. at_remove_below (pos 1) i (f x) k l) (h.each k))
    | inr l ↦ cell_is In (λ x. taken_at (pos 1) (remove (f x) i) k) (taken_at (Known (pos 1)) cs (suc k)) (taken_at (Known (pos 1)) (remove cs i) k) (sym (at_remove_above (Known (pos 1)) i cs k l))
        (best_same In (λ x. taken_at (pos 1) (f x) (suc k)) (λ x. taken_at (pos 1) (remove (f x) i) k) (taken_at (Known (pos 1)) cs (suc k)) (λ x j. at_remove_above (pos 1) i (f x) k l) (h.each (suc k)))
  ];
}

-- Elements of a stack pushed on what is left of it.

abbrev pub values_at : List ℤ → List ℕ → List Value
values_at ns places = map (λ i. Exactly (taken_at (pos 1) ns i)) places

abbrev pub cells_at : List Cell → List ℕ → List Cell
cells_at cs places = map (λ i. taken_at (Known (pos 1)) cs i) places

moved_best : {X : Type 0} (In : X → Type 0) (t : X → List ℤ) (cs : List Cell) (places : List ℕ) (choices : X → Choices) (f : X → List ℤ) (rest : List Cell)
    → IsBestStack In t cs → IsBestStack In f rest → IsBestStack In (λ x. pushed_on (values_at (t x) places) (choices x) (f x)) (cells_on (cells_at cs places) rest)
moved_best In t cs [] choices f rest h k = k
moved_best In t cs (p ∷ ps) choices f rest h k =
    moved_best In t cs ps (λ x i. choices x (suc i)) (λ x. taken_at (pos 1) (t x) p ∷ f x) (taken_at (Known (pos 1)) cs p ∷ rest) h
    (best_cons In (λ x. taken_at (pos 1) (t x) p) f (taken_at (Known (pos 1)) cs p) rest (h.each p) k)

module _ (a : Abstract) (frames : List Frame) (offset : ℕ) (does : Machine → Tested Outcome) where
  pub moves_stand : (left : List ℤ → List ℤ) (rest : List Cell) (places : List ℕ)
      → ((m : Machine) → Stands a frames offset m → does m ≡ Ok (leaves m (left m.stack) (values_at m.stack places)))
      → IsBestStack (May a frames offset) (λ x. left x.0.stack) rest
      → Transfers a frames offset does (Ok (leaves_cells a rest (cells_at a.stack places)))
  moves_stand left rest places always best =
      transfers_same a frames offset does (λ m. leaves m (left m.stack) (values_at m.stack places)) (leaves_cells a rest (cells_at a.stack places)) always
      (moved_best (May a frames offset) (λ x. x.0.stack) a.stack places (λ x. x.1) (λ x. left x.0.stack) rest (stack_best a frames offset) best)
      (registers_best a frames offset) (λ m s. refl) refl
