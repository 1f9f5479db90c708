-- Arithmetic instructions: their outcome on cells stands for the machine's outcomes.
use Rattle.std.specs.Prelude.{ℤ, pos, ◌+ℤ◌, ◌-ℤ◌, neg_ℤ, int_lt, int_le, not, ◌&&◌, ◌||◌}
use Rattle.std.proofs.Common.{ℕ, List, [], ◌∷◌, refl, drop}
use Rattle.tt_code.specs.States.{Value, is_true, leaves}
use Rattle.tt_code.specs.Changes.{taken_at}
use Rattle.tt_code.specs.Computing.{exact, truth, absolute, equal, of_one, of_two, computed}
use Rattle.tt_code.specs.Runs.{value}
use Rattle.tt_code.specs.declared.kinds.Arithmetic.{Arithmetic}
use Rattle.tt_code.specs.declared.kinds.Arithmetic.TheVariants.{Add, Sub, Abs, Neg, Lt, LtEq, Gt, GtEq, Eq, Neq, And, Or, Not}
use Rattle.tt_code.specs.declared.machine.Frame.{Frame}
use Rattle.tt_code.specs.declared.reason.Reason.TheVariants as reason
use Rattle.tt_abs.specs.declared.cells.Cell.{Cell}
use Rattle.tt_abs.specs.Cells.{Covers, CoversStack, Abstract}
use Rattle.tt_abs.specs.Covers.{Transfers}
use Rattle.tt_abs.specs.Ranges.{IsInRange, AreInRange}
use Rattle.tt_abs.specs.Transfers.{exact_cell, truth_cell, of_known, of_both_known, lt_cells, le_cells, and_cells, or_cells, of_one_cell, of_two_cells, computed_cells, leaves_cells}
use Rattle.tt_abs.proofs.Choosing.{some_stack, some_graphics}
use Rattle.tt_abs.proofs.Bests.{best_along, best_cons}
use Rattle.tt_abs.proofs.Machines.{May, machine_with, machine_stands, some_area, area_covered, registers_best, transfers_same}
use Rattle.tt_abs.proofs.Stacks.{with_cells, one_element, two_elements, alone, faults_with, dropped_best}
use Rattle.tt_abs.proofs.ArithmeticLemmas.{Chosen, IsBestOfOne, IsBestOfTwo, CoversTwo, add_best, sub_best, abs_best, neg_best, not_best, eq_best, neq_best, lt_best, gt_best, le_best, ge_best, and_best, or_best}

covers_one : (c : Cell) (cs : List Cell) (ns : List ℤ) → CoversStack (c ∷ cs) ns → Covers c (taken_at (pos 1) ns 0)
covers_one c cs [] h = absurd h
covers_one c cs (n ∷ ns) h = h.0

covers_two : (u c : Cell) (cs : List Cell) (ns : List ℤ) → CoversStack (u ∷ c ∷ cs) ns → CoversTwo c u (taken_at (pos 1) ns 1, taken_at (pos 1) ns 0)
covers_two u c cs [] h = absurd h
covers_two u c cs (m ∷ []) h = absurd h.1
covers_two u c cs (m ∷ n ∷ ns) h = record { second = h.1.0; top = h.0 }

-- What is best for the numbers that are covered is best for the upper elements of the machines' stacks.

module _ (a : Abstract) (frames : List Frame) (offset : ℕ) (f : ℤ → Value) (F : Cell → Cell) where
  one_stands : (cs : List Cell) → AreInRange cs → ((c : Cell) → IsInRange c → IsBestOfOne f c (F c))
      → Transfers (with_cells a cs) frames offset (λ m. of_one m f) (of_one_cell (with_cells a cs) F)
  one_stands [] fits best = faults_with (with_cells a []) frames offset (λ m. of_one m f) [] reason.Underflow tt (λ m e. rw e refl)
  one_stands (c ∷ cs) fits best =
      transfers_same (with_cells a (c ∷ cs)) frames offset (λ m. of_one m f) (λ m. leaves m (drop 1 m.stack) (f (taken_at (pos 1) m.stack 0) ∷ [])) (leaves_cells (with_cells a (c ∷ cs)) cs (F c ∷ []))
      (λ m st. let (n, ms, e, h, k) = one_element c cs m.stack st.covered.stack in rw e refl)
      (best_cons (May (with_cells a (c ∷ cs)) frames offset) (λ x. value (f (taken_at (pos 1) x.0.stack 0)) (x.1 0)) (λ x. drop 1 x.0.stack) (F c) cs
      (best_along (May (with_cells a (c ∷ cs)) frames offset) (Chosen (λ n. Covers c n)) (λ x. (taken_at (pos 1) x.0.stack 0, x.1 0)) (λ y. value (f y.0) y.1) (F c)
      (λ x h. record { operands = covers_one c cs x.0.stack h.stands.covered.stack; choice = h.are_numbers 0 })
      (λ y o.
      let (g, d) = some_graphics a.registers.graphics in
      let (ns, h) = some_stack cs in (
        (machine_with (with_cells a (c ∷ cs)) frames offset g (y.0 ∷ ns) (some_area a), λ i. y.1),
        record { stands = machine_stands (with_cells a (c ∷ cs)) frames offset g (y.0 ∷ ns) (some_area a) d (o.operands, h) (area_covered a); are_numbers = λ i. o.choice },
        refl,
      ))
      (best c fits.0))
      (dropped_best (with_cells a (c ∷ cs)) frames offset 1))
      (registers_best (with_cells a (c ∷ cs)) frames offset)
      (λ m s. refl)
      refl

  pub of_one_stands : AreInRange a.stack → ((c : Cell) → IsInRange c → IsBestOfOne f c (F c)) → Transfers a frames offset (λ m. of_one m f) (of_one_cell a F)
  of_one_stands fits best = one_stands a.stack fits best

module _ (a : Abstract) (frames : List Frame) (offset : ℕ) (f : ℤ → ℤ → Value) (F : Cell → Cell → Cell) where
  two_stand : (cs : List Cell) → AreInRange cs → ((c u : Cell) → IsInRange c → IsInRange u → IsBestOfTwo f c u (F c u))
      → Transfers (with_cells a cs) frames offset (λ m. of_two m f) (of_two_cells (with_cells a cs) F)
  two_stand [] fits best = faults_with (with_cells a []) frames offset (λ m. of_two m f) [] reason.Underflow tt (λ m e. rw e refl)
  two_stand (u ∷ []) fits best =
      let (ns, h) = some_stack (u ∷ []) in
      faults_with (with_cells a (u ∷ [])) frames offset (λ m. of_two m f) ns reason.Underflow h (λ m e. let (n, is) = alone u ns h in rw (e, is) refl)
  two_stand (u ∷ c ∷ cs) fits best =
      transfers_same (with_cells a (u ∷ c ∷ cs)) frames offset (λ m. of_two m f) (λ m. leaves m (drop 2 m.stack) (f (taken_at (pos 1) m.stack 1) (taken_at (pos 1) m.stack 0) ∷ []))
      (leaves_cells (with_cells a (u ∷ c ∷ cs)) cs (F c u ∷ []))
      (λ m st. let (n, o, ms, e) = two_elements u c cs m.stack st.covered.stack in rw e refl)
      (best_cons (May (with_cells a (u ∷ c ∷ cs)) frames offset) (λ x. value (f (taken_at (pos 1) x.0.stack 1) (taken_at (pos 1) x.0.stack 0)) (x.1 0)) (λ x. drop 2 x.0.stack) (F c u) cs
      (best_along (May (with_cells a (u ∷ c ∷ cs)) frames offset) (Chosen (CoversTwo c u)) (λ x. ((taken_at (pos 1) x.0.stack 1, taken_at (pos 1) x.0.stack 0), x.1 0)) (λ y. value (f y.0.0 y.0.1) y.1) (F c u)
      (λ x h. record { operands = covers_two u c cs x.0.stack h.stands.covered.stack; choice = h.are_numbers 0 })
      (λ y o.
      let (g, d) = some_graphics a.registers.graphics in
      let (ns, h) = some_stack cs in (
        (machine_with (with_cells a (u ∷ c ∷ cs)) frames offset g (y.0.1 ∷ y.0.0 ∷ ns) (some_area a), λ i. y.1),
        record {
          stands = machine_stands (with_cells a (u ∷ c ∷ cs)) frames offset g (y.0.1 ∷ y.0.0 ∷ ns) (some_area a) d (o.operands.top, (o.operands.second, h)) (area_covered a);
          are_numbers = λ i. o.choice;
        },
        refl,
      ))
      (best c u fits.1.0 fits.0))
      (dropped_best (with_cells a (u ∷ c ∷ cs)) frames offset 2))
      (registers_best (with_cells a (u ∷ c ∷ cs)) frames offset)
      (λ m s. refl)
      refl

  pub of_two_stands : AreInRange a.stack → ((c u : Cell) → IsInRange c → IsInRange u → IsBestOfTwo f c u (F c u)) → Transfers a frames offset (λ m. of_two m f) (of_two_cells a F)
  of_two_stands fits best = two_stand a.stack fits best

module _ (a : Abstract) (frames : List Frame) (offset : ℕ) where
  pub computed_stands : AreInRange a.stack → (op : Arithmetic) → Transfers a frames offset (λ m. computed op m) (computed_cells op a)
  computed_stands fits Add = of_two_stands a frames offset (λ x y. exact (x +ℤ y)) (of_both_known (λ x y. exact_cell (x +ℤ y))) fits (λ c u r s. add_best c u)
  computed_stands fits Sub = of_two_stands a frames offset (λ x y. exact (x -ℤ y)) (of_both_known (λ x y. exact_cell (x -ℤ y))) fits (λ c u r s. sub_best c u)
  computed_stands fits Abs = of_one_stands a frames offset (λ x. exact (absolute x)) (of_known (λ x. exact_cell (absolute x))) fits (λ c r. abs_best c)
  computed_stands fits Neg = of_one_stands a frames offset (λ x. exact (neg_ℤ x)) (of_known (λ x. exact_cell (neg_ℤ x))) fits (λ c r. neg_best c)
  computed_stands fits Lt = of_two_stands a frames offset (λ x y. truth (int_lt x y)) lt_cells fits lt_best
  computed_stands fits LtEq = of_two_stands a frames offset (λ x y. truth (int_le x y)) le_cells fits le_best
  computed_stands fits Gt = of_two_stands a frames offset (λ x y. truth (int_lt y x)) (λ x y. lt_cells y x) fits gt_best
  computed_stands fits GtEq = of_two_stands a frames offset (λ x y. truth (int_le y x)) (λ x y. le_cells y x) fits ge_best
  computed_stands fits Eq = of_two_stands a frames offset (λ x y. truth (equal x y)) (of_both_known (λ x y. truth_cell (equal x y))) fits eq_best
  computed_stands fits Neq = of_two_stands a frames offset (λ x y. truth (not (equal x y))) (of_both_known (λ x y. truth_cell (not (equal x y)))) fits neq_best
  computed_stands fits And = of_two_stands a frames offset (λ x y. truth (is_true x && is_true y)) and_cells fits (λ c u r s. and_best c u)
  computed_stands fits Or = of_two_stands a frames offset (λ x y. truth (is_true x || is_true y)) or_cells fits (λ c u r s. or_best c u)
  computed_stands fits Not = of_one_stands a frames offset (λ x. truth (not (is_true x))) (of_known (λ x. truth_cell (not (is_true x)))) fits (λ c r. not_best c)
