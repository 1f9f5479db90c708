-- Stack instructions: their outcome on cells stands for the machine's outcomes.
use Rattle.std.specs.Prelude.{ℤ, pos, negsuc, remove}
use Rattle.std.proofs.Common.{◌≡◌, ℕ, zero, suc, List, [], ◌∷◌, Ok, Err, refl, ap, subst, length, drop}
use Rattle.tt_code.specs.Refusals.{Tested, ◌>>=◌}
use Rattle.tt_code.specs.States.{Exactly, leaves}
use Rattle.tt_code.specs.Changes.{taken_at}
use Rattle.tt_code.specs.Computing.{element, position_of, shuffled}
use Rattle.tt_code.specs.declared.kinds.StackOp.{StackOp}
use Rattle.tt_code.specs.declared.kinds.StackOp.TheVariants.{Dup, Pop, Clear, Swap, Depth, CopyIndexed, MoveIndexed, Roll}
use Rattle.tt_code.specs.declared.machine.Frame.{Frame}
use Rattle.tt_code.specs.declared.reason.Reason.{Reason}
use Rattle.tt_code.specs.declared.reason.Reason.TheVariants as reason
use Rattle.tt_abs.specs.declared.cells.Cell.{Cell}
use Rattle.tt_abs.specs.declared.cells.Cell.TheVariants.{Known, Unknown}
use Rattle.tt_abs.specs.Cells.{CoversStack, Abstract}
use Rattle.tt_abs.specs.Covers.{Transfers}
use Rattle.tt_abs.specs.Transfers.{shuffled_cells, leaves_cells}
use Rattle.tt_abs.proofs.Choosing.{zero_is_number, some_stack}
use Rattle.tt_abs.proofs.Bests.{best_cons, best_constant, covered_length}
use Rattle.tt_abs.proofs.Machines.{May, some_machine, may, zeros, stack_best, registers_best, transfers_same}
use Rattle.tt_abs.proofs.Stacks.{with_cells, one_element, two_elements, three_elements, alone, two_alone, faults_with, dropped_best, best_remove, moves_stand}

-- Elements by index.

element_there : (k : ℤ) (cs : List Cell) (c : Cell) (ns : List ℤ) → element k cs ≡ Ok c → CoversStack cs ns → element k ns ≡ Ok (taken_at (pos 1) ns (position_of k))
element_there (negsuc n) cs c ns e h = absurd (cc)
element_there (pos zero) cs c ns e h = absurd (cc)
element_there (pos (suc n)) [] c ns e h = absurd (cc)
element_there (pos (suc n)) (x ∷ cs) c [] e h = absurd h
element_there (pos (suc zero)) (x ∷ cs) c (y ∷ ns) e h = refl
element_there (pos (suc (suc n))) (x ∷ cs) c (y ∷ ns) e h = element_there (pos (suc n)) cs c ns e h.1

element_is : (k : ℤ) (cs : List Cell) (c : Cell) → element k cs ≡ Ok c → taken_at (Known (pos 1)) cs (position_of k) ≡ c
element_is (negsuc n) cs c e = absurd (cc)
element_is (pos zero) cs c e = absurd (cc)
element_is (pos (suc n)) [] c e = absurd (cc)
element_is (pos (suc zero)) (x ∷ cs) c e = cc
element_is (pos (suc (suc n))) (x ∷ cs) c e = element_is (pos (suc n)) cs c e

element_missing : (k : ℤ) (cs : List Cell) (r : Reason) (ns : List ℤ) → element k cs ≡ Err r → CoversStack cs ns → (q : Reason) × (element k ns ≡ Err q)
element_missing (negsuc i) cs r ns e h = (reason.Count, refl)
element_missing (pos zero) cs r ns e h = (reason.Count, refl)
element_missing (pos (suc i)) [] r [] e h = (reason.Underflow, refl)
element_missing (pos (suc i)) [] r (y ∷ ns) e h = absurd h
element_missing (pos (suc i)) (x ∷ cs) r [] e h = absurd h
element_missing (pos (suc zero)) (x ∷ cs) r (y ∷ ns) e h = absurd (cc)
element_missing (pos (suc (suc i))) (x ∷ cs) r (y ∷ ns) e h = element_missing (pos (suc i)) cs r ns e h.1

-- Each instruction, by the cells that are on the stack.

module _ (a : Abstract) (frames : List Frame) (offset : ℕ) where
  dup_stands : (cs : List Cell) → Transfers (with_cells a cs) frames offset (shuffled Dup) (shuffled_cells Dup (with_cells a cs))
  dup_stands [] = faults_with (with_cells a []) frames offset (shuffled Dup) [] reason.Underflow tt (λ m e. rw e refl)
  dup_stands (c ∷ cs) =
      moves_stand (with_cells a (c ∷ cs)) frames offset (shuffled Dup) (drop 1) cs (0 ∷ 0 ∷ [])
      (λ m st. let (n, ms, e, h, k) = one_element c cs m.stack st.covered.stack in rw e refl)
      (dropped_best (with_cells a (c ∷ cs)) frames offset 1)

  pop_stands : (cs : List Cell) → Transfers (with_cells a cs) frames offset (shuffled Pop) (shuffled_cells Pop (with_cells a cs))
  pop_stands [] = faults_with (with_cells a []) frames offset (shuffled Pop) [] reason.Underflow tt (λ m e. rw e refl)
  pop_stands (c ∷ cs) =
      moves_stand (with_cells a (c ∷ cs)) frames offset (shuffled Pop) (drop 1) cs []
      (λ m st. let (n, ms, e, h, k) = one_element c cs m.stack st.covered.stack in rw e refl)
      (dropped_best (with_cells a (c ∷ cs)) frames offset 1)

  clear_stands : Transfers a frames offset (shuffled Clear) (shuffled_cells Clear a)
  clear_stands =
      let (m, s, is) = some_machine a frames offset in
      moves_stand a frames offset (shuffled Clear) (λ ns. []) [] [] (λ m st. refl)
      (record { lengths = λ x i. refl; each = λ k. best_constant (May a frames offset) (pos 1) (m, zeros) (may a frames offset m s) })

  swap_stands : (cs : List Cell) → Transfers (with_cells a cs) frames offset (shuffled Swap) (shuffled_cells Swap (with_cells a cs))
  swap_stands [] = faults_with (with_cells a []) frames offset (shuffled Swap) [] reason.Underflow tt (λ m e. rw e refl)
  swap_stands (c ∷ []) =
      let (ns, h) = some_stack (c ∷ []) in
      faults_with (with_cells a (c ∷ [])) frames offset (shuffled Swap) ns reason.Underflow h (λ m e. let (n, is) = alone c ns h in rw (e, is) refl)
  swap_stands (c ∷ d ∷ cs) =
      moves_stand (with_cells a (c ∷ d ∷ cs)) frames offset (shuffled Swap) (drop 2) cs (0 ∷ 1 ∷ [])
      (λ m st. let (n, o, ms, e) = two_elements c d cs m.stack st.covered.stack in rw e refl)
      (dropped_best (with_cells a (c ∷ d ∷ cs)) frames offset 2)

  depth_stands : Transfers a frames offset (shuffled Depth) (shuffled_cells Depth a)
  depth_stands =
      let (m, s, is) = some_machine a frames offset in
      transfers_same a frames offset (shuffled Depth) (λ m. leaves m m.stack (Exactly (pos (length m.stack)) ∷ [])) (leaves_cells a a.stack (Known (pos (length a.stack)) ∷ []))
      (λ m st. refl)
      (best_cons (May a frames offset) (λ x. pos (length x.0.stack)) (λ x. x.0.stack) (Known (pos (length a.stack))) a.stack
      ((λ x h. ap pos (covered_length a.stack x.0.stack h.stands.covered.stack)), ((m, zeros), may a frames offset m s))
      (stack_best a frames offset))
      (registers_best a frames offset) (λ m st. refl) refl

  cindex_stands : (cs : List Cell) → Transfers (with_cells a cs) frames offset (shuffled CopyIndexed) (shuffled_cells CopyIndexed (with_cells a cs))
  cindex_stands [] = faults_with (with_cells a []) frames offset (shuffled CopyIndexed) [] reason.Underflow tt (λ m e. rw e refl)
  cindex_stands (Unknown ∷ cs) =
      let (ns, h) = some_stack cs in
      faults_with (with_cells a (Unknown ∷ cs)) frames offset (shuffled CopyIndexed) (pos 0 ∷ ns) reason.Count (zero_is_number, h) (λ m e. rw e refl)
  cindex_stands (Known k ∷ cs) = picked (element k cs) refl
    where
      picked : (r : Tested Cell) → element k cs ≡ r
          → Transfers (with_cells a (Known k ∷ cs)) frames offset (shuffled CopyIndexed) (r >>= (λ c. Ok (leaves_cells (with_cells a (Known k ∷ cs)) cs (c ∷ []))))
      picked (Err r) f =
          let (ns, h) = some_stack cs in
          let (q, miss) = element_missing k cs r ns f h in
          faults_with (with_cells a (Known k ∷ cs)) frames offset (shuffled CopyIndexed) (k ∷ ns) q (refl, h) (λ m e. rw (e, miss) refl)
      picked (Ok c) f =
          let T : Cell → Type 0 = λ d. Transfers (with_cells a (Known k ∷ cs)) frames offset (shuffled CopyIndexed) (Ok (leaves_cells (with_cells a (Known k ∷ cs)) cs (d ∷ []))) in
          subst T (element_is k cs c f)
          (moves_stand (with_cells a (Known k ∷ cs)) frames offset (shuffled CopyIndexed) (drop 1) cs (suc (position_of k) ∷ [])
          (λ m st. let (n, ms, e, is, h) = one_element (Known k) cs m.stack st.covered.stack in rw (e, is, element_there k cs c ms f h) refl)
          (dropped_best (with_cells a (Known k ∷ cs)) frames offset 1))

  mindex_stands : (cs : List Cell) → Transfers (with_cells a cs) frames offset (shuffled MoveIndexed) (shuffled_cells MoveIndexed (with_cells a cs))
  mindex_stands [] = faults_with (with_cells a []) frames offset (shuffled MoveIndexed) [] reason.Underflow tt (λ m e. rw e refl)
  mindex_stands (Unknown ∷ cs) =
      let (ns, h) = some_stack cs in
      faults_with (with_cells a (Unknown ∷ cs)) frames offset (shuffled MoveIndexed) (pos 0 ∷ ns) reason.Count (zero_is_number, h) (λ m e. rw e refl)
  mindex_stands (Known k ∷ cs) = picked (element k cs) refl
    where
      picked : (r : Tested Cell) → element k cs ≡ r
          → Transfers (with_cells a (Known k ∷ cs)) frames offset (shuffled MoveIndexed) (r >>= (λ c. Ok (leaves_cells (with_cells a (Known k ∷ cs)) (remove cs (position_of k)) (c ∷ []))))
      picked (Err r) f =
          let (ns, h) = some_stack cs in
          let (q, miss) = element_missing k cs r ns f h in
          faults_with (with_cells a (Known k ∷ cs)) frames offset (shuffled MoveIndexed) (k ∷ ns) q (refl, h) (λ m e. rw (e, miss) refl)
      picked (Ok c) f =
          let T : Cell → Type 0 = λ d. Transfers (with_cells a (Known k ∷ cs)) frames offset (shuffled MoveIndexed) (Ok (leaves_cells (with_cells a (Known k ∷ cs)) (remove cs (position_of k)) (d ∷ []))) in
          subst T (element_is k cs c f)
          (moves_stand (with_cells a (Known k ∷ cs)) frames offset (shuffled MoveIndexed) (λ ns. remove (drop 1 ns) (position_of k)) (remove cs (position_of k)) (suc (position_of k) ∷ [])
          (λ m st. let (n, ms, e, is, h) = one_element (Known k) cs m.stack st.covered.stack in rw (e, is, element_there k cs c ms f h) refl)
          (best_remove (May (with_cells a (Known k ∷ cs)) frames offset) (λ x. drop 1 x.0.stack) cs (position_of k) (dropped_best (with_cells a (Known k ∷ cs)) frames offset 1)))

  roll_stands : (cs : List Cell) → Transfers (with_cells a cs) frames offset (shuffled Roll) (shuffled_cells Roll (with_cells a cs))
  roll_stands [] = faults_with (with_cells a []) frames offset (shuffled Roll) [] reason.Underflow tt (λ m e. rw e refl)
  roll_stands (c ∷ []) =
      let (ns, h) = some_stack (c ∷ []) in
      faults_with (with_cells a (c ∷ [])) frames offset (shuffled Roll) ns reason.Underflow h (λ m e. let (n, is) = alone c ns h in rw (e, is) refl)
  roll_stands (c ∷ d ∷ []) =
      let (ns, h) = some_stack (c ∷ d ∷ []) in
      faults_with (with_cells a (c ∷ d ∷ [])) frames offset (shuffled Roll) ns reason.Underflow h (λ m e. let (n, o, is) = two_alone c d ns h in rw (e, is) refl)
  roll_stands (c ∷ d ∷ b ∷ cs) =
      moves_stand (with_cells a (c ∷ d ∷ b ∷ cs)) frames offset (shuffled Roll) (drop 3) cs (1 ∷ 0 ∷ 2 ∷ [])
      (λ m st. let (n, o, p, ms, e) = three_elements c d b cs m.stack st.covered.stack in rw e refl)
      (dropped_best (with_cells a (c ∷ d ∷ b ∷ cs)) frames offset 3)

  pub shuffled_stands : (op : StackOp) → Transfers a frames offset (λ m. shuffled op m) (shuffled_cells op a)
  shuffled_stands Dup = dup_stands a.stack
  shuffled_stands Pop = pop_stands a.stack
  shuffled_stands Clear = clear_stands
  shuffled_stands Swap = swap_stands a.stack
  shuffled_stands Depth = depth_stands
  shuffled_stands CopyIndexed = cindex_stands a.stack
  shuffled_stands MoveIndexed = mindex_stands a.stack
  shuffled_stands Roll = roll_stands a.stack
