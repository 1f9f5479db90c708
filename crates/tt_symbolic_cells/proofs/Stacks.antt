-- The instructions that move the stack's cells, on cells and on their numbers.
use Rattle.std.specs.Prelude.{remove}
use Rattle.std.proofs.Common.{◌≡◌, ℕ, zero, suc, ◌+◌, pos, List, [], ◌∷◌, ◌++◌, map, Ok, refl, sym, ◌∙◌, ap, arith, length, drop, take}
use Rattle.std.proofs.lemmas.List.{drop-map, take-map, map-append, length-map}
use Rattle.tt_code.specs.States.{Exactly}
use Rattle.tt_code.specs.Computing.{shuffled, element}
use Rattle.tt_code.specs.declared.kinds.StackOp.TheVariants as op
use Rattle.tt_symbolic_state.specs.declared.cell.Cell.{Cell}
use Rattle.tt_symbolic_state.specs.declared.cell.Range.{Range}
use Rattle.tt_symbolic_state.specs.Values.{Fits, Valuation, value}
use Rattle.tt_symbolic_state.specs.Shows.{values}
use Rattle.tt_symbolic_cells.specs.Stacking.{Restacks}

module _ (ranges : List Range) where
  dup : (c : Cell) (cs : List Cell) → Restacks (shuffled op.Dup) ranges (c ∷ cs) (c ∷ c ∷ cs)
  dup c cs = record { restacks = λ v m fits e. (values v cs, Exactly (value v c) ∷ Exactly (value v c) ∷ [], rw e refl, λ ch. refl, omega (arith, length-map cs (value v))) }

  pub dup_stands : (old new rest : List Cell) (c : Cell) → old ≡ c ∷ rest → new ≡ c ∷ old → Restacks (shuffled op.Dup) ranges old new
  dup_stands old new rest c e f = rw (f, e) (dup c rest)

  pub pop_stands : (old new rest : List Cell) (c : Cell) → old ≡ c ∷ rest → new ≡ drop 1 old → Restacks (shuffled op.Pop) ranges old new
  pop_stands old new rest c e f = rw (f, e) (record { restacks = λ v m fits h. (values v rest, [], rw h refl, λ ch. refl, omega (arith, length-map rest (value v))) })

  pub clear_stands : (old new : List Cell) → new ≡ [] → Restacks (shuffled op.Clear) ranges old new
  clear_stands old new f = rw f (record { restacks = λ v m fits h. ([], [], refl, λ ch. refl, refl) })

  swap : (a b : Cell) (cs : List Cell) → Restacks (shuffled op.Swap) ranges (a ∷ b ∷ cs) (b ∷ a ∷ cs)
  swap a b cs = record { restacks = λ v m fits e. (values v cs, Exactly (value v a) ∷ Exactly (value v b) ∷ [], rw e refl, λ ch. refl, omega (arith, length-map cs (value v))) }

  pub swap_stands : (old new rest : List Cell) (a b : Cell) → old ≡ a ∷ drop 1 old → drop 1 old ≡ b ∷ rest → new ≡ b ∷ a ∷ rest → Restacks (shuffled op.Swap) ranges old new
  swap_stands old new rest a b e f g =
      let is : old ≡ a ∷ b ∷ rest = e ∙ ap (λ l. a ∷ l) f in rw (g, is) (swap a b rest)

  pub roll_stands : (old new rest : List Cell) (a b c : Cell) → old ≡ a ∷ drop 1 old → drop 1 old ≡ b ∷ drop 2 old → drop 2 old ≡ c ∷ rest → new ≡ c ∷ a ∷ b ∷ rest → Restacks (shuffled op.Roll) ranges old new
  roll_stands old new rest a b c e f g h =
      let is : old ≡ a ∷ b ∷ c ∷ rest = e ∙ ap (λ l. a ∷ l) f ∙ ap (λ l. a ∷ b ∷ l) g in
      rw (h, is) (record { restacks = λ v m fits k. (values v rest, Exactly (value v b) ∷ Exactly (value v a) ∷ Exactly (value v c) ∷ [], rw k refl, λ ch. refl, omega (arith, length-map rest (value v))) })

  pub depth_stands : (old new : List Cell) (c : Cell) → new ≡ c ∷ old → ((v : Valuation) → value v c ≡ pos (length old)) → Restacks (shuffled op.Depth) ranges old new
  depth_stands old new c f h = rw f (record {
    restacks = λ v m fits e. (
      m.stack,
      Exactly (pos (length m.stack)) ∷ [],
      refl,
      (λ ch. rw (e, length-map old (value v), ← h v) refl),
      rw e (omega (arith, length-map old (value v))),
    );
  })

element_at : {N : Type 0} (n : ℕ) (xs : List N) (x : N) (rest : List N) → drop n xs ≡ x ∷ rest → element (pos (suc n)) xs ≡ Ok x
element_at zero [] x rest e = absurd (cc)
element_at (suc n) [] x rest e = absurd (cc)
element_at zero (y ∷ ys) x rest e = let same : y ≡ x = cc in ap Ok same
element_at (suc n) (y ∷ ys) x rest e = element_at n ys x rest e

values_remove : (v : Valuation) (cs : List Cell) (n : ℕ) → remove (values v cs) n ≡ values v (remove cs n)
values_remove v cs n = ap (λ l. l ++ drop (suc n) (values v cs)) (take-map (value v) n cs) ∙ ap (λ l. values v (take n cs) ++ l) (drop-map (value v) (suc n) cs) ∙ sym (map-append (value v) (take n cs) (drop (suc n) cs))

module _ (ranges : List Range) (old below : List Cell) (k c : Cell) (n : ℕ) (is : old ≡ k ∷ below) (index : (v : Valuation) → Fits ranges v → value v k ≡ pos (suc n)) (at : drop n below ≡ c ∷ drop (n + 1) below) where
  found : (v : Valuation) → element (pos (suc n)) (values v below) ≡ Ok (value v c)
  found v = element_at n (values v below) (value v c) (values v (drop (n + 1) below)) (drop-map (value v) n below ∙ ap (map (value v)) at)

  pub copy_stands : (new : List Cell) → new ≡ c ∷ below → Restacks (shuffled op.CopyIndexed) ranges old new
  copy_stands new f = rw f (record {
    restacks = λ v m fits e. (
      values v below,
      Exactly (value v c) ∷ [],
      rw (e ∙ ap (values v) is, index v fits, found v) refl,
      λ ch. refl,
      omega (arith, length-map below (value v)),
    );
  })

  pub move_stands : (new : List Cell) → new ≡ c ∷ remove below n → Restacks (shuffled op.MoveIndexed) ranges old new
  move_stands new f = rw f (record {
    restacks = λ v m fits e. (
      values v (remove below n),
      Exactly (value v c) ∷ [],
      rw (e ∙ ap (values v) is, index v fits, found v, ← values_remove v below n) refl,
      λ ch. refl,
      omega (arith, length-map (remove below n) (value v)),
    );
  })
