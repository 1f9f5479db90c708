-- The text of a stack that is kept for the next one: cut, and with one more cell.
use Rattle.std.proofs.Common.{◌≡◌, ℕ, zero, suc, ◌+◌, ◌-◌, ◌≤◌, List, [], ◌∷◌, ◌++◌, length, take, drop, set, inl, inr, refl, sym, ap, subst, ◌∙◌, arith, append-nil, append_assoc, take-append-drop, take_all}
use Rattle.std.specs.Prelude.{Some, slice_get}
use Rattle.std.specs.List.{flat_map}
use Rattle.std.proofs.lemmas.Bool.{cases_lt}
use Rattle.std.proofs.lemmas.Grind.{flat_map-append, take-set_at}
use Rattle.std.proofs.lemmas.List.{length-append, length-set, length-take, take-append-le, take_at, get_or-take}
use Rattle.std.proofs.Math.ListN.{get_or-append}
use Rattle.std.proofs.Math.Seq.{get_or-append_seam, take-add}
use Rattle.tt_abs.specs.declared.cells.Cell.{Cell}
use Rattle.tt_cert.specs.Representation.KeptTexts.{AreCellsKept, AreWithin, KeepsCut, KeepsMore, end_of}
use Rattle.tt_cert.specs.Text.{cell_text}
use Rattle.tt_cert.proofs.Blocks.{suffix_fits}

-- the text of the lowest cells, and that of the others
parts : (cells : List Cell) (k : ℕ) → flat_map cell_text cells ≡ flat_map cell_text (take k cells) ++ flat_map cell_text (drop k cells)
parts cells k = ap (flat_map cell_text) (sym (take-append-drop k cells)) ∙ flat_map-append cell_text (take k cells) (drop k cells)

pub front_text : (text ends : List ℕ) (cells : List Cell) (k : ℕ) → AreCellsKept text ends cells → k ≤ length cells → take (end_of ends k) text ≡ flat_map cell_text (take k cells)
front_text text ends cells k kept le =
    let front = flat_map cell_text (take k cells) in
    let long : length front ≡ end_of ends k = sym (kept.end_is k le) in
    ap (take (end_of ends k)) (kept.text_is ∙ parts cells k) ∙ take_at front (flat_map cell_text (drop k cells)) (end_of ends k) long

pub kept_within : (text ends : List ℕ) (cells : List Cell) → AreCellsKept text ends cells → AreWithin text ends
kept_within text ends cells kept = record {
  within = λ k le.
      let end = kept.end_is k (omega (arith, le, kept.long)) in
      let all : length text ≡ length (flat_map cell_text (take k cells)) + length (flat_map cell_text (drop k cells)) =
      ap length (kept.text_is ∙ parts cells k) ∙ length-append (flat_map cell_text (take k cells)) (flat_map cell_text (drop k cells)) in
      omega (arith, end, all);
}

take_less : {A : Type 0} (j k : ℕ) (xs : List A) → j ≤ k → take j (take k xs) ≡ take j xs
take_less zero k xs le = refl
take_less (suc j) zero xs le = absurd (omega arith)
take_less (suc j) (suc k) [] le = refl
take_less {A} (suc j) (suc k) (x ∷ xs) le = ap (λ (l : List A). x ∷ l) (take_less j k xs (omega arith))

end_less : (j k : ℕ) (ends : List ℕ) → j ≤ k → end_of (take k ends) j ≡ end_of ends j
end_less zero k ends le = refl
end_less (suc j) k ends le = get_or-take k ends j 0 (omega arith)

end_before : (j : ℕ) (ends more : List ℕ) → j ≤ length ends → end_of (ends ++ more) j ≡ end_of ends j
end_before zero ends more le = refl
end_before (suc j) ends more le = get_or-append ends more 0 j (omega arith)

-- the lowest cells are kept
pub front_kept : (text ends front front_ends : List ℕ) (cells : List Cell) (k : ℕ) → AreCellsKept text ends cells → k ≤ length cells
    → front ≡ take (end_of ends k) text → front_ends ≡ take k ends → AreCellsKept front front_ends (take k cells)
front_kept text ends front front_ends cells k kept le front_is ends_is = record {
  text_is = front_is ∙ front_text text ends cells k kept le;
  long = ap length ends_is ∙ omega (arith, length-take k ends, length-take k cells, kept.long);
  end_is = λ j few.
      let less : j ≤ k = omega (arith, few, length-take k cells) in
      ap (λ (l : List ℕ). end_of l j) ends_is ∙ end_less j k ends less ∙ kept.end_is j (omega (arith, less, le))
      ∙ ap (λ (l : List Cell). length (flat_map cell_text l)) (sym (take_less j k cells less));
}

-- all cells are kept
pub whole_kept : (text ends : List ℕ) (cells : List Cell) (k : ℕ) → AreCellsKept text ends cells → length ends ≤ k → AreCellsKept text ends (take k cells)
whole_kept text ends cells k kept le = subst (AreCellsKept text ends) (sym (take_all k cells (omega (arith, le, kept.long)))) kept

-- one more cell is kept
pub kept_more : (text ends now now_ends : List ℕ) (end : ℕ) (cells : List Cell) (x : Cell) → AreCellsKept text ends cells → now ≡ text ++ cell_text x
    → now_ends ≡ ends ++ end ∷ [] → end ≡ length now → AreCellsKept now now_ends (cells ++ x ∷ [])
kept_more text ends now now_ends end cells x kept now_is ends_is end_is = record {
  text_is = whole;
  long = ap length ends_is ∙ omega (arith, length-append ends (end ∷ []), length-append cells (x ∷ []), kept.long);
  end_is = λ j few. elim (cases_lt (length cells) j) [
    | inl more ↦ last j (omega (arith, more, few, length-append cells (x ∷ [])))
    | inr less ↦ ap (λ (l : List ℕ). end_of l j) ends_is ∙ end_before j ends (end ∷ []) (omega (arith, less, kept.long)) ∙ kept.end_is j less
        ∙ ap (λ (l : List Cell). length (flat_map cell_text l)) (sym (take-append-le j cells (x ∷ []) less))
  ];
}
  where
    whole : now ≡ flat_map cell_text (cells ++ x ∷ [])
    whole =
        now_is ∙ ap (λ (l : List ℕ). l ++ cell_text x) kept.text_is ∙ ap (λ (l : List ℕ). flat_map cell_text cells ++ l) (sym (append-nil (cell_text x)))
        ∙ sym (flat_map-append cell_text cells (x ∷ []))

    last : (j : ℕ) → j ≡ suc (length cells) → end_of now_ends j ≡ length (flat_map cell_text (take j (cells ++ x ∷ [])))
    last j j_is =
        let here_is : end_of now_ends (suc (length ends)) ≡ length now =
        ap (λ (l : List ℕ). end_of l (suc (length ends))) ends_is ∙ get_or-append_seam ends end [] 0 ∙ end_is in
        let place : j ≡ suc (length ends) = omega (arith, j_is, kept.long) in
        let all : take j (cells ++ x ∷ []) ≡ cells ++ x ∷ [] = take_all j (cells ++ x ∷ []) (omega (arith, j_is, length-append cells (x ∷ []))) in
        ap (end_of now_ends) place ∙ here_is ∙ ap length whole ∙ ap (λ (l : List Cell). length (flat_map cell_text l)) (sym all)

-- no cells are kept so far
pub keeps_none : (width : ℕ) (bytes ends : List ℕ) (cells : List Cell) → bytes ≡ [] → KeepsMore width bytes ends ends cells cells
keeps_none width bytes ends cells none = λ text below len kept.
    subst (λ (t : List ℕ). AreCellsKept t ends (below ++ cells)) (sym (append-nil text) ∙ ap (λ (b : List ℕ). text ++ b) (sym none)) kept

-- the text of one more cell begins what is left of the bytes
pub keeps_next : (width end : ℕ) (bytes left rest ends now_ends next_ends : List ℕ) (cells now next : List Cell) (x : Cell)
    → KeepsMore width (take (length bytes - length left) bytes) ends now_ends cells now → left ≡ drop (length bytes - length left) bytes → left ≡ cell_text x ++ rest
    → next_ends ≡ now_ends ++ end ∷ [] → end ≡ width + (length bytes - length rest) → next ≡ now ++ x ∷ []
    → KeepsMore width (take (length bytes - length rest) bytes) ends next_ends cells next
keeps_next width end bytes left rest ends now_ends next_ends cells now next x keeps suffix left_is ends_is end_is next_is = λ text below len kept.
    let n = length bytes - length left in
    let m = length bytes - length rest in
    let w = length (cell_text x) in
    let part : length left ≡ w + length rest = ap length left_is ∙ length-append (cell_text x) rest in
    let fits : length left ≤ length bytes = suffix_fits bytes left suffix in
    let m_is : m ≡ n + w = omega (arith, part, fits) in
    let taken : take m bytes ≡ take n bytes ++ cell_text x =
    ap (λ (k : ℕ). take k bytes) m_is ∙ take-add n w bytes ∙ ap (λ (l : List ℕ). take n bytes ++ take w l) (sym suffix ∙ left_is)
    ∙ ap (λ (l : List ℕ). take n bytes ++ l) (take_at (cell_text x) rest w refl) in
    let now_is : text ++ take m bytes ≡ (text ++ take n bytes) ++ cell_text x = ap (λ (l : List ℕ). text ++ l) taken ∙ sym (append_assoc text (take n bytes) (cell_text x)) in
    let long : end ≡ length (text ++ take m bytes) = omega (arith, end_is, len, length-append text (take m bytes), length-take m bytes) in
    let more : AreCellsKept (text ++ take m bytes) next_ends ((below ++ now) ++ x ∷ []) =
    kept_more (text ++ take n bytes) now_ends (text ++ take m bytes) next_ends end (below ++ now) x (keeps text below len kept) now_is ends_is long in
    subst (AreCellsKept (text ++ take m bytes) next_ends) (append_assoc below now (x ∷ []) ∙ ap (λ (l : List Cell). below ++ l) (sym next_is)) more

-- what is after the lowest cells
pub got_after : (cells : List Cell) (from i : ℕ) (x : Cell) → slice_get cells (from + i) ≡ Some x → slice_get (drop from cells) i ≡ Some x
got_after cells zero i x at = let n : i ≡ 0 + i = omega arith in ap (slice_get cells) n ∙ at
got_after [] (suc from) i x at = cc
got_after (c ∷ cells) (suc from) i x at = let n : suc (from + i) ≡ suc from + i = omega arith in got_after cells from i x (ap (slice_get (c ∷ cells)) n ∙ at)

-- one more cell is spelled
pub keeps_spelled : (start end : ℕ) (bytes ends : List ℕ) (cells : List Cell) (x : Cell) → KeepsCut start bytes ends cells → end ≡ start + length bytes + length (cell_text x)
    → KeepsCut start (bytes ++ cell_text x) (ends ++ end ∷ []) (cells ++ x ∷ [])
keeps_spelled start end bytes ends cells x keeps end_is = λ before text below len kept.
    let long : end ≡ length ((text ++ bytes) ++ cell_text x) = omega (arith, end_is, len, length-append (text ++ bytes) (cell_text x), length-append text bytes) in
    let more : AreCellsKept ((text ++ bytes) ++ cell_text x) ((before ++ ends) ++ end ∷ []) ((below ++ cells) ++ x ∷ []) =
    kept_more (text ++ bytes) (before ++ ends) ((text ++ bytes) ++ cell_text x) ((before ++ ends) ++ end ∷ []) end (below ++ cells) x (keeps before text below len kept) refl refl long in
    subst (λ (t : List ℕ). AreCellsKept t (before ++ (ends ++ end ∷ [])) (below ++ (cells ++ x ∷ []))) (append_assoc text bytes (cell_text x))
    (subst (λ (e : List ℕ). AreCellsKept ((text ++ bytes) ++ cell_text x) e (below ++ (cells ++ x ∷ []))) (append_assoc before ends (end ∷ []))
    (subst (AreCellsKept ((text ++ bytes) ++ cell_text x) ((before ++ ends) ++ end ∷ [])) (append_assoc below cells (x ∷ [])) more))

-- the same of lists that were made so
pub keeps_to : (start end : ℕ) (bytes bytes' ends ends' : List ℕ) (cells cells' : List Cell) (x : Cell) → KeepsCut start bytes ends cells → end ≡ start + length bytes'
    → bytes' ≡ bytes ++ cell_text x → ends' ≡ ends ++ end ∷ [] → cells' ≡ cells ++ x ∷ [] → KeepsCut start bytes' ends' cells'
keeps_to start end bytes bytes' ends ends' cells cells' x keeps end_is bytes_is ends_is cells_is =
    let long : end ≡ start + length bytes + length (cell_text x) = omega (arith, end_is, ap length bytes_is, length-append bytes (cell_text x)) in
    subst (λ (b : List ℕ). KeepsCut start b ends' cells') (sym bytes_is) (subst (λ (e : List ℕ). KeepsCut start (bytes ++ cell_text x) e cells') (sym ends_is)
    (subst (KeepsCut start (bytes ++ cell_text x) (ends ++ end ∷ [])) (sym cells_is) (keeps_spelled start end bytes ends cells x keeps long)))

-- five bytes are set, one after the other
pub take_five : (l : List ℕ) (u x0 x1 x2 x3 x4 : ℕ) → u + 5 ≤ length l
    → take (u + 5) (set (set (set (set (set l u x0) (u + 1) x1) (u + 2) x2) (u + 3) x3) (u + 4) x4) ≡ take u l ++ (x0 ∷ x1 ∷ x2 ∷ x3 ∷ x4 ∷ [])
take_five l u x0 x1 x2 x3 x4 le =
    let l0 = set l u x0 in
    let l1 = set l0 (u + 1) x1 in
    let l2 = set l1 (u + 2) x2 in
    let l3 = set l2 (u + 3) x3 in
    let n0 : length l0 ≡ length l = length-set l u x0 in
    let n1 : length l1 ≡ length l0 = length-set l0 (u + 1) x1 in
    let n2 : length l2 ≡ length l1 = length-set l1 (u + 2) x2 in
    let n3 : length l3 ≡ length l2 = length-set l2 (u + 3) x3 in
    let t0 : take (u + 1) l0 ≡ take u l ++ x0 ∷ [] = take-set_at l u (u + 1) x0 (omega arith) (omega (arith, le)) in
    let t1 : take (u + 2) l1 ≡ take u l ++ (x0 ∷ x1 ∷ []) =
    take-set_at l0 (u + 1) (u + 2) x1 (omega arith) (omega (arith, le, n0)) ∙ ap (λ (t : List ℕ). t ++ x1 ∷ []) t0 ∙ append_assoc (take u l) (x0 ∷ []) (x1 ∷ []) in
    let t2 : take (u + 3) l2 ≡ take u l ++ (x0 ∷ x1 ∷ x2 ∷ []) =
    take-set_at l1 (u + 2) (u + 3) x2 (omega arith) (omega (arith, le, n0, n1)) ∙ ap (λ (t : List ℕ). t ++ x2 ∷ []) t1 ∙ append_assoc (take u l) (x0 ∷ x1 ∷ []) (x2 ∷ []) in
    let t3 : take (u + 4) l3 ≡ take u l ++ (x0 ∷ x1 ∷ x2 ∷ x3 ∷ []) =
    take-set_at l2 (u + 3) (u + 4) x3 (omega arith) (omega (arith, le, n0, n1, n2)) ∙ ap (λ (t : List ℕ). t ++ x3 ∷ []) t2 ∙ append_assoc (take u l) (x0 ∷ x1 ∷ x2 ∷ []) (x3 ∷ []) in
    take-set_at l3 (u + 4) (u + 5) x4 (omega arith) (omega (arith, le, n0, n1, n2, n3)) ∙ ap (λ (t : List ℕ). t ++ x4 ∷ []) t3
    ∙ append_assoc (take u l) (x0 ∷ x1 ∷ x2 ∷ x3 ∷ []) (x4 ∷ [])
