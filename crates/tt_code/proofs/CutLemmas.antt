-- Instructions at the front of bytes, and what is laid over them.
use Rattle.std.proofs.Common.{◌≡◌, ℕ, zero, suc, ◌+◌, ◌-◌, ◌^◌, ◌<◌, ◌≤◌, List, [], ◌∷◌, ◌++◌, Option, None, Some, Bool, true, false, length, take, drop, replicate, get_or, refl, sym, ◌∙◌, ap, arith, subst, sub-one, inl, inr, ◌⊎◌}
use Rattle.std.specs.Prelude.{nat_lt}
use Rattle.std.proofs.lemmas.List.{length-append, take-append-drop, append_cancel_left, append_assoc, append-nil}
use Rattle.std.proofs.Math.Seq.{take-append_seam, drop-append-add}
use Rattle.std.proofs.Math.Nat.{sub-zero}
use Rattle.std.proofs.lemmas.Bool.{lt-ltb, le-ltb}
use Rattle.std.specs.List.{concat, AllByRecursion}
use Rattle.tt_code.specs.Table.{Meaning, NoEntry, Plain, Pushes, Stack, Computes, Controls, effect_of}
use Rattle.tt_code.specs.Cut.{data_length, IsInstruction, IsCut, BeginsWith, CannotBeCut, Instruction, instruction_at, size}
use Rattle.tt_code.specs.Representation.Laid.{laid, pieces, IsLaid}
use Rattle.tt_code.specs.declared.kinds.Push.TheVariants.{CountedBytes, CountedWords, Bytes, Words}

-- what follows the data doesn't matter
pub length_before : (m : Meaning) (xs ys : List ℕ) (n : ℕ) → data_length m xs ≡ Some n → data_length m (xs ++ ys) ≡ Some n
length_before (Pushes CountedBytes) [] ys n e = cc
length_before (Pushes CountedBytes) (x ∷ xs) ys n e = e
length_before (Pushes CountedWords) [] ys n e = cc
length_before (Pushes CountedWords) (x ∷ xs) ys n e = e
length_before (Pushes (Bytes k)) xs ys n e = e
length_before (Pushes (Words k)) xs ys n e = e
length_before NoEntry xs ys n e = e
length_before (Plain l) xs ys n e = e
length_before (Stack o) xs ys n e = e
length_before (Computes o) xs ys n e = e
length_before (Controls o) xs ys n e = e

-- the size of instructions is that of their joined bytes
pub size_is : (is : List Instruction) → size is ≡ length (concat is)
size_is [] = refl
size_is (i ∷ is) = ap (λ n. length i + n) (size_is is) ∙ sym (length-append i (concat is))

-- no instruction begins another one
pub same_front : (i j x y : List ℕ) → IsInstruction i → IsInstruction j → i ++ x ≡ j ++ y → i ≡ j
same_front [] j x y p q e = absurd p
same_front (a ∷ i) [] x y p q e = absurd q
same_front (a ∷ i) (b ∷ j) x y p q e =
    let heads : a ≡ b = cc in
    let tails : i ++ x ≡ j ++ y = cc in
    let left = length_before (effect_of a) i x (length i) p in
    let right = length_before (effect_of b) j y (length j) q in
    let lengths : length i ≡ length j = cc in
    let fronts : take (length i) (i ++ x) ≡ take (length j) (j ++ y) = cc in
    let rests : i ≡ j = sym (take-append_seam i x) ∙ fronts ∙ take-append_seam j y in
    cc

pub concat_more : (is : List Instruction) (i : List ℕ) → concat (is ++ i ∷ []) ≡ concat is ++ i
concat_more [] i = append-nil i
concat_more (x ∷ is) i = ap (λ r. x ++ r) (concat_more is i) ∙ sym (append_assoc x (concat is) i)

pub laid_more : (is : List Instruction) (i : List ℕ) → laid (is ++ i ∷ []) ≡ laid is ++ length i ∷ replicate (length i - 1) 0
laid_more [] i = append-nil _
laid_more (x ∷ is) i = ap (λ r. (length x ∷ replicate (length x - 1) 0) ++ r) (laid_more is i) ∙ sym (append_assoc (length x ∷ replicate (length x - 1) 0) (laid is) _)

pub all_more : (is : List Instruction) (i : List ℕ) → AllByRecursion IsInstruction is → IsInstruction i → AllByRecursion IsInstruction (is ++ i ∷ [])
all_more [] i p q = (q, tt)
all_more (x ∷ is) i p q = (p.0, all_more is i p.1 q)

-- no piece begins with the zeros inside an instruction
inside : (r ls bs : List ℕ) → pieces (replicate (length r) 0 ++ ls) (r ++ bs) ≡ pieces ls bs
inside [] ls bs = refl
inside (x ∷ r) ls bs = inside r ls bs

pub pieces-laid : (is : List Instruction) → AllByRecursion IsInstruction is → pieces (laid is) (concat is) ≡ is
pieces-laid [] p = refl
pieces-laid ([] ∷ is) p = absurd p.0
pieces-laid ((x ∷ r) ∷ is) p =
    let rest : pieces (replicate (length r) 0 ++ laid is) (r ++ concat is) ≡ is = inside r (laid is) (concat is) ∙ pieces-laid is p.1 in
    rw sub-one (ap (λ t. (x ∷ t) ∷ pieces (replicate (length r) 0 ++ laid is) (r ++ concat is)) (take-append_seam r (concat is)) ∙ ap (λ t. (x ∷ r) ∷ t) rest)

-- other instructions that begin the bytes are no longer than these, if no instruction begins what
-- is left
pub no_longer : (is js : List Instruction) (rest other : List ℕ) → AllByRecursion IsInstruction is → AllByRecursion IsInstruction js
    → concat is ++ rest ≡ concat js ++ other → ((i more : List ℕ) → IsInstruction i → i ++ more ≡ rest → ⊥) → length (concat js) ≤ length (concat is)
no_longer is [] rest other p q e none = omega arith
no_longer [] (j ∷ js) rest other p q e none = absurd (none j (concat js ++ other) q.0 (sym (append_assoc j (concat js) other) ∙ sym e))
no_longer (i ∷ is) (j ∷ js) rest other p q e none =
    let joined : i ++ (concat is ++ rest) ≡ j ++ (concat js ++ other) = sym (append_assoc i (concat is) rest) ∙ e ∙ append_assoc j (concat js) other in
    let same : i ≡ j = same_front i j _ _ p.0 q.0 joined in
    let moved : i ++ (concat is ++ rest) ≡ i ++ (concat js ++ other) = joined ∙ ap (λ t. t ++ (concat js ++ other)) (sym same) in
    let shorter = no_longer is js rest other p.1 q.1 (append_cancel_left i _ _ moved) none in
    simp length-append (rw same (omega arith))

-- as many bytes as a length says, where there is one
abbrev pub piece_at : ℕ → List ℕ → Option (List ℕ)
piece_at zero bytes = None
piece_at (suc n) bytes = Some (take (suc n) bytes)

pub piece_at_some : (n : ℕ) (bytes : List ℕ) → 0 < n → piece_at n bytes ≡ Some (take n bytes)
piece_at_some zero bytes h = absurd (omega arith)
piece_at_some (suc n) bytes h = refl

-- among the lengths, an offset inside an instruction has 0, and one past it is an offset among the
-- others
inside_or_after : (r ls : List ℕ) (o : ℕ) → ((o < length r) × (get_or (replicate (length r) 0 ++ ls) o 0 ≡ 0)) ⊎ ((length r ≤ o) × (get_or (replicate (length r) 0 ++ ls) o 0 ≡ get_or ls (o - length r) 0))
inside_or_after [] ls o = inr (omega arith, rw sub-zero refl)
inside_or_after (x ∷ r) ls zero = inl (omega arith, refl)
inside_or_after (x ∷ r) ls (suc o) = elim (inside_or_after r ls o) [
  | inl h ↦ inl (omega arith, h.1)
  | inr h ↦ inr (omega arith, h.1 ∙ ap (λ k. get_or ls k 0) (omega arith))
]

drop_after : (r bs : List ℕ) (o : ℕ) → length r ≤ o → drop o (r ++ bs) ≡ drop (o - length r) bs
drop_after r bs o h =
    let split : length r + (o - length r) ≡ o = omega arith in
    ap (λ k. drop k (r ++ bs)) (sym split) ∙ drop-append-add r bs (o - length r)

-- what is at an offset among the lengths says which instruction starts there
pub at_is : (is : List Instruction) → AllByRecursion IsInstruction is → (o : ℕ) → instruction_at is o ≡ piece_at (get_or (laid is) o 0) (drop o (concat is))
at_is [] p o = refl
at_is ([] ∷ is) p o = absurd p.0
at_is ((x ∷ r) ∷ is) p zero = ap (λ t. Some (x ∷ t)) (sym (take-append_seam r (concat is)))
at_is ((x ∷ r) ∷ is) p (suc o) =
    let rest = at_is is p.1 (o - length r) in
    let there : get_or (laid ((x ∷ r) ∷ is)) (suc o) 0 ≡ get_or (replicate (length r) 0 ++ laid is) o 0 = rw sub-one refl in
    rw there (elim (inside_or_after r (laid is) o) [
      | inl h ↦
          let test : nat_lt (suc o) (suc (length r)) ≡ true = lt-ltb (suc o) (suc (length r)) (omega arith) in
          rw (test, h.1) refl
      | inr h ↦
          let test : nat_lt (suc o) (suc (length r)) ≡ false = le-ltb (suc o) (suc (length r)) (omega arith) in
          let less : suc o - suc (length r) ≡ o - length r = omega arith in
          rw (test, less, h.1, drop_after r (concat is) o h.0) rest
    ])

-- a length stays within the bytes
pub at_fits : (is : List Instruction) → AllByRecursion IsInstruction is → (o : ℕ) → 0 < get_or (laid is) o 0 → o + get_or (laid is) o 0 ≤ length (concat is)
at_fits [] p o h = absurd (omega arith)
at_fits ([] ∷ is) p o h = absurd p.0
at_fits ((x ∷ r) ∷ is) p zero h = simp length-append (omega arith)
at_fits ((x ∷ r) ∷ is) p (suc o) h =
    let rest = at_fits is p.1 (o - length r) in
    let there : get_or (laid ((x ∷ r) ∷ is)) (suc o) 0 ≡ get_or (replicate (length r) 0 ++ laid is) o 0 = rw sub-one refl in
    let sizes : length (concat ((x ∷ r) ∷ is)) ≡ suc (length r) + length (concat is) = length-append (x ∷ r) (concat is) in
    elim (inside_or_after r (laid is) o) [
      | inl k ↦ absurd (omega arith)
      | inr k ↦
          let some : 0 < get_or (laid is) (o - length r) 0 = omega arith in
          let fits = rest some in
          omega arith
    ]

-- what starts after an instruction starts in the rest
found_after : (x : Instruction) (is : List Instruction) (o : ℕ) (i : Instruction) → instruction_at (x ∷ is) (suc o) ≡ Some i
    → instruction_at is (suc o - length x) ≡ Some i
found_after x is o i e = by_test (nat_lt (suc o) (length x)) refl
  where
    by_test : (b : Bool) → nat_lt (suc o) (length x) ≡ b → instruction_at is (suc o - length x) ≡ Some i
    by_test true h =
        let none : instruction_at (x ∷ is) (suc o) ≡ None = rw h refl in
        let wrong : None ≡ Some i = sym none ∙ e in
        cc
    by_test false h =
        let rest : instruction_at (x ∷ is) (suc o) ≡ instruction_at is (suc o - length x) = rw h refl in
        sym rest ∙ e

-- what starts at an offset is an instruction
pub found_is : (is : List Instruction) → AllByRecursion IsInstruction is → (o : ℕ) (i : Instruction) → instruction_at is o ≡ Some i → IsInstruction i
found_is [] p o i e = let wrong : None ≡ Some i = e in cc
found_is (x ∷ is) p zero i e = let same : x ≡ i = cc in subst IsInstruction same p.0
found_is (x ∷ is) p (suc o) i e = found_is is p.1 (suc o - length x) i (found_after x is o i e)

-- the same for a program as it is kept
pub at_kept : (ls bs : List ℕ) (is : List Instruction) → IsLaid ls bs → pieces ls bs ≡ is → (o : ℕ) → instruction_at is o ≡ piece_at (get_or ls o 0) (drop o bs)
at_kept ls bs is kept e o =
    ap (λ t. instruction_at t o) (sym e) ∙ at_is (pieces ls bs) kept.is_cut.each o
    ∙ ap (λ t. piece_at (get_or t o 0) (drop o (concat (pieces ls bs)))) kept.each_length ∙ ap (λ t. piece_at (get_or ls o 0) (drop o t)) kept.is_cut.joined

pub kept_size : (ls bs : List ℕ) (is : List Instruction) → IsLaid ls bs → pieces ls bs ≡ is → length bs ≡ size is
kept_size ls bs is kept e = sym (ap length kept.is_cut.joined) ∙ sym (size_is (pieces ls bs)) ∙ ap size e

-- each instruction that is kept is one
pub kept_instruction : (ls bs : List ℕ) → IsLaid ls bs → (o : ℕ) → 0 < get_or ls o 0 → IsInstruction (take (get_or ls o 0) (drop o bs))
kept_instruction ls bs kept o h = found_is (pieces ls bs) kept.is_cut.each o _ (at_kept ls bs _ kept refl o ∙ piece_at_some _ _ h)

pub kept_fits : (ls bs : List ℕ) → IsLaid ls bs → (o : ℕ) → 0 < get_or ls o 0 → o + get_or ls o 0 ≤ length bs
kept_fits ls bs kept o h =
    let same : get_or (laid (pieces ls bs)) o 0 ≡ get_or ls o 0 = ap (λ t. get_or t o 0) kept.each_length in
    let some : 0 < get_or (laid (pieces ls bs)) o 0 = omega arith in
    let fits = at_fits (pieces ls bs) kept.is_cut.each o some in
    let size : length (concat (pieces ls bs)) ≡ length bs = ap length kept.is_cut.joined in
    omega arith

-- where no instruction begins what is left, there is no cut
pub cannot : (bytes rest : List ℕ) (is : List Instruction) (offset : ℕ) → BeginsWith bytes is rest
    → ((i more : List ℕ) → IsInstruction i → i ++ more ≡ rest → ⊥) → 0 < length rest → offset ≡ length bytes - length rest → CannotBeCut bytes offset
cannot bytes rest is offset b none left e =
    let sizes : length (concat is) + length rest ≡ length bytes = sym (length-append (concat is) rest) ∙ ap length b.joined in
    let here : size is ≡ offset = size_is is ∙ omega arith in
    record {
      uncut = λ js cut.
          let joined : concat is ++ rest ≡ concat js ++ [] = b.joined ∙ sym cut.joined ∙ sym (append-nil (concat js)) in
          let short : length (concat js) ≤ length (concat is) = no_longer is js rest [] b.each cut.each joined none in
          let whole : length (concat js) ≡ length bytes = ap length cut.joined in
          let bad : ⊥ = omega arith in bad;
      reached = (is, rest, b, here);
      longest = λ js other d.
          let short : length (concat js) ≤ length (concat is) = no_longer is js rest other b.each d.each (b.joined ∙ sym d.joined) none in
          omega (arith, size_is js, size_is is);
    }

-- one more instruction
pub begins_more : (bytes rest : List ℕ) (is : List Instruction) (n : ℕ) → BeginsWith bytes is rest → IsInstruction (take n rest) → BeginsWith bytes (is ++ take n rest ∷ []) (drop n rest)
begins_more bytes rest is n b p = record {
  joined = rw (concat_more, append_assoc, take-append-drop) b.joined;
  each = all_more is (take n rest) b.each p;
}

-- a cut and its lengths make a program
pub kept_cut : (bytes ls : List ℕ) (is : List Instruction) → IsCut bytes is → laid is ≡ ls → length bytes < 2 ^ 31 → IsLaid ls bytes × (pieces ls bytes ≡ is)
kept_cut bytes ls is cut e h =
    let same : pieces ls bytes ≡ is = rw (← e, ← cut.joined) (pieces-laid is cut.each) in
    (record { is_cut = rw same cut; each_length = rw same e; small = h }, same)

pub size-append : (xs ys : List Instruction) → size (xs ++ ys) ≡ size xs + size ys
size-append [] ys = omega arith
size-append (x ∷ xs) ys = omega (arith, size-append xs ys)

pub size_more : (is : List Instruction) (i : Instruction) → size (is ++ (i ∷ [])) ≡ size is + length i
size_more is i = omega (arith, size-append is (i ∷ []))

-- an instruction has bytes
pub some_bytes : (i : Instruction) → IsInstruction i → 0 < length i
some_bytes [] h = absurd h
some_bytes (c ∷ o) h = omega arith

-- instructions that begin the bytes of a cut begin the cut
pub prefix_of_cut : (p is : List Instruction) (left : List ℕ) → AllByRecursion IsInstruction p → AllByRecursion IsInstruction is → concat p ++ left ≡ concat is →
    (q : List Instruction) × (is ≡ p ++ q) × AllByRecursion IsInstruction q × (left ≡ concat q)
prefix_of_cut [] is left a b e = (is, refl, b, e)
prefix_of_cut ([] ∷ p) is left a b e = absurd a.0
prefix_of_cut ((c ∷ r) ∷ p) [] left a b e = cc
prefix_of_cut ((c ∷ r) ∷ p) (y ∷ is) left a b e =
    let f : (c ∷ r) ++ (concat p ++ left) ≡ y ++ concat is = sym (append_assoc (c ∷ r) (concat p) left) ∙ e in
    let same : c ∷ r ≡ y = same_front (c ∷ r) y (concat p ++ left) (concat is) a.0 b.0 f in
    let moved : (c ∷ r) ++ (concat p ++ left) ≡ (c ∷ r) ++ concat is = f ∙ ap (λ t. t ++ concat is) (sym same) in
    let q = prefix_of_cut p is left a.1 b.1 (append_cancel_left (c ∷ r) _ _ moved) in
    (q.0, ap (λ t. t ∷ is) (sym same) ∙ ap (λ t. (c ∷ r) ∷ t) q.1, q.2, q.3)

-- a program has one cut
pub one_cut : (bytes : List ℕ) (is js : List Instruction) → IsCut bytes is → IsCut bytes js → is ≡ js
one_cut bytes is js c d = go (prefix_of_cut is js [] c.each d.each (append-nil (concat is) ∙ c.joined ∙ sym d.joined))
  where
    go : ((q : List Instruction) × (js ≡ is ++ q) × AllByRecursion IsInstruction q × ([] ≡ concat q)) → is ≡ js
    go ([], e, a, n) = sym (append-nil is) ∙ sym e
    go ([] ∷ q, e, a, n) = absurd a.0
    go ((x ∷ r) ∷ q, e, a, n) = cc
