-- Laws of cuts and of structure.
use Rattle.std.proofs.Common.{◌≡◌, ◌⊎◌, inl, inr, ℕ, ◌+◌, List, [], ◌∷◌, ◌++◌, length, sym, ◌∙◌, ap, arith, append_assoc, subst, refl}
use Rattle.std.specs.List.{AllByRecursion}
use Rattle.tt_code.specs.declared.block_keyword.BlockKeyword.{BlockKeyword}
use Rattle.tt_code.specs.Cut.{Instruction, IsInstruction, size, CannotBeCut}
use Rattle.tt_code.specs.Grammar.{CanGoOn, IsStructured, IsFault, GoesTo, IsInstructionAt}
use Rattle.tt_code.proofs.CutLemmas.{size-append, size_more}
use Rattle.tt_code.proofs.ProgramLemmas.{all_after}
use Rattle.tt_code.proofs.LookupLemmas.{compare}
use Rattle.tt_code.proofs.StructureLaws.{each_before, each_joined}

-- Where more instructions can go on, fewer can.
shorter_goes_on : (x r : List Instruction) (i : Instruction) → AllByRecursion IsInstruction r → CanGoOn (x ++ (i ∷ r)) → CanGoOn (x ++ (i ∷ []))
shorter_goes_on x r i a (rest, ok, l) =
    (r ++ rest, each_joined IsInstruction r rest a ok, subst IsStructured (append_assoc x (i ∷ r) rest ∙ sym (append_assoc x (i ∷ []) (r ++ rest))) l)

-- A program has one fault.
pub one_fault : (is : List Instruction) (k m : ℕ) → AllByRecursion IsInstruction is → IsFault is k → IsFault is m → k ≡ m
one_fault is k m each (inl f) (inl g) =
    let okf : AllByRecursion IsInstruction (f.before ++ (f.i ∷ f.after)) = subst (λ x. AllByRecursion IsInstruction x) f.whole each in
    let okg : AllByRecursion IsInstruction (g.before ++ (g.i ∷ g.after)) = subst (λ x. AllByRecursion IsInstruction x) g.whole each in
    elim (compare f.before f.after g.before g.after f.i g.i (sym f.whole ∙ g.whole)) [
      | inl r ↦ sym f.offset ∙ ap size r.0 ∙ g.offset
      | inr r ↦ elim r [
        | inl u ↦
            let front : AllByRecursion IsInstruction (f.before ++ (f.i ∷ u.0)) = subst (λ x. AllByRecursion IsInstruction x) u.1 (each_before IsInstruction g.before (g.i ∷ g.after) okg) in
            absurd (f.cannot (shorter_goes_on f.before u.0 f.i (all_after f.before u.0 f.i front) (subst CanGoOn u.1 g.can_go_on)))
        | inr u ↦
            let front : AllByRecursion IsInstruction (g.before ++ (g.i ∷ u.0)) = subst (λ x. AllByRecursion IsInstruction x) u.1 (each_before IsInstruction f.before (f.i ∷ f.after) okf) in
            absurd (g.cannot (shorter_goes_on g.before u.0 g.i (all_after g.before u.0 g.i front) (subst CanGoOn u.1 f.can_go_on)))
      ]
    ]
one_fault is k m each (inl f) (inr g) =
    let ok : AllByRecursion IsInstruction (f.before ++ (f.i ∷ f.after)) = subst (λ x. AllByRecursion IsInstruction x) f.whole each in
    absurd (f.cannot (shorter_goes_on f.before f.after f.i (all_after f.before f.after f.i ok) (subst CanGoOn f.whole g.can_go_on)))
one_fault is k m each (inr f) (inl g) =
    let ok : AllByRecursion IsInstruction (g.before ++ (g.i ∷ g.after)) = subst (λ x. AllByRecursion IsInstruction x) g.whole each in
    absurd (g.cannot (shorter_goes_on g.before g.after g.i (all_after g.before g.after g.i ok) (subst CanGoOn g.whole f.can_go_on)))
one_fault is k m each (inr f) (inr g) = sym f.offset ∙ g.offset

-- Bytes that can't be cut have only one such offset.
pub one_uncut : (bytes : List ℕ) (k m : ℕ) → CannotBeCut bytes k → CannotBeCut bytes m → k ≡ m
one_uncut bytes k m f g =
    let a = g.longest f.reached.0 f.reached.1 f.reached.2 in
    let b = f.longest g.reached.0 g.reached.1 g.reached.2 in
    omega (arith, f.reached.3, g.reached.3)

-- After an instruction there is another, or the program's end.
pub next_is_there : (is : List Instruction) (k : ℕ) (i : Instruction) → IsInstructionAt is k i → ((j : Instruction) × IsInstructionAt is (k + length i) j) ⊎ (k + length i ≡ size is)
next_is_there is k i s = go s.after s.whole
  where
    go : (after : List Instruction) → is ≡ s.before ++ (i ∷ after) → ((j : Instruction) × IsInstructionAt is (k + length i) j) ⊎ (k + length i ≡ size is)
    go [] e = inr (omega (arith, ap size e, size_more s.before i, s.offset))
    go (j ∷ after) e = inl (
      j,
      record {
        before = s.before ++ (i ∷ []);
        after = after;
        whole = e ∙ sym (append_assoc s.before (i ∷ []) (j ∷ after));
        offset = size_more s.before i ∙ ap (λ n. n + length i) s.offset;
      },
    )

-- Where control goes there is an instruction, or the program ends.
pub target_is_there : (is : List Instruction) (w : BlockKeyword) (k t : ℕ) → GoesTo w is k t → ((j : Instruction) × IsInstructionAt is t j) ⊎ (t ≡ size is)
target_is_there is w k t g =
    let before = g.before ++ (g.i ∷ g.inner) in
    let s : IsInstructionAt is (size before) g.e = record { before = before; after = g.after; whole = g.whole ∙ sym (append_assoc g.before (g.i ∷ g.inner) (g.e ∷ g.after)); offset = refl } in
    let n : size before + length g.e ≡ t = omega (arith, size-append g.before (g.i ∷ g.inner), g.target) in
    elim (next_is_there is (size before) g.e s) [
      | inl r ↦ inl (r.0, subst (λ x. IsInstructionAt is x r.0) n r.1)
      | inr r ↦ inr (sym n ∙ r)
    ]
