-- What the slots of a whole program say.
use Rattle.std.proofs.Common.{◌≡◌, ◌⊎◌, inl, inr, ℕ, List, [], ◌∷◌, ◌++◌, length, refl, sym, ◌∙◌, ap, arith, subst, Option, Some, None, false, zero-add}
use Rattle.std.specs.List.{AllByRecursion}
use Rattle.tt_code.specs.declared.block_keyword.BlockKeyword.{BlockKeyword}
use Rattle.tt_code.specs.declared.block_keyword.BlockKeyword.TheVariants.{If, Else, Eif, Fdef, Idef, Endf, Other}
use Rattle.tt_code.specs.declared.machine.Body.{Body}
use Rattle.tt_code.specs.Cut.{Instruction, IsInstruction, size}
use Rattle.tt_code.specs.Structure.{keyword}
use Rattle.tt_code.specs.Grammar.{IsList, Ends, GoesTo, IsInstructionAt}
use Rattle.tt_code.specs.Representation.Pass.{step, steps}
use Rattle.tt_code.specs.Representation.Slots.{target_found, Opens, IsTable}
use Rattle.tt_code.proofs.CutLemmas.{some_bytes}
use Rattle.tt_code.proofs.NestingLemmas.{steps-append, whole_steps}
use Rattle.tt_code.proofs.SlotLemmas.{weaken}
use Rattle.tt_code.proofs.StructureLaws.{each_bytes, stands_found}

-- Two places of one size are the same.
pub same_place : (a b c d : List Instruction) (i j : Instruction) → AllByRecursion IsInstruction (a ++ (i ∷ b)) → a ++ (i ∷ b) ≡ c ++ (j ∷ d) → size a ≡ size c →
    (a ≡ c) × (i ≡ j) × (b ≡ d)
same_place [] b [] d i j h e s = (refl, cc, cc)
same_place [] b (x ∷ c) d i j h e s =
    let q : i ≡ x = cc in
    let n = some_bytes i h.0 in
    let l : length i ≡ length x = ap length q in absurd (omega arith)
same_place (x ∷ a) b [] d i j h e s = let n = some_bytes x h.0 in absurd (omega arith)
same_place (x ∷ a) b (y ∷ c) d i j h e s =
    let q : x ≡ y = cc in
    let t : a ++ (i ∷ b) ≡ c ++ (j ∷ d) = cc in
    let l : length x ≡ length y = ap length q in
    let r = same_place a b c d i j h.1 t (omega arith) in
    let u = r.0 in
    (cc, r.1, r.2)

-- Two beginnings of one list are equal, or one of them goes on in the other.
pub compare : (x z y v : List Instruction) (e d : Instruction) → x ++ (e ∷ z) ≡ y ++ (d ∷ v) →
    ((x ≡ y) × (e ≡ d)) ⊎ (((r : List Instruction) × (y ≡ x ++ (e ∷ r))) ⊎ ((r : List Instruction) × (x ≡ y ++ (d ∷ r))))
compare [] z [] v e d h = inl (refl, cc)
compare [] z (b ∷ y) v e d h = let q : e ≡ b = cc in inr (inl (y, ap (λ x. x ∷ y) (sym q)))
compare (a ∷ x) z [] v e d h = let q : a ≡ d = cc in inr (inr (x, ap (λ y. y ∷ x) q))
compare (a ∷ x) z (b ∷ y) v e d h =
    let q : a ≡ b = cc in
    let t : x ++ (e ∷ z) ≡ y ++ (d ∷ v) = cc in
    elim (compare x z y v e d t) [
      | inl r ↦ let u = r.0 in inl (cc, r.1)
      | inr r ↦ elim r [
        | inl u ↦ let w = u.1 in inr (inl (u.0, cc))
        | inr u ↦ let w = u.1 in inr (inr (u.0, cc))
      ]
    ]

-- a keyword that ends a list is nowhere a list by itself
ends_stuck : (w u : BlockKeyword) (k : ℕ) → Ends w u → step u k [] ≡ None
ends_stuck If u k (inl h) = rw h refl
ends_stuck If u k (inr h) = rw h refl
ends_stuck Else u k h = rw h refl
ends_stuck Fdef u k h = rw h refl
ends_stuck Idef u k h = rw h refl
ends_stuck Eif u k h = absurd h
ends_stuck Endf u k h = absurd h
ends_stuck Other u k h = absurd h

pub ends_opens : (w u : BlockKeyword) → Ends w u → Opens w
ends_opens If u h = tt
ends_opens Else u h = tt
ends_opens Fdef u h = tt
ends_opens Idef u h = tt
ends_opens Eif u h = absurd h
ends_opens Endf u h = absurd h
ends_opens Other u h = absurd h

-- No list goes on after a list with what ends one.
no_list_longer : (w : BlockKeyword) (x y r : List Instruction) (e : Instruction) → IsList false x → IsList false y → Ends w (keyword e) → y ≡ x ++ (e ∷ r) → ⊥
no_list_longer w x y r e lx ly h q =
    let whole : steps (x ++ (e ∷ r)) 0 [] ≡ Some [] = ap (λ y. steps y 0 []) (sym q) ∙ whole_steps ly in
    let none : steps (x ++ (e ∷ r)) 0 [] ≡ None = steps-append x (e ∷ r) 0 [] ∙ rw (whole_steps lx, zero-add, ends_stuck w (keyword e) (size x) h) refl in
    cc

-- An instruction leads to one place.
pub goes_same : (is : List Instruction) (w v : BlockKeyword) (k s t : ℕ) → AllByRecursion IsInstruction is → GoesTo w is k s → GoesTo v is k t → s ≡ t
goes_same is w v k s t each g h =
    let ok : AllByRecursion IsInstruction (g.before ++ (g.i ∷ (g.inner ++ (g.e ∷ g.after)))) = subst (λ x. AllByRecursion IsInstruction x) g.whole each in
    let p = same_place g.before (g.inner ++ (g.e ∷ g.after)) h.before (h.inner ++ (h.e ∷ h.after)) g.i h.i ok (sym g.whole ∙ h.whole) (g.from ∙ sym h.from) in
    elim (compare g.inner g.after h.inner h.after g.e h.e p.2) [
      | inl r ↦
          let a : size g.inner ≡ size h.inner = ap size r.0 in
          let b : length g.e ≡ length h.e = ap length r.1 in
          let c : length g.i ≡ length h.i = ap length p.1 in
          let d : size g.before ≡ size h.before = ap size p.0 in
          omega (arith, g.target, h.target)
      | inr r ↦ elim r [
        | inl u ↦ absurd (no_list_longer w g.inner h.inner u.0 g.e (weaken g.nested) (weaken h.nested) g.ends u.1)
        | inr u ↦ absurd (no_list_longer v h.inner g.inner u.0 h.e (weaken h.nested) (weaken g.nested) h.ends u.1)
      ]
    ]

-- two instructions at one offset are the same
pub one_stands : (is : List Instruction) (k : ℕ) (i j : Instruction) → AllByRecursion IsInstruction is → IsInstructionAt is k i → IsInstructionAt is k j → i ≡ j
one_stands is k i j each s t =
    let same : Some i ≡ Some j = sym (stands_found is k i (each_bytes is each) s) ∙ stands_found is k j (each_bytes is each) t in cc

-- an instruction that leads on is at its offset
pub goes_stands : (w : BlockKeyword) (is : List Instruction) (k t : ℕ) (g : GoesTo w is k t) → IsInstructionAt is k g.i
goes_stands w is k t g = record { before = g.before; after = g.inner ++ (g.e ∷ g.after); whole = g.whole; offset = g.from }

-- the target that is kept of an instruction is where it goes
pub goes_found : (is : List Instruction) (in_body : List (Option Body)) (goes : List (Option ℕ)) (k t : ℕ) (i : Instruction) → AllByRecursion IsInstruction is →
    IsTable is [] in_body goes → IsInstructionAt is k i → target_found goes k ≡ Some t → GoesTo (keyword i) is k t
goes_found is in_body goes k t i each table stands at =
    let g = table.target_right k t at in
    let same : g.1.i ≡ i = one_stands is k g.1.i i each (goes_stands g.0 is k t g.1) stands in
    subst (λ w. GoesTo w is k t) (sym g.1.opens ∙ ap keyword same) g.1

-- an opening instruction has its target
pub goes_there : (is : List Instruction) (in_body : List (Option Body)) (goes : List (Option ℕ)) (k : ℕ) (i : Instruction) → IsTable is [] in_body goes → IsInstructionAt is k i →
    Opens (keyword i) → (t : ℕ) × (target_found goes k ≡ Some t)
goes_there is in_body goes k i table stands o =
    elim (table.target_there stands.before i stands.after stands.whole o) [
      | inl u ↦ (u.0, subst (λ x. target_found goes x ≡ Some u.0) stands.offset u.1)
      | inr u ↦ absurd u
    ]

pub goes_only : (is : List Instruction) (in_body : List (Option Body)) (goes : List (Option ℕ)) (k t : ℕ) (w : BlockKeyword) → AllByRecursion IsInstruction is →
    IsTable is [] in_body goes → GoesTo w is k t → target_found goes k ≡ Some t
goes_only is in_body goes k t w each table g =
    let r = goes_there is in_body goes k g.i table (goes_stands w is k t g) (subst Opens (sym g.opens) (ends_opens w (keyword g.e) g.ends)) in
    let h = table.target_right k r.0 r.1 in
    r.1 ∙ ap Some (goes_same is h.0 w k r.0 t each h.1 g)
