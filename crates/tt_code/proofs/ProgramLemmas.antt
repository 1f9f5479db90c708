-- From what was read to what the program is.
use Rattle.std.proofs.Common.{◌≡◌, ◌⊎◌, inl, inr, ℕ, ◌+◌, ◌-◌, ◌<◌, ◌^◌, List, [], ◌∷◌, ◌++◌, length, refl, sym, ◌∙◌, ap, arith, append_assoc, subst, reverse, get_or}
use Rattle.std.specs.List.{AllByRecursion, concat}
use Rattle.std.proofs.lemmas.List.{length-append, length-reverse}
use Rattle.tt_code.specs.declared.nest.Open.{Open}
use Rattle.tt_code.specs.declared.machine.Body.{Body}
use Rattle.tt_code.specs.declared.slot.Slot.{Slot}
use Rattle.tt_code.specs.declared.fault.CodeFault.{CodeFault}
use Rattle.tt_code.specs.declared.fault.CodeFault.TheVariants.{CannotCut, Structure, OutOfMemory}
use Rattle.tt_code.specs.Cut.{Instruction, IsInstruction, size, IsCut, BeginsWith}
use Rattle.tt_code.specs.Faults.{IsMemory, IsMisnested}
use Rattle.tt_code.specs.Grammar.{CanGoOn, IsStructured, IsFault}
use Rattle.tt_code.specs.Representation.Pass.{Leaves}
use Rattle.tt_code.specs.Representation.Slots.{IsRead, IsKept, IsTable, bodies, kept, lengths, targets}
use Rattle.tt_code.proofs.CutLemmas.{kept_cut, one_cut, prefix_of_cut, size_is}
use Rattle.tt_code.proofs.NestingLemmas.{goes_on, not_structured}
use Rattle.tt_code.proofs.SlotLemmas.{read_size}

pub all_after : (a b : List Instruction) (i : Instruction) → AllByRecursion IsInstruction (a ++ (i ∷ b)) → AllByRecursion IsInstruction b
all_after [] b i h = h.1
all_after (x ∷ a) b i h = all_after a b i h.1

-- the first instruction with which no list begins
pub breaks : (bytes rest : List ℕ) (k : ℕ) (p is : List Instruction) (s : List Open) (i : Instruction) → BeginsWith bytes (p ++ (i ∷ [])) rest → IsCut bytes is →
    Leaves p s → (CanGoOn (p ++ (i ∷ [])) → ⊥) → size p ≡ k → IsFault is k
breaks bytes rest k p is s i c d h cannot here =
    let r = prefix_of_cut (p ++ (i ∷ [])) is rest c.each d.each (c.joined ∙ sym d.joined) in
    inl (record {
      before = p;
      i = i;
      after = r.0;
      whole = r.1 ∙ append_assoc p (i ∷ []) r.0;
      can_go_on = goes_on s p h.opened;
      cannot = cannot;
      offset = here;
    })

-- where a cut goes on, an instruction begins what is left
pub cannot_stop : (bytes rest : List ℕ) (p is : List Instruction) → BeginsWith bytes p rest → IsCut bytes is → 0 < length rest →
    ((i more : List ℕ) → IsInstruction i → i ++ more ≡ rest → ⊥) → ⊥
cannot_stop bytes rest p is b cut some stuck =
    let r = prefix_of_cut p is rest b.each cut.each (b.joined ∙ sym cut.joined) in
    elim r.0 as (λ q. AllByRecursion IsInstruction q → rest ≡ concat q → ⊥) [
      | [] ↦ λ _ h. let l = ap length h in omega arith
      | i ∷ q ↦ λ k h. stuck i (concat q) k.0 (sym h)
    ] r.2 r.3

-- a structured program has no fault
pub no_fault : (bytes : List ℕ) (is js : List Instruction) (k : ℕ) → IsCut bytes is → IsCut bytes js → IsStructured js → IsFault is k → ⊥
no_fault bytes is js k c d l (inl f) =
    let ok : IsStructured is = subst IsStructured (one_cut bytes js is d c) l in
    let each : AllByRecursion IsInstruction (f.before ++ (f.i ∷ f.after)) = subst (λ x. AllByRecursion IsInstruction x) f.whole c.each in
    f.cannot (f.after, all_after f.before f.after f.i each, subst IsStructured (f.whole ∙ sym (append_assoc f.before (f.i ∷ []) f.after)) ok)
no_fault bytes is js k c d l (inr f) = f.cannot (subst IsStructured (one_cut bytes js is d c) l)

-- something is open, so there is an innermost one
innermost : (stack : List Open) → 0 < length stack → (o : Open) × (s : List Open) × (reverse stack ≡ o ∷ s)
innermost stack h = go (reverse stack) refl
  where
    go : (r : List Open) → reverse stack ≡ r → (o : Open) × (s : List Open) × (reverse stack ≡ o ∷ s)
    go [] e = absurd (omega (arith, length-reverse stack, ap length e))
    go (o ∷ s) e = (o, s, e)

-- the fault at the end
pub end_fault : (bytes : List ℕ) (is : List Instruction) (stack : List Open) → IsCut bytes is → 0 < length stack → Leaves is (reverse stack) → IsFault is (length bytes)
end_fault bytes is stack cut some leaves =
    let top = innermost stack some in
    let open_there : Leaves is (top.0 ∷ top.1) = subst (λ x. Leaves is x) top.2 leaves in
    inr (record {
      can_go_on = goes_on (top.0 ∷ top.1) is open_there.opened;
      cannot = not_structured is top.0 top.1 open_there;
      offset = size_is is ∙ ap length cut.joined;
    })

-- a program that was read to its end with nothing open
pub read_kept : (bytes : List ℕ) (is : List Instruction) (stack : List Open) (b : Body) (slots : List Slot) → IsCut bytes is → IsRead is (reverse stack) b slots → stack ≡ [] →
    length bytes < 2 ^ 31 → IsKept slots bytes × (kept slots bytes ≡ is)
read_kept bytes is stack b slots cut r closed small =
    let k = kept_cut bytes (lengths slots) is cut r.each_length small in
    let nothing : IsRead is [] b slots = subst (λ s. IsRead is (reverse s) b slots) closed r in (
      record {
        is_laid = k.0;
        structured = subst IsStructured (sym k.1) nothing.leaves.opened;
        table = rw k.1 nothing.table;
      },
      k.1,
    )

-- what was read and what is left are the bytes
pub sizes_left : (bytes rest : List ℕ) (p : List Instruction) (s : List Open) (b : Body) (slots : List Slot) → BeginsWith bytes p rest → IsRead p s b slots →
    (length slots + length rest ≡ length bytes) × (size p ≡ length bytes - length rest)
sizes_left bytes rest p s b slots begins r =
    let joined : length (concat p) + length rest ≡ length bytes = sym (length-append (concat p) rest) ∙ ap length begins.joined in
    let long : length slots ≡ size p = read_size p s b slots r in
    (omega (arith, size_is p), omega (arith, size_is p))

-- where the program is structured, the only fault can be that memory ran out
pub only_memory : (bytes : List ℕ) (is : List Instruction) (e : CodeFault) → IsCut bytes is → IsStructured is → IsMemory e ⊎ IsMisnested bytes e → IsMemory e
only_memory bytes is e cut l (inl h) = h
only_memory bytes is (Structure k) cut l (inr h) = absurd (no_fault bytes h.0 is k h.1 cut l h.2)
only_memory bytes is (CannotCut k) cut l (inr h) = absurd h
only_memory bytes is (OutOfMemory e) cut l (inr h) = absurd h

pub no_length : {A : Type 0} (xs : List A) → length xs ≡ 0 → xs ≡ []
no_length [] h = refl
no_length (x ∷ xs) h = absurd (omega arith)

-- what a program that is kept has

pub kept_each : (slots : List Slot) (bytes : List ℕ) (is : List Instruction) → IsKept slots bytes → kept slots bytes ≡ is → AllByRecursion IsInstruction is
kept_each slots bytes is k e = subst (λ x. AllByRecursion IsInstruction x) e k.is_laid.is_cut.each

pub kept_structured : (slots : List Slot) (bytes : List ℕ) (is : List Instruction) → IsKept slots bytes → kept slots bytes ≡ is → IsStructured is
kept_structured slots bytes is k e = subst IsStructured e k.structured

pub kept_table : (slots : List Slot) (bytes : List ℕ) (is : List Instruction) → IsKept slots bytes → kept slots bytes ≡ is → IsTable is [] (bodies slots) (targets slots)
kept_table slots bytes is k e = subst (λ x. IsTable x [] (bodies slots) (targets slots)) e k.table

-- the length that was read is the one that is kept
pub length_read : (items now : List Slot) (o n : ℕ) → now ≡ items → n ≡ get_or (lengths now) o 0 → get_or (lengths items) o 0 ≡ n
length_read items now o n same read = ap (λ t. get_or (lengths t) o 0) (sym same) ∙ sym read
