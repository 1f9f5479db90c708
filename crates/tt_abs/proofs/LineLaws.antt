-- The place just after another: it is after only one place, is never the start, and between the two no instruction starts.
use Rattle.std.specs.Prelude.{nat_eq, nat_lt, if◌then◌else◌, Bool, true, false, Option}
use Rattle.std.proofs.Common.{◌≡◌, ℕ, zero, suc, ◌+◌, ◌-◌, ◌≤◌, ◌<◌, List, [], ◌∷◌, Err, Some, None, refl, sym, ◌∙◌, ap, arith, length}
use Rattle.std.proofs.lemmas.Bool.{ltb-false, eqb-true}
use Rattle.tt_code.specs.Cut.{Instruction, instruction_at, size}
use Rattle.tt_code.specs.Settings.{Setting, program_of, starts_in_body, is_main_end}
use Rattle.tt_code.specs.declared.machine.Frame.{Frame}
use Rattle.tt_code.specs.declared.reason.Reason.TheVariants.{Target}
use Rattle.tt_abs.specs.declared.state.State.{State}
use Rattle.tt_abs.specs.Lines.{EndsAt, Precedes}
use Rattle.tt_abs.specs.StateFlow.{Place, RefusesState}
use Rattle.tt_abs.specs.States.{abstract_of}
use Rattle.tt_setting.specs.Settings.{instruction_of}
use Rattle.tt_abs.specs.Transfers.{performs_cells, outcome_on_cells}

-- an instruction that isn't the first
later : (is : List Instruction) (i : Instruction) (k : ℕ) (j : Instruction) → instruction_at (i ∷ is) (suc k) ≡ Some j → (length i ≤ suc k) × (instruction_at is (suc k - length i) ≡ Some j)
later is i k j e = go (nat_lt (suc k) (length i)) refl e
  where
    go : (b : Bool) → nat_lt (suc k) (length i) ≡ b → (if b then None else instruction_at is (suc k - length i)) ≡ Some j → (length i ≤ suc k) × (instruction_at is (suc k - length i) ≡ Some j)
    go true f e = absurd (cc)
    go false f e = (ltb-false (suc k) (length i) f, e)

-- two instructions that end at one offset start at one
one_start : (is : List Instruction) (m n : ℕ) (i j : Instruction) → instruction_at is m ≡ Some i → instruction_at is n ≡ Some j → m < m + length i → n < n + length j → m + length i ≡ n + length j → m ≡ n
one_start [] m n i j e f lt lt' ends = absurd (cc)
one_start (x ∷ is) zero zero i j e f lt lt' ends = refl
one_start (x ∷ is) zero (suc n) i j e f lt lt' ends =
    let same : x ≡ i = cc in
    let long = ap length same in
    let (le, at) = later is x n j f in absurd (omega arith)
one_start (x ∷ is) (suc m) zero i j e f lt lt' ends =
    let same : x ≡ j = cc in
    let long = ap length same in
    let (le, at) = later is x m i e in absurd (omega arith)
one_start (x ∷ is) (suc m) (suc n) i j e f lt lt' ends =
    let (le, at) = later is x m i e in
    let (le', at') = later is x n j f in
    let same = one_start is (suc m - length x) (suc n - length x) i j at at' (omega arith) (omega arith) (omega arith) in
    omega arith

-- inside an instruction none starts
none_inside : (is : List Instruction) (m n : ℕ) (i j : Instruction) → instruction_at is m ≡ Some i → m < n → n < m + length i → instruction_at is n ≡ Some j → ⊥
none_inside [] m n i j e lt lt' f = cc
none_inside (x ∷ is) m zero i j e lt lt' f = omega arith
none_inside (x ∷ is) zero (suc n) i j e lt lt' f =
    let same : x ≡ i = cc in
    let long = ap length same in
    let (le, at) = later is x n j f in omega arith
none_inside (x ∷ is) (suc m) (suc n) i j e lt lt' f =
    let (le, at) = later is x m i e in
    let (le', at') = later is x n j f in
    none_inside is (suc m - length x) (suc n - length x) i j at (omega arith) (omega arith) at'

-- an instruction ends at the program's end or before
ends_within : (is : List Instruction) (m : ℕ) (i : Instruction) → instruction_at is m ≡ Some i → m + length i ≤ size is
ends_within [] m i e = absurd (cc)
ends_within (x ∷ is) zero i e = let same : x ≡ i = cc in let long = ap length same in omega arith
ends_within (x ∷ is) (suc m) i e =
    let (le, at) = later is x m i e in
    let within = ends_within is (suc m - length x) i at in
    omega arith

module _ (s : Setting) where
  -- the instruction of a body is one of its program
  in_program : (fs : List Frame) (at : ℕ) (i : Instruction) → instruction_of s fs at ≡ Some i → instruction_at (program_of s fs) at ≡ Some i
  in_program fs at i e = go (starts_in_body s fs at) e
    where
      go : (b : Bool) → (if b then instruction_at (program_of s fs) at else None) ≡ Some i → instruction_at (program_of s fs) at ≡ Some i
      go true e = e
      go false e = absurd (cc)

  pub precedes_ascends : (p q : Place) → Precedes s p q → p.1 < q.1
  precedes_ascends p q h = h.ends.forward

  pub precedes_no_start : (p : Place) (fs : List Frame) → Precedes s p (fs, 0) → ⊥
  precedes_no_start p fs h = let lt = h.ends.forward in omega arith

  pub precedes_one : (p r q : Place) → Precedes s p q → Precedes s r q → p ≡ r
  precedes_one p r q h k =
      let calls : r.0 ≡ p.0 = sym k.calls ∙ h.calls in
      let found : instruction_of s p.0 r.1 ≡ Some k.ends.instruction = ap (λ fs. instruction_of s fs r.1) (sym calls) ∙ k.ends.found in
      let p_end = h.ends.end_is in
      let r_end = k.ends.end_is in
      let p_forward = h.ends.forward in
      let r_forward = k.ends.forward in
      let offset : p.1 ≡ r.1 =
      one_start (program_of s p.0) p.1 r.1 h.ends.instruction k.ends.instruction (in_program p.0 p.1 h.ends.instruction h.ends.found) (in_program p.0 r.1 k.ends.instruction found)
      (omega arith) (omega arith) (omega arith) in
      λ i. (sym calls i, offset i)

  -- an instruction has one end
  pub ends_once : (p : Place) (end end' : ℕ) → EndsAt s p end → EndsAt s p end' → end ≡ end'
  ends_once p end end' h k =
      let both : Some h.instruction ≡ Some k.instruction = sym h.found ∙ k.found in
      let same : h.instruction ≡ k.instruction = cc in
      h.end_is ∙ ap (λ (i : Instruction). p.1 + length i) same ∙ sym k.end_is

  -- only one place is just after another
  pub precedes_place : (p q r : Place) → Precedes s p q → Precedes s p r → q ≡ r
  precedes_place p q r h k =
      let calls : q.0 ≡ r.0 = h.calls ∙ sym k.calls in
      let offset : q.1 ≡ r.1 = ends_once p q.1 r.1 h.ends k.ends in
      λ i. (calls i, offset i)

  -- between the two each state is refused
  pub between_refused : (p q : Place) (at : ℕ) (a : State) → Precedes s p q → p.1 < at → at < q.1 → RefusesState s (q.0, at) a Target
  unfolding outcome_on_cells
  between_refused p q at a h lt lt' =
      record { running = not_end q.0 h.calls; refused = none_there (instruction_of s q.0 at) refl }
    where
      start : instruction_at (program_of s p.0) p.1 ≡ Some h.ends.instruction
      start = in_program p.0 p.1 h.ends.instruction h.ends.found

      not_end : (fs : List Frame) → fs ≡ p.0 → is_main_end s fs at ≡ false
      not_end [] e = go (nat_eq at (size s.main)) refl
        where
          go : (b : Bool) → nat_eq at (size s.main) ≡ b → nat_eq at (size s.main) ≡ false
          go false f = f
          go true f =
              let same : at ≡ size s.main = eqb-true at (size s.main) f in
              let main : program_of s p.0 ≡ s.main = ap (program_of s) (sym e) in
              let within = ends_within (program_of s p.0) p.1 h.ends.instruction start in
              let long : size (program_of s p.0) ≡ size s.main = ap size main in
              let end = h.ends.end_is in absurd (omega arith)
      not_end (f ∷ fs) e = refl

      none_there : (o : Option Instruction) → instruction_of s q.0 at ≡ o → outcome_on_cells s q.0 at (abstract_of a) ≡ Err Target
      none_there None e = ap (performs_cells s q.0 at (abstract_of a)) e
      none_there (Some j) e =
          let there : instruction_of s p.0 at ≡ Some j = ap (λ fs. instruction_of s fs at) (sym h.calls) ∙ e in
          let end = h.ends.end_is in
          absurd (none_inside (program_of s p.0) p.1 at h.ends.instruction j start lt (omega arith) (in_program p.0 at j there))
