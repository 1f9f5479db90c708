-- Where successors are: in programs that have fewer than 2^31 bytes, at offsets below 2^31.
use Rattle.std.specs.Prelude.{ℤ, pos, negsuc, ◌+ℤ◌, ◌^◌, not, ◌||◌, Option, nat_eq, nat_lt, nat_le, if◌then◌else◌}
use Rattle.std.specs.List.{AllByRecursion}
use Rattle.std.proofs.Common.{◌≡◌, ℕ, zero, suc, ◌+◌, ◌-◌, ◌≤◌, ◌<◌, List, [], ◌∷◌, Ok, Some, None, refl, ◌∙◌, subst, arith, length, Bool, true, false}
use Rattle.std.proofs.lemmas.Bool.{ltb-true, ltb-false, eqb-true}
use Rattle.tt_code.specs.Refusals.{Tested, holds_or, some_or}
use Rattle.tt_code.specs.Table.{Meaning, NoEntry, Plain, Pushes, Stack, Computes, Controls, effect_of}
use Rattle.tt_code.specs.Cut.{Instruction, size}
use Rattle.tt_code.specs.Structure.{keyword, is_keyword, still_open, after_end, leads_from, after_if, after_else, after_fdef, following_body, body_from, body_at}
use Rattle.tt_code.specs.Settings.{Setting, program_of, body_of, is_body, starts_in_body, is_main_end, is_target, body_offset, CVT_BODIES}
use Rattle.tt_code.specs.States.{is_below, is_true}
use Rattle.tt_code.specs.Operands.{top}
use Rattle.tt_code.specs.Changes.{natural}
use Rattle.tt_code.specs.Control.{may_define, body_named}
use Rattle.tt_code.specs.declared.block_keyword.BlockKeyword.{BlockKeyword}
use Rattle.tt_code.specs.declared.machine.Body.{Body}
use Rattle.tt_code.specs.declared.machine.Body.TheVariants as body
use Rattle.tt_code.specs.declared.machine.Frame.{Frame}
use Rattle.tt_code.specs.declared.reason.Reason.{Reason}
use Rattle.tt_code.specs.declared.reason.Reason.TheVariants as reason
use Rattle.tt_code.specs.declared.kinds.Control.{Control}
use Rattle.tt_code.specs.declared.kinds.Control.TheVariants.{If, Else, Jump, JumpIfTrue, JumpIfFalse, Call, LoopCall, FunctionDefinition, EndFunction, InstructionDefinition}
use Rattle.tt_abs.specs.declared.cells.Cell.{Cell}
use Rattle.tt_abs.specs.declared.cells.Cell.TheVariants.{Known, Unknown}
use Rattle.tt_abs.specs.Cells.{Abstract}
use Rattle.tt_setting.specs.EntryLaws.{listed-named}
use Rattle.tt_setting.specs.Ranges.{AreProgramsShort}
use Rattle.tt_abs.specs.StateFlow.{CallsFit, FunctionsFit}
use Rattle.tt_abs.specs.Transfers.{Next, known, leaves_cells, plain_cells, pushed_cells, shuffled_cells, computed_cells, one_way, two_ways, jump_target, jumps_cells, jumps_by, jumps_if_cells, if_ways, is_running, called_cell, enters_cells, loops_cells, returns_cells, controlled_cells, goes_on_cells, does_cells, are_within, within_cells, performs_cells, outcome_on_cells}
use Rattle.tt_setting.specs.Settings.{instruction_of}
use Rattle.tt_abs.proofs.ListsKept.{holds_tested, EndsBelow, ends_below, short_program}
use Rattle.tt_abs.proofs.RangesKept.{Holds, holds_then, holds_any}

-- Where instructions lead in a program.

abbrev IsWithin : ℕ → Option ℕ → Type 0
IsWithin end None = Unit {0}
IsWithin end (Some n) = n ≤ end

within_more : (low high : ℕ) (o : Option ℕ) → low ≤ high → IsWithin low o → IsWithin high o
within_more low high None le h = tt
within_more low high (Some n) le h = omega (arith, h)

end_within : (opener : BlockKeyword) (is : List Instruction) (offset inside : ℕ) → IsWithin (offset + size is) (after_end opener is offset inside)
end_within opener [] offset inside = tt
end_within opener (i ∷ is) offset inside = go (still_open opener (keyword i) inside) (λ more. end_within opener is (offset + length i) more)
  where
    go : (o : Option ℕ) → ((more : ℕ) → IsWithin (offset + length i + size is) (after_end opener is (offset + length i) more))
        → IsWithin (offset + (length i + size is)) (elim o as (λ p. Option ℕ) [ None ↦ Some (offset + length i) | Some more ↦ after_end opener is (offset + length i) more ])
    go None h = omega arith
    go (Some more) h = within_more (offset + length i + size is) (offset + (length i + size is)) (after_end opener is (offset + length i) more) (omega arith) (h more)

leads_within : (start : ℕ) (opener : BlockKeyword) (is : List Instruction) (offset : ℕ) → IsWithin (start + size is) (leads_from start opener is offset)
leads_within start opener [] offset = tt
leads_within start opener (i ∷ is) offset = go (nat_eq start offset) (is_keyword opener (keyword i)) (leads_within (start + length i) opener is offset)
  where
    go : (b c : Bool) → IsWithin (start + length i + size is) (leads_from (start + length i) opener is offset) → IsWithin (start + (length i + size is)) (if b then (if c then after_end opener is (start + length i) 0 else None) else leads_from (start + length i) opener is offset)
    go true true h = within_more (start + length i + size is) (start + (length i + size is)) (after_end opener is (start + length i) 0) (omega arith) (end_within opener is (start + length i) 0)
    go true false h = tt
    go false c h = within_more (start + length i + size is) (start + (length i + size is)) (leads_from (start + length i) opener is offset) (omega arith) h

abbrev IsIn : ℕ → ℕ → Option Body → Type 0
IsIn end offset None = Unit {0}
IsIn end offset (Some b) = offset ≤ end

body_within : (here : Body) (start : ℕ) (is : List Instruction) (offset : ℕ) → IsIn (start + size is) offset (body_from here start is offset)
body_within here start [] offset = tt
body_within here start (i ∷ is) offset = go (nat_eq start offset) refl (body_from (following_body here (keyword i) (start + length i)) (start + length i) is offset) (body_within (following_body here (keyword i) (start + length i)) (start + length i) is offset)
  where
    go : (b : Bool) → nat_eq start offset ≡ b → (o : Option Body) → IsIn (start + length i + size is) offset o → IsIn (start + (length i + size is)) offset (if b then Some here else o)
    go true e o h = let same : start ≡ offset = eqb-true start offset e in omega arith
    go false e None h = tt
    go false e (Some b) h = omega (arith, h)

in_body : (b : Body) (o : Option Body) (end offset : ℕ) → is_body b o ≡ true → IsIn end offset o → offset ≤ end
in_body b (Some c) end offset e h = h
in_body body.Main None end offset e h = absurd (cc)
in_body (body.Function a) None end offset e h = absurd (cc)
in_body (body.Instruction a) None end offset e h = absurd (cc)

pub starts_within : (s : Setting) (fs : List Frame) (at : ℕ) → starts_in_body s fs at ≡ true → at ≤ size (program_of s fs)
starts_within s fs at e =
    let le : at ≤ 0 + size (program_of s fs) = in_body (body_of fs) (body_at (program_of s fs) at) (0 + size (program_of s fs)) at e (body_within body.Main 0 (program_of s fs) at) in omega arith

ends_there : (s : Setting) (fs : List Frame) (at : ℕ) → is_main_end s fs at ≡ true → at ≤ size (program_of s fs)
ends_there s [] at e = let same : at ≡ size s.main = eqb-true at (size s.main) e in omega arith
ends_there s (f ∷ fs) at e = absurd (cc)

either : (a b : Bool) (P : Type 0) → a || b ≡ true → (a ≡ true → P) → (b ≡ true → P) → P
either true b P h k l = k refl
either false b P h k l = l h

target_small : (s : Setting) (fs : List Frame) (z : ℤ) → AreProgramsShort s → is_target s fs z ≡ true → natural z < 2 ^ 31
target_small s fs (negsuc n) short e = omega arith
target_small s fs (pos n) short e =
    let lt : size (program_of s fs) < 2 ^ 31 = short_program s fs short in
    either (starts_in_body s fs n) (is_main_end s fs n) (n < 2 ^ 31) e
    (λ h. let le : n ≤ size (program_of s fs) = starts_within s fs n h in omega arith)
    (λ h. let le : n ≤ size (program_of s fs) = ends_there s fs n h in omega arith)

body_small : (name : ℕ) → name < 2 ^ 32 → body_offset name < 2 ^ 31
body_small name h = go (nat_lt name CVT_BODIES) refl
  where
    go : (b : Bool) → nat_lt name CVT_BODIES ≡ b → (if b then name else name - CVT_BODIES) < 2 ^ 31
    go true e = let lt : name < CVT_BODIES = ltb-true name CVT_BODIES e in omega arith
    go false e = let le : CVT_BODIES ≤ name = ltb-false name CVT_BODIES e in omega arith

-- Where the successors are.

abbrev pub NextFits : Next → Type 0
NextFits n = CallsFit n.frames × (n.offset < 2 ^ 31)

abbrev AreFit : List Next → Type 0
AreFit nexts = AllByRecursion NextFits nexts

two_fit : (fs : List Frame) (m n : ℕ) (a : Abstract) → CallsFit fs → m < 2 ^ 31 → n < 2 ^ 31 → AreFit (two_ways fs m n a)
two_fit fs m n a h k l = go (nat_eq m n) (nat_lt m n)
  where
    go : (b c : Bool)
        → AreFit (if b then one_way fs m a else if c then record { frames = fs; offset = m; state = a } ∷ one_way fs n a else record { frames = fs; offset = n; state = a } ∷ one_way fs m a)
    go true c = ((h, k), tt)
    go false true = ((h, k), ((h, l), tt))
    go false false = ((h, l), ((h, k), tt))

module _ (s : Setting) (fs : List Frame) (at : ℕ) (a : Abstract) (short : AreProgramsShort s) (calls : CallsFit fs) (functions : FunctionsFit s a.functions) (small : at + 1 < 2 ^ 31) where
  abbrev IsSmall : ℕ → Type 0
  IsSmall n = n < 2 ^ 31

  led_small : (o : Option ℕ) (r : Reason) → IsWithin (0 + size (program_of s fs)) o → Holds IsSmall (some_or o r)
  led_small None r h = tt
  led_small (Some n) r h = let lt : size (program_of s fs) < 2 ^ 31 = short_program s fs short in omega (arith, h)

  target_fits : (by : Cell) (stack : List Cell) → Holds IsSmall (jump_target s fs at by stack)
  target_fits by stack =
      holds_any IsSmall (holds_or (nat_le (length stack) s.limits.stack) reason.Overflow) _ (λ deep.
      holds_any IsSmall (known by) _ (λ z.
      holds_tested IsSmall (is_target s fs (pos at +ℤ z)) reason.Target _ (λ e ok. target_small s fs (pos at +ℤ z) short e)))

  jumps_fit : (by : Cell) (stack : List Cell) → Holds AreFit (jumps_cells s fs at a by stack)
  jumps_fit by stack = holds_then IsSmall AreFit (jump_target s fs at by stack) _ (target_fits by stack) (λ t lt. ((calls, lt), tt))

  jumps_by_fit : (holds : ℤ → Bool) (e by : Cell) (stack : List Cell) → Holds AreFit (jumps_by s fs at a holds e by stack)
  jumps_by_fit holds (Known e) by stack = go (holds e)
    where
      go : (b : Bool) → Holds AreFit (if b then jumps_cells s fs at a by stack else Ok (one_way fs (at + 1) (leaves_cells a stack [])))
      go true = jumps_fit by stack
      go false = ((calls, small), tt)
  jumps_by_fit holds Unknown by stack =
      holds_then IsSmall AreFit (jump_target s fs at by stack) _ (target_fits by stack) (λ t lt. two_fit fs (at + 1) t (leaves_cells a stack []) calls small lt)

  jumps_if_fit : (holds : ℤ → Bool) → Holds AreFit (jumps_if_cells s fs at a holds)
  jumps_if_fit holds = holds_any AreFit (top a.stack) _ (λ e. holds_any AreFit (top e.1) _ (λ by. jumps_by_fit holds e.0 by.0 by.1))

  after_small : Holds IsSmall (some_or (after_if (program_of s fs) at) reason.Target)
  after_small = led_small (after_if (program_of s fs) at) reason.Target (leads_within 0 _ (program_of s fs) at)

  if_fits : (e : Cell) (stack : List Cell) → Holds AreFit (if_ways s fs at a e stack)
  if_fits (Known e) stack = holds_then IsSmall AreFit (if is_true e then Ok (at + 1) else some_or (after_if (program_of s fs) at) reason.Target) _ (go (is_true e)) (λ after lt. ((calls, lt), tt))
    where
      go : (b : Bool) → Holds IsSmall (if b then Ok (at + 1) else some_or (after_if (program_of s fs) at) reason.Target)
      go true = small
      go false = after_small
  if_fits Unknown stack =
      holds_then IsSmall AreFit (some_or (after_if (program_of s fs) at) reason.Target) _ after_small (λ after lt. two_fit fs (at + 1) after (leaves_cells a stack []) calls small lt)

  abbrev IsName : ℕ → Type 0
  IsName name = name < 2 ^ 32

  named : (o : Option ℕ) (r : Reason) → ((body : ℕ) → o ≡ Some body → body < 2 ^ 32) → Holds IsName (some_or o r)
  named None r h = tt
  named (Some b) r h = h b refl

  called_fits : (c : Cell) → Holds IsName (called_cell s a.functions c)
  called_fits c =
      holds_any IsName (known c) _ (λ n.
      holds_any IsName (holds_or (is_below n s.limits.functions) reason.Function) _ (λ ok.
      named (body_named a.functions (natural n)) reason.Function (λ b e. (functions (natural n) b (listed-named a.functions (natural n) ∙ e)).1)))

  enters_fit : (name : ℕ) (stack : List Cell) (turns : ℕ) → name < 2 ^ 32 → Holds AreFit (enters_cells s fs at a name stack turns)
  enters_fit name stack turns h =
      holds_any AreFit (holds_or (nat_le (length stack) s.limits.stack) reason.Overflow) _ (λ deep.
      holds_any AreFit (holds_or (not (is_running name fs)) reason.Recursion) _ (λ fresh. ((((h, small), calls), body_small name h), tt)))

  loops_fit : (name : ℕ) (stack : List Cell) (count : ℤ) → name < 2 ^ 32 → Holds AreFit (loops_cells s fs at a name stack count)
  loops_fit name stack (pos zero) h = ((calls, small), tt)
  loops_fit name stack (pos (suc n)) h = enters_fit name stack (suc n) h
  loops_fit name stack (negsuc n) h = ((calls, small), tt)

  returns_fit : (gs : List Frame) → CallsFit gs → Holds AreFit (returns_cells a gs)
  returns_fit [] h = tt
  returns_fit (f ∷ gs) h = go (nat_lt f.turn f.count)
    where
      go : (b : Bool) → Holds AreFit
          (if b then Ok (one_way (record f { turn = f.turn + 1 } ∷ gs) (body_offset f.body) (leaves_cells a a.stack [])) else Ok (one_way gs (f.call + 1) (leaves_cells a a.stack [])))
      go true = ((h, body_small f.body h.0.0), tt)
      go false = ((h.1, h.0.1), tt)

  controlled_fits : (c : Control) → Holds AreFit (controlled_cells s fs at a c)
  controlled_fits If = holds_any AreFit (top a.stack) _ (λ e. if_fits e.0 e.1)
  controlled_fits Else =
      holds_then IsSmall AreFit (some_or (after_else (program_of s fs) at) reason.Target) _ (led_small (after_else (program_of s fs) at) reason.Target (leads_within 0 _ (program_of s fs) at))
      (λ after lt. ((calls, lt), tt))
  controlled_fits Jump = holds_any AreFit (top a.stack) _ (λ by. jumps_fit by.0 by.1)
  controlled_fits JumpIfTrue = jumps_if_fit is_true
  controlled_fits JumpIfFalse = jumps_if_fit (λ e. not (is_true e))
  controlled_fits FunctionDefinition =
      holds_any AreFit (holds_or (may_define s.kind) reason.Definition) _ (λ may.
      holds_any AreFit (top a.stack) _ (λ t.
      holds_any AreFit (known t.0) _ (λ n.
      holds_any AreFit (holds_or (is_below n s.limits.functions) reason.Function) _ (λ ok.
      holds_then IsSmall AreFit (some_or (after_fdef (program_of s fs) at) reason.Target) _ (led_small (after_fdef (program_of s fs) at) reason.Target (leads_within 0 _ (program_of s fs) at))
      (λ after lt. ((calls, lt), tt))))))
  controlled_fits Call = holds_any AreFit (top a.stack) _ (λ t. holds_then IsName AreFit (called_cell s a.functions t.0) _ (called_fits t.0) (λ name h. enters_fit name t.1 1 h))
  controlled_fits LoopCall =
      holds_any AreFit (top a.stack) _ (λ t.
      holds_then IsName AreFit (called_cell s a.functions t.0) _ (called_fits t.0) (λ name h.
      holds_any AreFit (top t.1) _ (λ u. holds_any AreFit (known u.0) _ (λ count. loops_fit name u.1 count h))))
  controlled_fits EndFunction = returns_fit fs calls
  controlled_fits InstructionDefinition = tt

  goes_on_fits : (next : ℕ) (r : Tested Abstract) → next < 2 ^ 31 → Holds AreFit (goes_on_cells fs next r)
  goes_on_fits next r h = holds_any AreFit r _ (λ b. ((calls, h), tt))

  does_fits : (w : Meaning) (rest : List ℕ) (next : ℕ) → next < 2 ^ 31 → Holds AreFit (does_cells s fs at a w rest next)
  does_fits NoEntry rest next h = tt
  does_fits (Plain line) rest next h = goes_on_fits next (plain_cells s a line) h
  does_fits (Pushes push) rest next h = goes_on_fits next (Ok (pushed_cells push a rest)) h
  does_fits (Stack op) rest next h = goes_on_fits next (shuffled_cells op a) h
  does_fits (Computes op) rest next h = goes_on_fits next (computed_cells op a) h
  does_fits (Controls c) rest next h = controlled_fits c

performs_fit : (s : Setting) (fs : List Frame) (at : ℕ) (a : Abstract) (i : Option Instruction) → AreProgramsShort s → CallsFit fs → FunctionsFit s a.functions → EndsBelow at i
    → Holds AreFit (performs_cells s fs at a i)
performs_fit s fs at a None short calls functions h = tt
performs_fit s fs at a (Some []) short calls functions h = tt
performs_fit s fs at a (Some (code ∷ rest)) short calls functions h =
    holds_then AreFit AreFit (does_cells s fs at a (effect_of code) rest (at + suc (length rest))) (within_cells s)
    (does_fits s fs at a short calls functions (omega (arith, h)) (effect_of code) rest (at + suc (length rest)) h)
    (λ nexts k. holds_any AreFit (holds_or (are_within s nexts) reason.Overflow) _ (λ ok. k))

next_fits : (s : Setting) (fs : List Frame) (at : ℕ) (a : Abstract) → AreProgramsShort s → CallsFit fs → FunctionsFit s a.functions → Holds AreFit (outcome_on_cells s fs at a)
unfolding outcome_on_cells
next_fits s fs at a short calls functions = performs_fit s fs at a (instruction_of s fs at) short calls functions (ends_below s fs at short)

-- the successors are at offsets below 2^31, and their calls will return to such
pub offsets_fit : (s : Setting) (fs : List Frame) (at : ℕ) (a : Abstract) (nexts : List Next) → AreProgramsShort s → CallsFit fs → FunctionsFit s a.functions → outcome_on_cells s fs at a ≡ Ok nexts
    → AllByRecursion NextFits nexts
offsets_fit s fs at a nexts short calls functions e = subst (Holds AreFit) e (next_fits s fs at a short calls functions)
