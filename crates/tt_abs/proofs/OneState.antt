-- All successors are one: the ways of an instruction differ only in where they lead.
use Rattle.std.specs.Prelude.{ℤ, pos, negsuc, not, Option, nat_eq, nat_lt, nat_le, slice_get, if◌then◌else◌}
use Rattle.std.specs.List.{AllByRecursion}
use Rattle.std.proofs.Common.{◌≡◌, ℕ, zero, suc, ◌+◌, List, [], ◌∷◌, Ok, Some, None, refl, sym, ◌∙◌, subst, length, Bool, true, false}
use Rattle.tt_code.specs.Refusals.{Tested, holds_or, some_or}
use Rattle.tt_code.specs.Table.{Meaning, NoEntry, Plain, Pushes, Stack, Computes, Controls, effect_of}
use Rattle.tt_code.specs.Cut.{Instruction}
use Rattle.tt_code.specs.Structure.{after_if, after_else, after_fdef}
use Rattle.tt_code.specs.Settings.{Setting, program_of, body_name, body_offset}
use Rattle.tt_code.specs.Changes.{natural}
use Rattle.tt_code.specs.States.{is_below, is_true}
use Rattle.tt_code.specs.Operands.{top}
use Rattle.tt_code.specs.Control.{may_define}
use Rattle.tt_code.specs.declared.machine.Frame.{Frame}
use Rattle.tt_code.specs.declared.reason.Reason.TheVariants as reason
use Rattle.tt_code.specs.declared.kinds.Control.{Control}
use Rattle.tt_code.specs.declared.kinds.Control.TheVariants.{If, Else, Jump, JumpIfTrue, JumpIfFalse, Call, LoopCall, FunctionDefinition, EndFunction, InstructionDefinition}
use Rattle.tt_abs.specs.declared.cells.Cell.{Cell}
use Rattle.tt_abs.specs.declared.cells.Cell.TheVariants.{Known, Unknown}
use Rattle.tt_abs.specs.Cells.{Abstract}
use Rattle.tt_setting.specs.Entries.{with_entry}
use Rattle.tt_abs.specs.Transfers.{Next, known, leaves_cells, plain_cells, pushed_cells, shuffled_cells, computed_cells, one_way, two_ways, jump_target, jumps_cells, jumps_by, jumps_if_cells, if_ways, is_running, called_cell, enters_cells, loops_cells, returns_cells, controlled_cells, goes_on_cells, does_cells, are_within, within_cells, performs_cells, outcome_on_cells}
use Rattle.tt_setting.specs.Settings.{instruction_of}
use Rattle.tt_abs.proofs.RangesKept.{Holds, holds_then, holds_any}
use Rattle.tt_abs.proofs.StateParts.{one_of_all}

-- each successor is this one
abbrev AreAll : Abstract → List Next → Type 0
AreAll b nexts = AllByRecursion (λ n. n.state ≡ b) nexts

abbrev AreOne : List Next → Type 0
AreOne nexts = (b : Abstract) × AreAll b nexts

one : (fs : List Frame) (n : ℕ) (a : Abstract) → AreOne (one_way fs n a)
one fs n a = (a, (refl, tt))

two : (fs : List Frame) (m n : ℕ) (a : Abstract) → AreOne (two_ways fs m n a)
two fs m n a = go (nat_eq m n) (nat_lt m n)
  where
    go : (b c : Bool)
        → AreOne (if b then one_way fs m a else if c then record { frames = fs; offset = m; state = a } ∷ one_way fs n a else record { frames = fs; offset = n; state = a } ∷ one_way fs m a)
    go true c = (a, (refl, tt))
    go false true = (a, (refl, (refl, tt)))
    go false false = (a, (refl, (refl, tt)))

module _ (s : Setting) (fs : List Frame) (at : ℕ) (a : Abstract) where
  jumps : (by : Cell) (stack : List Cell) → Holds AreOne (jumps_cells s fs at a by stack)
  jumps by stack = holds_any AreOne (jump_target s fs at by stack) _ (λ t. one fs t (leaves_cells a stack []))

  jumps_by_one : (holds : ℤ → Bool) (e by : Cell) (stack : List Cell) → Holds AreOne (jumps_by s fs at a holds e by stack)
  jumps_by_one holds (Known e) by stack = go (holds e)
    where
      go : (b : Bool) → Holds AreOne (if b then jumps_cells s fs at a by stack else Ok (one_way fs (at + 1) (leaves_cells a stack [])))
      go true = jumps by stack
      go false = one fs (at + 1) (leaves_cells a stack [])
  jumps_by_one holds Unknown by stack = holds_any AreOne (jump_target s fs at by stack) _ (λ t. two fs (at + 1) t (leaves_cells a stack []))

  jumps_if_one : (holds : ℤ → Bool) → Holds AreOne (jumps_if_cells s fs at a holds)
  jumps_if_one holds = holds_any AreOne (top a.stack) _ (λ e. holds_any AreOne (top e.1) _ (λ by. jumps_by_one holds e.0 by.0 by.1))

  if_one : (e : Cell) (stack : List Cell) → Holds AreOne (if_ways s fs at a e stack)
  if_one (Known e) stack =
      holds_any AreOne (if is_true e then Ok (at + 1) else some_or (after_if (program_of s fs) at) reason.Target) _ (λ after. one fs after (leaves_cells a stack []))
  if_one Unknown stack =
      holds_any AreOne (some_or (after_if (program_of s fs) at) reason.Target) _ (λ after. two fs (at + 1) after (leaves_cells a stack []))

  enters_one : (name : ℕ) (stack : List Cell) (turns : ℕ) → Holds AreOne (enters_cells s fs at a name stack turns)
  enters_one name stack turns =
      holds_any AreOne (holds_or (nat_le (length stack) s.limits.stack) reason.Overflow) _ (λ deep.
      holds_any AreOne (holds_or (not (is_running name fs)) reason.Recursion) _ (λ fresh.
      one (record { body = name; call = at; turn = 1; count = turns } ∷ fs) (body_offset name) (leaves_cells a stack [])))

  loops_one : (name : ℕ) (stack : List Cell) (count : ℤ) → Holds AreOne (loops_cells s fs at a name stack count)
  loops_one name stack (pos zero) = one fs (at + 1) (leaves_cells a stack [])
  loops_one name stack (pos (suc n)) = enters_one name stack (suc n)
  loops_one name stack (negsuc n) = one fs (at + 1) (leaves_cells a stack [])

  returns_one : (gs : List Frame) → Holds AreOne (returns_cells a gs)
  returns_one [] = tt
  returns_one (f ∷ gs) = go (nat_lt f.turn f.count)
    where
      go : (b : Bool) → Holds AreOne
          (if b then Ok (one_way (record f { turn = f.turn + 1 } ∷ gs) (body_offset f.body) (leaves_cells a a.stack [])) else Ok (one_way gs (f.call + 1) (leaves_cells a a.stack [])))
      go true = one (record f { turn = f.turn + 1 } ∷ gs) (body_offset f.body) (leaves_cells a a.stack [])
      go false = one gs (f.call + 1) (leaves_cells a a.stack [])

  controlled_one : (c : Control) → Holds AreOne (controlled_cells s fs at a c)
  controlled_one If = holds_any AreOne (top a.stack) _ (λ e. if_one e.0 e.1)
  controlled_one Else = holds_any AreOne (some_or (after_else (program_of s fs) at) reason.Target) _ (λ after. one fs after (leaves_cells a a.stack []))
  controlled_one Jump = holds_any AreOne (top a.stack) _ (λ by. jumps by.0 by.1)
  controlled_one JumpIfTrue = jumps_if_one is_true
  controlled_one JumpIfFalse = jumps_if_one (λ e. not (is_true e))
  controlled_one FunctionDefinition =
      holds_any AreOne (holds_or (may_define s.kind) reason.Definition) _ (λ may.
      holds_any AreOne (top a.stack) _ (λ t.
      holds_any AreOne (known t.0) _ (λ n.
      holds_any AreOne (holds_or (is_below n s.limits.functions) reason.Function) _ (λ ok.
      holds_any AreOne (some_or (after_fdef (program_of s fs) at) reason.Target) _ (λ after.
      one fs after (leaves_cells (record a { functions = with_entry (natural n) (body_name s.kind (at + 1)) a.functions }) t.1 []))))))
  controlled_one Call = holds_any AreOne (top a.stack) _ (λ t. holds_any AreOne (called_cell s a.functions t.0) _ (λ name. enters_one name t.1 1))
  controlled_one LoopCall =
      holds_any AreOne (top a.stack) _ (λ t.
      holds_any AreOne (called_cell s a.functions t.0) _ (λ name.
      holds_any AreOne (top t.1) _ (λ u. holds_any AreOne (known u.0) _ (λ count. loops_one name u.1 count))))
  controlled_one EndFunction = returns_one fs
  controlled_one InstructionDefinition = tt

  goes_on_one : (next : ℕ) (r : Tested Abstract) → Holds AreOne (goes_on_cells fs next r)
  goes_on_one next r = holds_any AreOne r _ (λ b. one fs next b)

  does_one : (w : Meaning) (rest : List ℕ) (next : ℕ) → Holds AreOne (does_cells s fs at a w rest next)
  does_one NoEntry rest next = tt
  does_one (Plain line) rest next = goes_on_one next (plain_cells s a line)
  does_one (Pushes push) rest next = goes_on_one next (Ok (pushed_cells push a rest))
  does_one (Stack op) rest next = goes_on_one next (shuffled_cells op a)
  does_one (Computes op) rest next = goes_on_one next (computed_cells op a)
  does_one (Controls c) rest next = controlled_one c

  performs_one : (i : Option Instruction) → Holds AreOne (performs_cells s fs at a i)
  performs_one None = tt
  performs_one (Some []) = tt
  performs_one (Some (code ∷ rest)) =
      holds_then AreOne AreOne (does_cells s fs at a (effect_of code) rest (at + suc (length rest))) (within_cells s) (does_one (effect_of code) rest (at + suc (length rest)))
      (λ nexts k. holds_any AreOne (holds_or (are_within s nexts) reason.Overflow) _ (λ ok. k))

  all_one : Holds AreOne (outcome_on_cells s fs at a)
  unfolding outcome_on_cells
  all_one = performs_one (instruction_of s fs at)

  -- any two successors are one
  pub one_state_next : (nexts : List Next) (i j : ℕ) (n m : Next) → outcome_on_cells s fs at a ≡ Ok nexts → slice_get nexts i ≡ Some n → slice_get nexts j ≡ Some m → n.state ≡ m.state
  one_state_next nexts i j n m e first second =
      let (b, all) = subst (Holds AreOne) e all_one in
      one_of_all (λ x. x.state ≡ b) nexts i n all first ∙ sym (one_of_all (λ x. x.state ≡ b) nexts j m all second)
