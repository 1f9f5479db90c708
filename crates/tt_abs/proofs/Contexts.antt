-- The frames of next places: where each call is in one of its turns and no body runs twice, that holds of them too.
use Rattle.std.specs.Prelude.{ℤ, pos, negsuc, ◌<◌, ◌≤◌, ◌^◌, nat_lt, nat_le, not, slice_get, Option, if◌then◌else◌}
use Rattle.std.proofs.Common.{◌≡◌, ℕ, zero, suc, ◌+◌, List, [], ◌∷◌, Ok, Err, Some, None, refl, subst, arith, length, Bool, true, false}
use Rattle.std.proofs.lemmas.Bool.{ltb-true, or_parts}
use Rattle.std.proofs.lemmas.Int.{ints}
use Rattle.tt_code.specs.Refusals.{Tested, ◌>>=◌, holds_or}
use Rattle.tt_code.specs.Table.{Meaning, NoEntry, Plain, Pushes, Stack, Computes, Controls, effect_of}
use Rattle.tt_code.specs.Cut.{Instruction}
use Rattle.tt_code.specs.Settings.{Setting, body_offset}
use Rattle.tt_code.specs.States.{IsNumber}
use Rattle.tt_code.specs.Operands.{top}
use Rattle.tt_code.specs.declared.machine.Frame.{Frame}
use Rattle.tt_code.specs.declared.reason.Reason.TheVariants as reason
use Rattle.tt_code.specs.declared.kinds.Control.TheVariants.{If, Else, Jump, JumpIfTrue, JumpIfFalse, Call, LoopCall, FunctionDefinition, EndFunction, InstructionDefinition}
use Rattle.tt_abs.specs.declared.cells.Cell.{Cell}
use Rattle.tt_abs.specs.declared.cells.Cell.TheVariants.{Known, Unknown}
use Rattle.tt_abs.specs.Cells.{Abstract}
use Rattle.tt_abs.specs.Ranges.{IsInRange, AreInRange}
use Rattle.tt_abs.specs.Covers.{has_body_twice}
use Rattle.tt_abs.specs.Contexts.{FrameFits, FramesFit}
use Rattle.tt_abs.specs.Transfers.{Next, one_way, known, leaves_cells, called_cell, is_running, enters_cells, loops_cells, returns_cells, does_cells, controlled_cells, performs_cells, outcome_on_cells}
use Rattle.tt_setting.specs.Settings.{instruction_of}
use Rattle.tt_abs.proofs.Places.{LeadTo, leads_after, leads_one, leads_within, does_leads}
use Rattle.tt_abs.proofs.Calls.{called_frames}

number_below : (n : ℕ) → IsNumber (pos n) → n < 2 ^ 31
number_below n h = omega (arith, ints)

module _ (s : Setting) (fs : List Frame) (at : ℕ) (here : FramesFit fs) where
  enters_fit : (a : Abstract) (name : ℕ) (stack : List Cell) (turns : ℕ) → 1 ≤ turns → turns < 2 ^ 31 → LeadTo FramesFit (enters_cells s fs at a name stack turns)
  enters_fit a name stack turns some few = go (nat_le (length stack) s.limits.stack) (is_running name fs) refl
    where
      go : (d v : Bool) → is_running name fs ≡ v
          → LeadTo FramesFit
          (holds_or d reason.Overflow
          >>= (λ deep. holds_or (not v) reason.Recursion >>= (λ fresh. Ok (one_way (called_frames fs at name turns) (body_offset name) (leaves_cells a stack [])))))
      go false v e = tt
      go true true e = tt
      go true false e =
          let fit : FrameFits (record { body = name; call = at; turn = 1; count = turns }) = record { begun = omega arith; within = some; countable = few } in
          leads_one FramesFit (called_frames fs at name turns) (body_offset name) (leaves_cells a stack []) (record { each = (fit, here.each); once = rw e here.once })

  loops_fit : (a : Abstract) (name : ℕ) (stack : List Cell) (k : ℤ) → IsNumber k → LeadTo FramesFit (loops_cells s fs at a name stack k)
  loops_fit a name stack (pos zero) h = leads_one FramesFit fs (at + 1) (leaves_cells a stack []) here
  loops_fit a name stack (pos (suc n)) h = enters_fit a name stack (suc n) (omega arith) (number_below (suc n) h)
  loops_fit a name stack (negsuc n) h = leads_one FramesFit fs (at + 1) (leaves_cells a stack []) here

  call_fits : (a : Abstract) → LeadTo FramesFit (controlled_cells s fs at a Call)
  call_fits a =
      leads_after FramesFit (top a.stack) (λ t. called_cell s a.functions t.0 >>= (λ name. enters_cells s fs at a name t.1 1))
      (λ t. leads_after FramesFit (called_cell s a.functions t.0) (λ name. enters_cells s fs at a name t.1 1) (λ name. enters_fit a name t.1 1 (omega arith) (omega arith)))

  loop_call_fits : (a : Abstract) → AreInRange a.stack → LeadTo FramesFit (controlled_cells s fs at a LoopCall)
  loop_call_fits a fits = go a.stack fits
    where
      counted : (name : ℕ) (us : List Cell) (u : Cell) → IsInRange u → LeadTo FramesFit (known u >>= (λ count. loops_cells s fs at a name us count))
      counted name us (Known k) h = loops_fit a name us k h
      counted name us Unknown h = tt

      go : (cs : List Cell) → AreInRange cs → LeadTo FramesFit (controlled_cells s fs at (record a { stack = cs }) LoopCall)
      go [] h = tt
      go (c ∷ []) h = leads_after FramesFit (called_cell s a.functions c) (λ name. Err reason.Underflow) (λ name. tt)
      go (c ∷ u ∷ us) h =
          leads_after FramesFit (called_cell s a.functions c) (λ name. known u >>= (λ count. loops_cells s fs at a name us count)) (λ name. counted name us u h.1.0)

  returns_fit : (a : Abstract) (gs : List Frame) → FramesFit gs → LeadTo FramesFit (returns_cells a gs)
  returns_fit a [] h = tt
  returns_fit a (f ∷ gs) h = go (nat_lt f.turn f.count) refl
    where
      go : (b : Bool) → nat_lt f.turn f.count ≡ b
          → LeadTo FramesFit
          (if b then Ok (one_way (record f { turn = f.turn + 1 } ∷ gs) (body_offset f.body) (leaves_cells a a.stack [])) else Ok (one_way gs (f.call + 1) (leaves_cells a a.stack [])))
      go true e =
          let more = ltb-true f.turn f.count e in
          let fit : FrameFits (record f { turn = f.turn + 1 }) = record { begun = omega arith; within = omega arith; countable = h.each.0.countable } in
          leads_one FramesFit (record f { turn = f.turn + 1 } ∷ gs) (body_offset f.body) (leaves_cells a a.stack []) (record { each = (fit, h.each.1); once = h.once })
      go false e = leads_one FramesFit gs (f.call + 1) (leaves_cells a a.stack []) (record { each = h.each.1; once = (or_parts (is_running f.body gs) (has_body_twice gs) h.once).1 })

  module _ (a : Abstract) (fits : AreInRange a.stack) where
    does_fit : (w : Meaning) (rest : List ℕ) (next : ℕ) → LeadTo FramesFit (does_cells s fs at a w rest next)
    does_fit NoEntry rest next = tt
    does_fit (Plain line) rest next = does_leads FramesFit s fs at a here (Plain line) refl rest next
    does_fit (Pushes push) rest next = does_leads FramesFit s fs at a here (Pushes push) refl rest next
    does_fit (Stack op) rest next = does_leads FramesFit s fs at a here (Stack op) refl rest next
    does_fit (Computes op) rest next = does_leads FramesFit s fs at a here (Computes op) refl rest next
    does_fit (Controls If) rest next = does_leads FramesFit s fs at a here (Controls If) refl rest next
    does_fit (Controls Else) rest next = does_leads FramesFit s fs at a here (Controls Else) refl rest next
    does_fit (Controls Jump) rest next = does_leads FramesFit s fs at a here (Controls Jump) refl rest next
    does_fit (Controls JumpIfTrue) rest next = does_leads FramesFit s fs at a here (Controls JumpIfTrue) refl rest next
    does_fit (Controls JumpIfFalse) rest next = does_leads FramesFit s fs at a here (Controls JumpIfFalse) refl rest next
    does_fit (Controls Call) rest next = call_fits a
    does_fit (Controls LoopCall) rest next = loop_call_fits a fits
    does_fit (Controls FunctionDefinition) rest next = does_leads FramesFit s fs at a here (Controls FunctionDefinition) refl rest next
    does_fit (Controls EndFunction) rest next = returns_fit a fs here
    does_fit (Controls InstructionDefinition) rest next = tt

    performs_fit : (i : Option Instruction) → LeadTo FramesFit (performs_cells s fs at a i)
    performs_fit None = tt
    performs_fit (Some []) = tt
    performs_fit (Some (code ∷ rest)) =
        leads_within FramesFit s (does_cells s fs at a (effect_of code) rest (at + suc (length rest))) (does_fit (effect_of code) rest (at + suc (length rest)))

    outcome_fits : LeadTo FramesFit (outcome_on_cells s fs at a)
    unfolding outcome_on_cells
    outcome_fits = performs_fit (instruction_of s fs at)

-- where the frames fit and the outcome isn't refused, the frames of each next place fit
pub nexts_fit : (s : Setting) (fs : List Frame) (at : ℕ) (a : Abstract) (ns : List Next) → FramesFit fs → AreInRange a.stack → outcome_on_cells s fs at a ≡ Ok ns
    → (i : ℕ) (n : Next) → slice_get ns i ≡ Some n → FramesFit n.frames
nexts_fit s fs at a ns here fits e =
    let R : Tested (List Next) → Type 0 = λ r. LeadTo FramesFit r in
    let led : LeadTo FramesFit (Ok ns) = subst R e (outcome_fits s fs at here a fits) in led.1
