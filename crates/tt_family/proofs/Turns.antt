-- The next turn of a call: what leads there ends a turn that isn't the last.
use Rattle.std.specs.Prelude.{◌≡◌, ℕ, ℤ, pos, negsuc, ◌+◌, ◌<◌, nat_lt, nat_le, not, if◌then◌else◌, Bool, true, false, Option, Some, None, List, [], ◌∷◌, Ok, Err, length, slice_get, zero, suc}
use Rattle.std.specs.Option.{option_map}
use Rattle.std.proofs.Common.{refl, ◌∙◌, ap, subst, arith}
use Rattle.std.proofs.lemmas.Bool.{ltb-true}
use Rattle.std.proofs.lemmas.Option.{slice_get-map}
use Rattle.tt_code.specs.Cut.{Instruction}
use Rattle.tt_code.specs.Operands.{top}
use Rattle.tt_code.specs.Refusals.{Tested, ◌>>=◌, holds_or}
use Rattle.tt_code.specs.Settings.{Setting, body_offset}
use Rattle.tt_code.specs.Table.{Meaning, NoEntry, Plain, Pushes, Stack, Computes, Controls, effect_of}
use Rattle.tt_code.specs.declared.kinds.Control.TheVariants.{If, Else, Jump, JumpIfTrue, JumpIfFalse, Call, LoopCall, FunctionDefinition, EndFunction, InstructionDefinition}
use Rattle.tt_code.specs.declared.machine.Frame.{Frame}
use Rattle.tt_code.specs.declared.reason.Reason.TheVariants as reason
use Rattle.tt_abs.specs.declared.cells.Cell.{Cell}
use Rattle.tt_abs.specs.declared.cells.Cell.TheVariants.{Known, Unknown}
use Rattle.tt_abs.specs.declared.moves.Move.TheVariants.{NextTurn}
use Rattle.tt_abs.specs.declared.moves.Moves.{Moves}
use Rattle.tt_abs.specs.Cells.{Abstract}
use Rattle.tt_abs.specs.Moves.{next_by, nexts_of, ways_of}
use Rattle.tt_abs.specs.Transfers.{Next, one_way, known, leaves_cells, called_cell, is_running, enters_cells, loops_cells, returns_cells, does_cells, controlled_cells, performs_cells, outcome_on_cells}
use Rattle.tt_setting.specs.Settings.{instruction_of}
use Rattle.tt_abs.proofs.Places.{LeadTo, leads_after, leads_one, leads_within, does_leads}
use Rattle.tt_family.specs.Checks.{HasNextTurn}

module _ (s : Setting) (f : Frame) (fs : List Frame) (at : ℕ) where
  -- where these are the frames of the next turn, there is one
  abbrev CountsOn : List Frame → Type 0
  CountsOn gs = gs ≡ record f { turn = f.turn + 1 } ∷ fs → f.turn < f.count

  stays : CountsOn (f ∷ fs)
  stays e =
      let same : f ≡ record f { turn = f.turn + 1 } = cc in
      let turn : f.turn ≡ f.turn + 1 = ap (λ (x : Frame). x.turn) same in absurd (omega arith)

  deeper : (g : Frame) → CountsOn (g ∷ f ∷ fs)
  deeper g e = let long = ap length e in absurd (omega arith)

  behind : CountsOn fs
  behind e = let long = ap length e in absurd (omega arith)

  enters_on : (a : Abstract) (name : ℕ) (stack : List Cell) (turns : ℕ) → LeadTo CountsOn (enters_cells s (f ∷ fs) at a name stack turns)
  enters_on a name stack turns = go (nat_le (length stack) s.limits.stack) (is_running name (f ∷ fs))
    where
      go : (d v : Bool)
          → LeadTo CountsOn
          (holds_or d reason.Overflow
          >>= (λ deep. holds_or (not v) reason.Recursion
          >>= (λ fresh. Ok (one_way (record { body = name; call = at; turn = 1; count = turns } ∷ f ∷ fs) (body_offset name) (leaves_cells a stack [])))))
      go false v = tt
      go true true = tt
      go true false = leads_one CountsOn (record { body = name; call = at; turn = 1; count = turns } ∷ f ∷ fs) (body_offset name) (leaves_cells a stack []) (deeper (record { body = name; call = at; turn = 1; count = turns }))

  loops_on : (a : Abstract) (name : ℕ) (stack : List Cell) (k : ℤ) → LeadTo CountsOn (loops_cells s (f ∷ fs) at a name stack k)
  loops_on a name stack (pos zero) = leads_one CountsOn (f ∷ fs) (at + 1) (leaves_cells a stack []) stays
  loops_on a name stack (pos (suc n)) = enters_on a name stack (suc n)
  loops_on a name stack (negsuc n) = leads_one CountsOn (f ∷ fs) (at + 1) (leaves_cells a stack []) stays

  call_on : (a : Abstract) → LeadTo CountsOn (controlled_cells s (f ∷ fs) at a Call)
  call_on a =
      leads_after CountsOn (top a.stack) (λ t. called_cell s a.functions t.0 >>= (λ name. enters_cells s (f ∷ fs) at a name t.1 1))
      (λ t. leads_after CountsOn (called_cell s a.functions t.0) (λ name. enters_cells s (f ∷ fs) at a name t.1 1) (λ name. enters_on a name t.1 1))

  loop_call_on : (a : Abstract) → LeadTo CountsOn (controlled_cells s (f ∷ fs) at a LoopCall)
  loop_call_on a = go a.stack
    where
      counted : (name : ℕ) (us : List Cell) (u : Cell) → LeadTo CountsOn (known u >>= (λ count. loops_cells s (f ∷ fs) at a name us count))
      counted name us (Known k) = loops_on a name us k
      counted name us Unknown = tt

      go : (cs : List Cell) → LeadTo CountsOn (controlled_cells s (f ∷ fs) at (record a { stack = cs }) LoopCall)
      go [] = tt
      go (c ∷ []) = leads_after CountsOn (called_cell s a.functions c) (λ name. Err reason.Underflow) (λ name. tt)
      go (c ∷ u ∷ us) =
          leads_after CountsOn (called_cell s a.functions c) (λ name. known u >>= (λ count. loops_cells s (f ∷ fs) at a name us count)) (λ name. counted name us u)

  returns_on : (a : Abstract) → LeadTo CountsOn (returns_cells a (f ∷ fs))
  returns_on a = go (nat_lt f.turn f.count) refl
    where
      go : (b : Bool) → nat_lt f.turn f.count ≡ b
          → LeadTo CountsOn
          (if b then Ok (one_way (record f { turn = f.turn + 1 } ∷ fs) (body_offset f.body) (leaves_cells a a.stack [])) else Ok (one_way fs (f.call + 1) (leaves_cells a a.stack [])))
      go true e = leads_one CountsOn (record f { turn = f.turn + 1 } ∷ fs) (body_offset f.body) (leaves_cells a a.stack []) (λ same. ltb-true f.turn f.count e)
      go false e = leads_one CountsOn fs (f.call + 1) (leaves_cells a a.stack []) behind

  module _ (a : Abstract) where
    does_on : (w : Meaning) (rest : List ℕ) (next : ℕ) → LeadTo CountsOn (does_cells s (f ∷ fs) at a w rest next)
    does_on NoEntry rest next = tt
    does_on (Plain line) rest next = does_leads CountsOn s (f ∷ fs) at a stays (Plain line) refl rest next
    does_on (Pushes push) rest next = does_leads CountsOn s (f ∷ fs) at a stays (Pushes push) refl rest next
    does_on (Stack op) rest next = does_leads CountsOn s (f ∷ fs) at a stays (Stack op) refl rest next
    does_on (Computes op) rest next = does_leads CountsOn s (f ∷ fs) at a stays (Computes op) refl rest next
    does_on (Controls If) rest next = does_leads CountsOn s (f ∷ fs) at a stays (Controls If) refl rest next
    does_on (Controls Else) rest next = does_leads CountsOn s (f ∷ fs) at a stays (Controls Else) refl rest next
    does_on (Controls Jump) rest next = does_leads CountsOn s (f ∷ fs) at a stays (Controls Jump) refl rest next
    does_on (Controls JumpIfTrue) rest next = does_leads CountsOn s (f ∷ fs) at a stays (Controls JumpIfTrue) refl rest next
    does_on (Controls JumpIfFalse) rest next = does_leads CountsOn s (f ∷ fs) at a stays (Controls JumpIfFalse) refl rest next
    does_on (Controls Call) rest next = call_on a
    does_on (Controls LoopCall) rest next = loop_call_on a
    does_on (Controls FunctionDefinition) rest next = does_leads CountsOn s (f ∷ fs) at a stays (Controls FunctionDefinition) refl rest next
    does_on (Controls EndFunction) rest next = returns_on a
    does_on (Controls InstructionDefinition) rest next = tt

    performs_on : (i : Option Instruction) → LeadTo CountsOn (performs_cells s (f ∷ fs) at a i)
    performs_on None = tt
    performs_on (Some []) = tt
    performs_on (Some (code ∷ rest)) =
        leads_within CountsOn s (does_cells s (f ∷ fs) at a (effect_of code) rest (at + suc (length rest))) (does_on (effect_of code) rest (at + suc (length rest)))

    outcome_on : LeadTo CountsOn (outcome_on_cells s (f ∷ fs) at a)
    unfolding outcome_on_cells
    outcome_on = performs_on (instruction_of s (f ∷ fs) at)

-- where an instruction leads to the next turn, there is one
pub turn_left : (s : Setting) (fs : List Frame) (at : ℕ) (a b : Abstract) (ways : Moves) → outcome_on_cells s fs at a ≡ Ok (nexts_of fs ways b)
    → (i : ℕ) → slice_get (ways_of ways) i ≡ Some NextTurn → HasNextTurn fs
turn_left s fs at a b ways e i way f gs fs_is =
    let P : List Frame → Type 0 = λ x. outcome_on_cells s x at a ≡ Ok (nexts_of x ways b) in
    let ok : outcome_on_cells s (f ∷ gs) at a ≡ Ok (nexts_of (f ∷ gs) ways b) = subst P fs_is e in
    let R : Tested (List Next) → Type 0 = λ r. LeadTo (CountsOn s f gs at) r in
    let led : LeadTo (CountsOn s f gs at) (Ok (nexts_of (f ∷ gs) ways b)) = subst R ok (outcome_on s f gs at a) in
    let found : slice_get (nexts_of (f ∷ gs) ways b) i ≡ Some (next_by (f ∷ gs) b NextTurn) =
    slice_get-map (next_by (f ∷ gs) b) (ways_of ways) i ∙ ap (option_map (next_by (f ∷ gs) b)) way in
    led.1 i _ found refl
