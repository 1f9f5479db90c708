-- The instructions that lead elsewhere, and functions. (Apple TrueType Reference Manual, "Managing
-- the flow of control" and "Defining and using functions and instructions".)
use Rattle.std.specs.Prelude.{ℕ, zero, suc, ◌+◌, ℤ, pos, negsuc, ◌+ℤ◌, List, [], ◌∷◌, Option, None, Some, Ok, Err, Bool, true, false, not, length, nat_eq, nat_lt, nat_le, if◌then◌else◌}
use Rattle.tt_code.specs.Refusals.{Tested, ◌>>=◌, holds_or, some_or}
use Rattle.tt_code.specs.Structure.{after_if, after_else, after_fdef}
use Rattle.tt_code.specs.Settings.{Setting, Kind, FontProgram, CvtProgram, GlyphProgram, body_offset, body_name, program_of, is_target}
use Rattle.tt_code.specs.States.{Machine, Outcome, leaves, at_offset, is_below, is_true}
use Rattle.tt_code.specs.Operands.{top}
use Rattle.tt_code.specs.Changes.{natural}
use Rattle.tt_code.specs.declared.machine.Frame.{Frame}
use Rattle.tt_code.specs.declared.reason.Reason.TheVariants as reason
use Rattle.tt_code.specs.declared.kinds.Control.{Control}
use Rattle.tt_code.specs.declared.kinds.Control.TheVariants.{If, Else, Jump, JumpIfTrue, JumpIfFalse, Call, LoopCall, FunctionDefinition, EndFunction, InstructionDefinition}

-- the machine at this offset, with this stack left
abbrev pub goes_to : Machine → List ℤ → ℕ → Outcome
goes_to m stack offset = leaves (at_offset m offset) stack []

-- A jump counts from its own offset, and where it leads isn't limited to 32 bits. The depth is
-- tested before the target (own).
abbrev pub jumps : Setting → Machine → ℤ → List ℤ → Tested Outcome
jumps s m by stack = do
  deep ← holds_or (nat_le (length stack) s.limits.stack) reason.Overflow
  ok ← holds_or (is_target s m.frames (pos m.offset +ℤ by)) reason.Target
  Ok (goes_to m stack (natural (pos m.offset +ℤ by)))

-- Where the condition doesn't hold, the jump's distance is taken but isn't looked at (own).
abbrev pub jumps_if : Setting → Machine → (ℤ → Bool) → Tested Outcome
jumps_if s m holds = do
  e ← top m.stack
  by ← top e.1
  if holds e.0 then jumps s m by.0 by.1 else Ok (goes_to m by.1 (m.offset + 1))

-- Functions.

-- the body of a function number, in a list of numbers and bodies
abbrev pub body_named : List (ℕ × ℕ) → ℕ → Option ℕ
body_named [] n = None
body_named (f ∷ fs) n = if nat_eq f.0 n then Some f.1 else body_named fs n

-- the body of the function that is called by a number: the number has to be below maxFunctionDefs,
-- and the function defined
abbrev pub called : Setting → Machine → ℤ → Tested ℕ
called s m (negsuc n) = Err reason.Function
called s m (pos n) =
    if nat_lt n s.limits.functions
    then some_or (body_named m.functions n) reason.Function
    else Err reason.Function

-- a call of a body for a number of turns; for 0 or fewer nothing is called (own)
abbrev pub enters : Machine → ℕ → List ℤ → ℤ → Outcome
enters m name stack (pos (suc n)) =
    goes_to (record m {
      frames = record { body = name; call = m.offset; turn = 1; count = suc n } ∷ m.frames;
    }) stack (body_offset name)
enters m name stack (pos zero) = goes_to m stack (m.offset + 1)
enters m name stack (negsuc n) = goes_to m stack (m.offset + 1)

-- at the end of a body: to its next turn, or to just after the call
abbrev pub returns : Machine → List Frame → Tested Outcome
returns m [] = Err reason.Target
returns m (f ∷ fs) =
    if nat_lt f.turn f.count
    then Ok (goes_to (record m { frames = record f { turn = f.turn + 1 } ∷ fs }) m.stack
    (body_offset f.body))
    else Ok (goes_to (record m { frames = fs }) m.stack (f.call + 1))

-- Whether a program of this kind may define functions: the font program and the CVT program may
-- (own: a glyph program may not).
abbrev pub may_define : Kind → Bool
may_define FontProgram = true
may_define CvtProgram = true
may_define (GlyphProgram points contours) = false

-- what an instruction does that leads elsewhere, or defines a function
abbrev pub controlled : Setting → Machine → Control → Tested Outcome
controlled s m If = do
  e ← top m.stack
  after ← if is_true e.0
      then Ok (m.offset + 1)
      else some_or (after_if (program_of s m.frames) m.offset) reason.Target
  Ok (goes_to m e.1 after)
controlled s m Else = do
  after ← some_or (after_else (program_of s m.frames) m.offset) reason.Target
  Ok (goes_to m m.stack after)
controlled s m Jump = do
  by ← top m.stack
  jumps s m by.0 by.1
controlled s m JumpIfTrue = jumps_if s m is_true
controlled s m JumpIfFalse = jumps_if s m (λ e. not (is_true e))
controlled s m Call = do
  n ← top m.stack
  name ← called s m n.0
  Ok (enters m name n.1 (pos 1))
controlled s m LoopCall = do
  n ← top m.stack
  name ← called s m n.0
  count ← top n.1
  Ok (enters m name count.1 count.0)
controlled s m FunctionDefinition = do
  may ← holds_or (may_define s.kind) reason.Definition
  n ← top m.stack
  ok ← holds_or (is_below n.0 s.limits.functions) reason.Function
  after ← some_or (after_fdef (program_of s m.frames) m.offset) reason.Target
  Ok (goes_to (record m {
    functions = (natural n.0, body_name s.kind (m.offset + 1)) ∷ m.functions;
  }) n.1 after)
controlled s m EndFunction = returns m m.frames
controlled s m InstructionDefinition = Err reason.InstructionDefinition
