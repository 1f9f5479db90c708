-- What one instruction does to the machine, and its faults, steps and runs. (Apple TrueType
-- Reference Manual, "The TrueType interpreter".)
use Rattle.std.specs.Prelude.{◌≡◌, ℕ, suc, ◌+◌, ℤ, List, [], ◌∷◌, Option, None, Some, Ok, Err, Bool, false, length, nat_le, if◌then◌else◌}
use Rattle.tt_code.specs.Refusals.{Tested, ◌>>=◌, holds_or}
use Rattle.tt_code.specs.Table.{Meaning, NoEntry, Plain, Pushes, Stack, Computes, Controls, effect_of}
use Rattle.tt_code.specs.Cut.{Instruction, instruction_at}
use Rattle.tt_code.specs.Settings.{Setting, program_of, starts_in_body, is_main_end}
use Rattle.tt_code.specs.States.{Machine, Value, Exactly, Anything, Outcome, IsNumber, at_offset, default_graphics}
use Rattle.tt_code.specs.Changes.{plain}
use Rattle.tt_code.specs.Computing.{pushed, shuffled, computed}
use Rattle.tt_code.specs.Control.{controlled}
use Rattle.tt_code.specs.declared.reason.Reason.{Reason}
use Rattle.tt_code.specs.declared.reason.Reason.TheVariants as reason

-- an outcome that goes on after the instruction
abbrev pub goes_on : ℕ → Tested Outcome → Tested Outcome
goes_on next outcome = do
  o ← outcome
  Ok (record o { after = at_offset o.after next })

-- what an instruction does, by what its code stands for, the bytes after its code, and the offset
-- after the instruction
abbrev pub does : Setting → Machine → Meaning → List ℕ → ℕ → Tested Outcome
does s m NoEntry rest next = Err reason.Opcode
does s m (Plain line) rest next = goes_on next (plain s m line)
does s m (Pushes push) rest next = goes_on next (Ok (pushed push m rest))
does s m (Stack op) rest next = goes_on next (shuffled op m)
does s m (Computes op) rest next = goes_on next (computed op m)
does s m (Controls c) rest next = controlled s m c

-- the depth afterwards, tested for every instruction, also for one that pushes nothing
abbrev pub within_depth : Setting → Outcome → Tested Outcome
within_depth s o = do
  ok ← holds_or (nat_le (length o.after.stack + length o.pushes) s.limits.stack) reason.Overflow
  Ok o

-- what happens at an instruction, if there is one, and the test of the depth after it
abbrev pub performs : Setting → Machine → Option Instruction → Tested Outcome
performs s m None = Err reason.Target
performs s m (Some []) = Err reason.Target
performs s m (Some (code ∷ rest)) =
    does s m (effect_of code) rest (m.offset + suc (length rest)) >>= within_depth s

-- the instruction at the machine's offset, if one of its body starts there
abbrev pub fetched : Setting → Machine → Option Instruction
fetched s m =
    if starts_in_body s m.frames m.offset
    then instruction_at (program_of s m.frames) m.offset
    else None

-- what happens to a machine that isn't at the main program's end
unfoldable pub outcome : Setting → Machine → Tested Outcome
outcome s m = performs s m (fetched s m)

-- whether the machine is at the main program's end
abbrev pub is_at_end : Setting → Machine → Bool
is_at_end s m = is_main_end s m.frames m.offset

-- the machine faults, and this is the reason of the first test that fails
pub record Faults (s : Setting) (m : Machine) (r : Reason) : Type 0 where
  pub running : is_at_end s m ≡ false
  pub fails : outcome s m ≡ Err r

-- What is measured, read from the control values, or leaves the range is any number: a choice for
-- each element pushed.
abbrev pub Choices : Type 0
Choices = ℕ → ℤ

-- the number that a value is, by a choice
abbrev pub value : Value → ℤ → ℤ
value (Exactly z) choice = z
value Anything choice = choice

-- a stack with values pushed on it, the first one first
abbrev pub pushed_on : List Value → Choices → List ℤ → List ℤ
pushed_on [] choices stack = stack
pushed_on (v ∷ vs) choices stack = pushed_on vs (λ i. choices (suc i)) (value v (choices 0) ∷ stack)

-- the machine that an outcome leaves by these choices
abbrev pub left_by : Outcome → Choices → Machine
left_by o choices = record o.after { stack = pushed_on o.pushes choices o.after.stack }

-- one step: the machine doesn't fault, and becomes one that its instruction leaves
pub record Steps (s : Setting) (old new : Machine) : Type 0 where
  pub running : is_at_end s old ≡ false
  pub result : Outcome
  pub does_it : outcome s old ≡ Ok result
  pub choices : Choices
  pub are_numbers : (i : ℕ) → IsNumber (choices i)
  pub new_is : new ≡ left_by result choices

-- runs of any number of steps
pub data Runs (s : Setting) : Machine → Machine → Type 0 where
  here : (m : Machine) → Runs s m m
  step : (a b c : Machine) → Steps s a b → Runs s b c → Runs s a c

-- Where programs start: at their first byte, with no frames, the empty stack and the default
-- graphics state. Which functions are defined then is left open here. (Own: the storage area holds
-- any numbers, so that nothing in it is known from an earlier program.)
pub record IsFresh (m : Machine) : Type 0 where
  pub no_frames : m.frames ≡ []
  pub at_first_byte : m.offset ≡ 0
  pub empty_stack : m.stack ≡ []
  pub default : m.registers.graphics ≡ default_graphics
  pub stored : (i : ℕ) → IsNumber (m.registers.storage i)

-- no run from any of these machines reaches a fault
abbrev pub NeverFaults : Setting → (Machine → Type 0) → Type 0
NeverFaults s Starts = (m n : Machine) (r : Reason) → Starts m → Runs s m n → Faults s n r → ⊥
