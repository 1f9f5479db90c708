-- Which place is just after another. (Apple TrueType Reference Manual, "Instructions": the bytes of
-- a program are its instructions, one after the other.)
use Rattle.std.specs.Prelude.{◌≡◌, ℕ, ◌+◌, ◌<◌, Some, false, length}
use Rattle.tt_code.specs.Cut.{Instruction}
use Rattle.tt_code.specs.Settings.{Setting, is_main_end}
use Rattle.tt_abs.specs.StateFlow.{Place}
use Rattle.tt_setting.specs.Settings.{instruction_of}

-- the instruction at the place, which has at least one byte, ends at the offset
pub record EndsAt (s : Setting) (p : Place) (end : ℕ) : Type 0 where
  pub instruction : Instruction
  pub found : instruction_of s p.0 p.1 ≡ Some instruction
  pub end_is : end ≡ p.1 + length instruction
  pub forward : p.1 < end

-- the instruction at the first place ends at the second, in the same calls, and that isn't the main
-- program's end
pub record Precedes (s : Setting) (p q : Place) : Type 0 where
  pub calls : q.0 ≡ p.0
  pub ends : EndsAt s p q.1
  pub inside : is_main_end s q.0 q.1 ≡ false
