-- A jump's target, as the code has it.
use Rattle.std.specs.Prelude.{ℤ, pos, negsuc, ◌≤ℤ◌}
use Rattle.std.specs.Int.{FitsUnsignedBits}
use Rattle.std.proofs.Common.{◌≡◌, ℕ, List, refl, rules, false}
use Rattle.tt_code.specs.Settings.{Setting, is_target}
use Rattle.tt_code.specs.declared.machine.Frame.{Frame}

natural_fits : (n : ℕ) → pos n ≤ℤ pos 4294967295 → FitsUnsignedBits 32 (pos n)
natural_fits n h = search rules

-- a target below 0 isn't one
pub negative_target : (s : Setting) (fs : List Frame) (z : ℤ) → (FitsUnsignedBits 32 z → ⊥) → z ≤ℤ pos 4294967295 → false ≡ is_target s fs z
negative_target s fs (pos n) h small = absurd (h (natural_fits n small))
negative_target s fs (negsuc n) h small = refl
