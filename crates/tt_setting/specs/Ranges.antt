-- Settings whose programs are bytes, and short.
use Rattle.std.specs.Prelude.{ℕ, ◌<◌, ◌^◌, List}
use Rattle.std.specs.List.{AllByRecursion}
use Rattle.tt_code.specs.Cut.{size}
use Rattle.tt_code.specs.Settings.{Setting}

-- each byte is below 256
abbrev pub AreBytes : List ℕ → Type 0
AreBytes bytes = AllByRecursion (λ b. b < 256) bytes

-- each program consists of bytes, and maxStackElements is a number of 16 bits
pub record IsSettingInRange (s : Setting) : Type 0 where
  pub depth : s.limits.stack < 2 ^ 16
  pub main : AllByRecursion AreBytes s.main
  pub font : AllByRecursion AreBytes s.font
  pub prep : AllByRecursion AreBytes s.prep

-- each program has fewer than 2^31 bytes
pub record AreProgramsShort (s : Setting) : Type 0 where
  pub main : size s.main < 2 ^ 31
  pub font : size s.font < 2 ^ 31
  pub prep : size s.prep < 2 ^ 31
