-- What a loop that fills a buffer keeps.
use Rattle.std.proofs.Common.{◌≡◌, ℕ, ◌≤◌, List, Option, length, take}
use Rattle.std.specs.Io.KnownBytes.{Consumes}

pub record IsFilled (old new : Option (List ℕ)) (before now : ℕ) (buf : List ℕ) (at : ℕ) : Type 0 where
  pub within : at ≤ length buf
  pub bytes : Consumes old new (take at buf)
  pub failures : now ≡ before
