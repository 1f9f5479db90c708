-- What a loop that writes bytes keeps.
use Rattle.std.proofs.Common.{◌≡◌, ℕ, ◌≤◌, List, Option, length, take}
use Rattle.std.specs.Prelude.{IfSome}
use Rattle.std.specs.Io.KnownBytes.{Appends, Consumes}
use Rattle.tt_stream.specs.Streams.{AppendsOnly}

pub record IsWritten (old new : Option (List ℕ)) (before now : ℕ) (bytes : List ℕ) (at : ℕ) : Type 0 where
  pub within : at ≤ length bytes
  pub written : Appends old new (take at bytes)
  pub failures : now ≡ before

-- what a loop that prints a text keeps, where the text is known
pub record IsPrinted (text old new : Option (List ℕ)) (before now : ℕ) (skip : ℕ) : Type 0 where
  pub written : IfSome text (λ t. Appends old new (take skip t))
  pub kept : AppendsOnly old new
  pub failures : now ≡ before

-- what reading to the end keeps
pub record IsRead (old new : Option (List ℕ)) (before now : ℕ) (bytes : List ℕ) : Type 0 where
  pub consumed : Consumes old new bytes
  pub failures : now ≡ before
