-- The part of a text that is rendered at a time. (Representation of printing: no public clause
-- cites it.)
use Rattle.std.specs.Prelude.{◌≡◌, ℕ, ◌-◌, List, ◌++◌, length, take, drop}

-- how many bytes are still to be skipped, and the bytes that were kept after those
pub record Part : Type 0 where
  pub skip : ℕ
  pub kept : List ℕ

-- the part takes a further piece of the text, and keeps no more than `room` bytes
pub record TakesPiece (room : ℕ) (old : Part) (piece : List ℕ) (new : Part) : Type 0 where
  pub skipped : new.skip ≡ old.skip - length piece
  pub kept : new.kept ≡ take room (old.kept ++ drop old.skip piece)
