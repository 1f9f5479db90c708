-- The text of a stack that is kept for the next one. Only private contracts of reading and of
-- writing need it.
use Rattle.std.specs.Prelude.{◌≡◌, ℕ, zero, suc, ◌≤◌, List, [], ◌++◌, length, slice_index, take}
use Rattle.std.specs.List.{flat_map}
use Rattle.tt_abs.specs.declared.cells.Cell.{Cell}
use Rattle.tt_cert.specs.Text.{cell_text}
use Rattle.tt_cert.specs.declared.stack_text.StackText.{StackText}

-- how many bytes the texts of this many of the lowest cells have, where `ends` lists at which byte
-- the text of each cell ends
abbrev pub end_of : List ℕ → ℕ → ℕ
end_of ends zero = 0
end_of ends (suc k) = slice_index ends k

-- the text is the texts of the cells, one after the other, and `ends` lists at which byte each of
-- them ends
pub record AreCellsKept (text ends : List ℕ) (cells : List Cell) : Type 0 where
  pub text_is : text ≡ flat_map cell_text cells
  pub long : length ends ≡ length cells
  pub end_is : (k : ℕ) → k ≤ length cells
      → end_of ends k ≡ length (flat_map cell_text (take k cells))

-- this is the text of these cells
abbrev pub IsStackText : StackText → List Cell → Type 0
IsStackText t cells = AreCellsKept t.cells.items t.ends.items cells

-- more cells come after others, and after a text of `width` bytes these bytes, which are their texts
abbrev pub KeepsMore : ℕ → List ℕ → List ℕ → List ℕ → List Cell → List Cell → Type 0
KeepsMore width bytes ends now_ends cells now = (text : List ℕ) (below : List Cell)
    → length text ≡ width → AreCellsKept text ends (below ++ cells)
    → AreCellsKept (text ++ bytes) now_ends (below ++ now)

-- the same of cells that are cut from the front of bytes, whatever was kept before
abbrev pub KeepsCut : ℕ → List ℕ → List ℕ → List Cell → Type 0
KeepsCut width bytes ends cells =
    (before : List ℕ) → KeepsMore width bytes before (before ++ ends) [] cells

-- no text of a cell ends after this text
pub record AreWithin (text ends : List ℕ) : Type 0 where
  pub within : (k : ℕ) → k ≤ length ends → end_of ends k ≤ length text
