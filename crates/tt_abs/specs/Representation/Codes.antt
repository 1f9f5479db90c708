-- The numbers in which the stack keeps its cells. (Representation: no public clause cites them
-- except through the stack's own view.)
use Rattle.std.specs.Prelude.{◌≢◌, ℕ, ◌<◌, ◌^◌, nat_eq, if◌then◌else◌, List, ◌++◌, length, map, slice_index}
use Rattle.std.specs.Int.{cast_signed, w16}
use Rattle.tt_abs.specs.declared.cells.Cell.{Cell}
use Rattle.tt_abs.specs.declared.cells.Cell.TheVariants.{Known, Unknown}
use Rattle.tt_abs.specs.Stacks.{IsLeastCell}

-- the cell of a code, a number of 16 bits in two's complement: unknown for the lowest one, -32,768,
-- and each other number for itself
abbrev pub cell_of_code : ℕ → Cell
cell_of_code n = if nat_eq n 32768 then Unknown else Known (cast_signed w16 n)

-- the cell has no code
abbrev pub HasNoCode : Cell → Type 0
HasNoCode cell = (code : ℕ) → code < 2 ^ 16 → cell_of_code code ≢ cell

-- each of the new codes is that of the least cell above those of the two codes at its position
abbrev pub AreLeastCodes : List ℕ → List ℕ → List ℕ → Type 0
AreLeastCodes mine theirs new =
    (k : ℕ) → k < length mine
    → IsLeastCell (cell_of_code (slice_index mine k)) (cell_of_code (slice_index theirs k))
    (cell_of_code (slice_index new k))

-- the cells of codes
abbrev pub cells_of : List ℕ → List Cell
cells_of codes = map cell_of_code codes

-- the cells that a stack keeps, the bottom first: cells as they are, and those of the codes above
-- them
abbrev pub kept_cells : List Cell → List ℕ → List Cell
kept_cells wide codes = wide ++ cells_of codes
