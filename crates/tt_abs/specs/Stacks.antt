-- Stacks of cells, top first, and their order.
use Rattle.std.specs.Prelude.{◌≡◌, ℕ, ◌+◌, ◌≤◌, List, [], ◌∷◌, Option, None, Some, length, reverse, slice_index_or, take}
use Rattle.tt_abs.specs.declared.cells.Cell.{Cell}
use Rattle.tt_abs.specs.declared.cells.Cell.TheVariants.{Unknown}
use Rattle.tt_abs.specs.Orders.{Order, IsLeastAbove}
use Rattle.tt_abs.specs.CellOrders.{CellInRange, CellBelow, known_cells, cell_order}

-- the first element, if there is one
abbrev pub first : {A : Type 0} → List A → Option A
first [] = None
first (x ∷ xs) = Some x

-- the cell at a position, and unknown past the end
abbrev pub cell_at : List Cell → ℕ → Cell
cell_at cells k = slice_index_or cells k Unknown

-- both have `count` cells at the bottom, and the same ones
pub record ShareBottom (a b : List Cell) (count : ℕ) : Type 0 where
  pub enough : count ≤ length a
  pub enough_there : count ≤ length b
  pub same : take count (reverse a) ≡ take count (reverse b)

-- each known number of the stack is a number of the machine
abbrev pub StackInRange : List Cell → Type 0
StackInRange cells = (k : ℕ) → CellInRange (cell_at cells k)

-- both have the same depth, and each cell is below the one at the same position of the other
pub record StackBelow (a b : List Cell) : Type 0 where
  pub depth : length a ≡ length b
  pub cells : (k : ℕ) → CellBelow (cell_at a k) (cell_at b k)

-- both have the same depth
abbrev pub SameLength : List Cell → List Cell → Type 0
SameLength a b = length a ≡ length b

-- c is the least cell above a and b
abbrev pub IsLeastCell : Cell → Cell → Cell → Type 0
IsLeastCell a b c = IsLeastAbove cell_order a b c

-- how many cells are known
abbrev pub known_count : List Cell → ℕ
known_count [] = 0
known_count (c ∷ cells) = known_cells c + known_count cells

-- the order of stacks
abbrev pub stack_order : Order (List Cell)
stack_order =
    record {
      InRange = StackInRange;
      Below = StackBelow;
      SameDepth = SameLength;
      left = known_count;
    }
