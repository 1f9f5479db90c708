-- What a cell of a symbolic state is worth: an affine expression of one symbol, whose value a
-- valuation gives.
use Rattle.std.specs.Prelude.{◌≡◌, ℕ, ℤ, ◌+ℤ◌, ◌*ℤ◌, ◌≤ℤ◌, List, Option, Some, slice_get}
use Rattle.tt_symbolic_state.specs.declared.cell.Cell.{Cell}
use Rattle.tt_symbolic_state.specs.declared.cell.Range.{Range}

-- a number for each symbol
abbrev pub Valuation : Type 0
Valuation = ℕ → ℤ

-- the number that a cell is
unfoldable pub value : Valuation → Cell → ℤ
value v c = c.factor *ℤ v c.symbol +ℤ c.offset

-- the number is in the range
abbrev pub IsWithin : Range → ℤ → Type 0
IsWithin r z = (r.low ≤ℤ z) × (z ≤ℤ r.high)

-- each symbol's number is in its range
pub record Fits (ranges : List Range) (v : Valuation) : Type 0 where
  pub each : (i : ℕ) (r : Range) → slice_get ranges i ≡ Some r → IsWithin r (v i)

-- a cell of one state for each symbol of another: what is assigned has the value of its cell
pub record Assigns (assigned : List (Option Cell)) (v w : Valuation) : Type 0 where
  pub each : (i : ℕ) (c : Cell) → slice_get assigned i ≡ Some (Some c) → w i ≡ value v c
