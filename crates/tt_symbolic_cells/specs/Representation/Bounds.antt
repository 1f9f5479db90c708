-- Ranges of results, from bounds of what they are computed from.
use Rattle.std.specs.Prelude.{◌≡◌, ℤ, ◌+ℤ◌, ◌-ℤ◌, ◌*ℤ◌, ◌≤ℤ◌, ◌<ℤ◌, List, Bool, true, false}
use Rattle.tt_code.specs.States.{IsNumber}
use Rattle.tt_symbolic_state.specs.declared.cell.Cell.{Cell}
use Rattle.tt_symbolic_state.specs.declared.cell.Range.{Range}
use Rattle.tt_symbolic_state.specs.Values.{Fits, IsWithin, Valuation, value}
use Rattle.tt_symbolic_cells.specs.declared.answer.Answer.{Answer}
use Rattle.tt_symbolic_cells.specs.Answers.{Answers}

-- a number between the bounds is in the range, where it is one of the machine; and so is any number
-- that is left in its place, where it is none
pub record IsRangeOf (low high : ℤ) (range : Range) : Type 0 where
  pub within : (x z : ℤ) → low ≤ℤ x → x ≤ℤ high → (IsNumber x → z ≡ x) → IsNumber z
      → IsWithin range z

-- the bounds are those of what is computed from the numbers of two cells
pub record AreBounds (of : ℤ → ℤ → ℤ) (a b : Cell) (ranges : List Range) (bounds : ℤ × ℤ) : Type 0
  where
    pub between : (v : Valuation) → Fits ranges v
        → (bounds.0 ≤ℤ of (value v a) (value v b)) × (of (value v a) (value v b) ≤ℤ bounds.1)

-- the answer tells the product of two cells, where it is a number of the machine
abbrev pub AnswersProduct : Cell → Cell → List Range → Answer → Type 0
AnswersProduct a b ranges answer =
    Answers (λ v z. IsNumber (value v a *ℤ value v b) → z ≡ value v a *ℤ value v b) ranges answer

-- the number is the quotient of x by the divisor, or a number beside it, by less than 1
pub record IsNear (x divisor z : ℤ) : Type 0 where
  pub above : (x -ℤ divisor) <ℤ (z *ℤ divisor)
  pub below : (z *ℤ divisor) <ℤ (x +ℤ divisor)

-- the first number isn't less than the second, or the second isn't less than the first
abbrev pub IsOrdered : Bool → ℤ → ℤ → Type 0
IsOrdered true a b = b ≤ℤ a
IsOrdered false a b = a ≤ℤ b
