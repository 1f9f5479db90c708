-- What is told of a number that an instruction computes.
use Rattle.std.specs.Prelude.{◌≡◌, ℤ, List, Bool, true, false, not, ◌&&◌, ◌||◌, ◌+ℤ◌, ◌-ℤ◌, neg_ℤ, int_lt, int_le}
use Rattle.std.specs.Int.{int_max, int_min}
use Rattle.tt_code.specs.States.{Value, IsNumber, is_true}
use Rattle.tt_code.specs.Computing.{exact, truth, absolute, equal}
use Rattle.tt_code.specs.declared.kinds.Arithmetic.{Arithmetic}
use Rattle.tt_code.specs.declared.kinds.Arithmetic.TheVariants.{Add, Sub, Abs, Neg, Lt, LtEq, Gt, GtEq, Eq, Neq, And, Or, Not}
use Rattle.tt_code.specs.Runs.{value as number_of}
use Rattle.tt_symbolic_state.specs.declared.cell.Cell.{Cell}
use Rattle.tt_symbolic_state.specs.declared.cell.Range.{Range}
use Rattle.tt_symbolic_state.specs.Values.{Fits, IsWithin, Valuation, value}
use Rattle.tt_symbolic_state.specs.CvtMachine.{IsCeiling, IsFloor, IsProduct, IsQuotient}
use Rattle.tt_symbolic_cells.specs.declared.answer.Answer.{Answer}
use Rattle.tt_symbolic_cells.specs.declared.answer.Answer.TheVariants.{Exactly, Within}
use Rattle.tt_symbolic_cells.specs.declared.exact.Exact.{Exact}
use Rattle.tt_symbolic_cells.specs.declared.exact.Exact.TheVariants as exact_op

-- the number is what the answer tells
abbrev pub IsAnswer : Answer → Valuation → ℤ → Type 0
IsAnswer (Exactly cell) v z = z ≡ value v cell
IsAnswer (Within range) v z = IsWithin range z

-- the answer tells of each of these numbers, if it is one of the machine
pub record Answers (These : Valuation → ℤ → Type 0) (ranges : List Range) (answer : Answer) : Type 0
  where
    pub answers : (v : Valuation) → Fits ranges v → (z : ℤ) → IsNumber z → These v z
        → IsAnswer answer v z

-- what an arithmetic instruction makes of the number below the top and the top
abbrev pub result_of : Arithmetic → ℤ → ℤ → Value
result_of Add a b = exact (a +ℤ b)
result_of Sub a b = exact (a -ℤ b)
result_of Abs a b = exact (absolute b)
result_of Neg a b = exact (neg_ℤ b)
result_of Lt a b = truth (int_lt a b)
result_of LtEq a b = truth (int_le a b)
result_of Gt a b = truth (int_lt b a)
result_of GtEq a b = truth (int_le b a)
result_of Eq a b = truth (equal a b)
result_of Neq a b = truth (not (equal a b))
result_of And a b = truth (is_true a && is_true b)
result_of Or a b = truth (is_true a || is_true b)
result_of Not a b = truth (not (is_true b))

-- whether it takes the top only
abbrev pub takes_one : Arithmetic → Bool
takes_one Abs = true
takes_one Neg = true
takes_one Not = true
takes_one _ = false

-- the number is what such an instruction may push
pub record IsResult (op : Arithmetic) (a b z : ℤ) : Type 0 where
  pub choice : ℤ
  pub is_number : IsNumber choice
  pub result : z ≡ number_of (result_of op a b) choice

-- the answer tells what the instruction makes of these cells
abbrev pub AnswersResult : Arithmetic → Cell → Cell → List Range → Answer → Type 0
AnswersResult op a b ranges answer =
    Answers (λ v z. IsResult op (value v a) (value v b) z) ranges answer

-- the number is what it pushes, by the number below the top and the top
abbrev pub IsExact : Exact → ℤ → ℤ → ℤ → Type 0
IsExact exact_op.Greatest a b z = z ≡ int_max a b
IsExact exact_op.Least a b z = z ≡ int_min a b
IsExact exact_op.Product a b z = IsProduct a b z
IsExact exact_op.Quotient a b z = IsQuotient a b z
IsExact exact_op.Floor a b z = IsFloor b z
IsExact exact_op.Ceiling a b z = (c : ℤ) → IsCeiling b c → IsNumber c → z ≡ c

-- the answer tells what the instruction makes of these cells
abbrev pub AnswersExact : Exact → Cell → Cell → List Range → Answer → Type 0
AnswersExact op a b ranges answer =
    Answers (λ v z. IsExact op (value v a) (value v b) z) ranges answer
