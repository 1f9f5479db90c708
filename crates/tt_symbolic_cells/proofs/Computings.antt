-- Results of arithmetic and logical instructions on cells.
use Rattle.std.proofs.Common.{◌≡◌, ℕ, ℤ, pos, negsuc, ◌+ℤ◌, ◌-ℤ◌, ◌≤ℤ◌, List, Bool, true, false, nat_lt, refl, ◌∙◌, ap, arith, ◌<◌, ◌^◌}
use Rattle.std.specs.Prelude.{neg_ℤ}
use Rattle.std.proofs.lemmas.Int.{ints}
use Rattle.std.proofs.lemmas.Bool.{ltb-false, ltb-true}
use Rattle.tt_code.specs.States.{Value, Exactly, IsNumber, is_number}
use Rattle.tt_code.specs.Computing.{absolute, exact}
use Rattle.tt_code.specs.Runs.{value as number_of}
use Rattle.tt_code.specs.declared.kinds.Arithmetic.{Arithmetic}
use Rattle.tt_code.specs.declared.kinds.Arithmetic.TheVariants.{Add, Sub, Abs, Neg}
use Rattle.tt_symbolic_state.specs.declared.cell.Cell.{Cell}
use Rattle.tt_symbolic_state.specs.declared.cell.Range.{Range}
use Rattle.tt_symbolic_state.specs.Values.{Fits, Valuation, value}
use Rattle.tt_symbolic_cells.specs.declared.answer.Answer.TheVariants.{Within}
use Rattle.tt_symbolic_cells.specs.declared.answer.Answer.TheVariants as answer
use Rattle.tt_symbolic_cells.specs.Representation.Bounds.{AreBounds, IsRangeOf}
use Rattle.tt_symbolic_cells.specs.Answers.{AnswersResult, result_of}

-- what is tested to be a number of the machine is one
pub number_from : (z : ℤ) → is_number z ≡ true → IsNumber z
number_from (pos n) h = record { sfits = ltb-true n (2 ^ 31) h }
number_from (negsuc n) h = record { sfits = ltb-true n (2 ^ 31) h }

lt_true : (a b : ℕ) → a < b → nat_lt a b ≡ true
lt_true a b h = go (nat_lt a b) refl
  where
    go : (x : Bool) → nat_lt a b ≡ x → x ≡ true
    go true e = refl
    go false e = let w = ltb-false a b e in absurd (omega arith)

number_to : (z : ℤ) → IsNumber z → is_number z ≡ true
number_to (pos n) h = lt_true n (2 ^ 31) (omega (arith, ints))
number_to (negsuc n) h = lt_true n (2 ^ 31) (omega (arith, ints))

exact_is : (x choice : ℤ) → IsNumber x → number_of (exact x) choice ≡ x
exact_is x choice n = let e = number_to x n in rw e refl

pub neg_is : (x y z : ℤ) → y ≡ z -ℤ x → z ≡ pos 0 → neg_ℤ x ≡ y
neg_is x y z e f = omega (arith, ints)

pub absolute_above : (x : ℤ) → pos 0 ≤ℤ absolute x
absolute_above (pos n) = omega (arith, ints)
absolute_above (negsuc n) = omega (arith, ints)

-- results as ranges

abbrev BIT : Range
BIT = record { low = pos 0; high = pos 1 }

pub exact_result : (op : Arithmetic) (a b cell : Cell) (ranges : List Range) → ((v : Valuation) → Fits ranges v → result_of op (value v a) (value v b) ≡ Exactly (value v cell)) → AnswersResult op a b ranges (answer.Exactly cell)
exact_result op a b cell ranges h = record { answers = λ v fits z n r. r.result ∙ ap (λ (x : Value). number_of x r.choice) (h v fits) }

module _ (a b : Cell) (ranges : List Range) (low high : ℤ) (r : Range) where
  pub sum_within : AreBounds (λ x y. x +ℤ y) a b ranges (low, high) → IsRangeOf low high r → AnswersResult Add a b ranges (Within r)
  sum_within bounds range = record { answers = λ v fits z n is. let w = bounds.between v fits in range.within (value v a +ℤ value v b) z w.0 w.1 (λ number. is.result ∙ exact_is (value v a +ℤ value v b) is.choice number) n }

  pub difference_within : AreBounds (λ x y. x -ℤ y) a b ranges (low, high) → IsRangeOf low high r → AnswersResult Sub a b ranges (Within r)
  difference_within bounds range = record { answers = λ v fits z n is. let w = bounds.between v fits in range.within (value v a -ℤ value v b) z w.0 w.1 (λ number. is.result ∙ exact_is (value v a -ℤ value v b) is.choice number) n }

  pub negative_within : ((v : Valuation) → value v a ≡ pos 0) → AreBounds (λ x y. x -ℤ y) a b ranges (low, high) → IsRangeOf low high r → AnswersResult Neg b b ranges (Within r)
  negative_within none bounds range = record {
    answers = λ v fits z n is.
        let w = bounds.between v fits in
        let e : neg_ℤ (value v b) ≡ value v a -ℤ value v b = neg_is (value v b) (value v a -ℤ value v b) (value v a) refl (none v) in
        range.within (value v a -ℤ value v b) z w.0 w.1 (λ number. is.result ∙ ap (λ (x : ℤ). number_of (exact x) is.choice) e ∙ exact_is (value v a -ℤ value v b) is.choice number) n;
  }

pub magnitude_within : (cell : Cell) (ranges : List Range) (low high most : ℤ) (r : Range) → ((v : Valuation) → Fits ranges v → (low ≤ℤ value v cell) × (value v cell ≤ℤ high)) → ((x : ℤ) → low ≤ℤ x → x ≤ℤ high → absolute x ≤ℤ most) → IsRangeOf (pos 0) most r → AnswersResult Abs cell cell ranges (Within r)
magnitude_within cell ranges low high most r bounds below range = record {
  answers = λ v fits z n is. let w = bounds v fits in range.within (absolute (value v cell)) z (absolute_above (value v cell)) (below (value v cell) w.0 w.1) (λ number. is.result ∙ exact_is (absolute (value v cell)) is.choice number) n;
}
