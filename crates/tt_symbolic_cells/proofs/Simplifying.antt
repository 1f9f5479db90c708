-- What is answered of cells that are simplified is answered of the cells.
use Rattle.std.proofs.Common.{◌≡◌, ℤ, List, sym, subst}
use Rattle.tt_code.specs.declared.kinds.Arithmetic.{Arithmetic}
use Rattle.tt_symbolic_state.specs.declared.cell.Cell.{Cell}
use Rattle.tt_symbolic_state.specs.declared.cell.Range.{Range}
use Rattle.tt_symbolic_state.specs.Values.{Fits, Valuation, value}
use Rattle.tt_symbolic_cells.specs.declared.answer.Answer.{Answer}
use Rattle.tt_symbolic_cells.specs.declared.exact.Exact.{Exact}
use Rattle.tt_symbolic_cells.specs.Answers.{AnswersExact, AnswersResult, IsExact, IsResult}

pub simplified_result : (op : Arithmetic) (a b c d : Cell) (ranges : List Range) (answer : Answer) → ((v : Valuation) → Fits ranges v → value v c ≡ value v a) → ((v : Valuation) → Fits ranges v → value v d ≡ value v b) → AnswersResult op c d ranges answer → AnswersResult op a b ranges answer
simplified_result op a b c d ranges answer e f r = record {
  answers = λ v fits z number is. r.answers v fits z number
      (subst (λ (x : ℤ). IsResult op x (value v d) z) (sym (e v fits)) (subst (λ (y : ℤ). IsResult op (value v a) y z) (sym (f v fits)) is));
}

pub simplified_exact : (op : Exact) (a b c d : Cell) (ranges : List Range) (answer : Answer) → ((v : Valuation) → Fits ranges v → value v c ≡ value v a) → ((v : Valuation) → Fits ranges v → value v d ≡ value v b) → AnswersExact op c d ranges answer → AnswersExact op a b ranges answer
simplified_exact op a b c d ranges answer e f r = record {
  answers = λ v fits z number is. r.answers v fits z number
      (subst (λ (x : ℤ). IsExact op x (value v d) z) (sym (e v fits)) (subst (λ (y : ℤ). IsExact op (value v a) y z) (sym (f v fits)) is));
}
