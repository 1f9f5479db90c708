-- The arithmetic and logical instructions on a state.
use Rattle.std.specs.Prelude.{Result, OnOk}
use Rattle.std.proofs.Common.{◌≡◌, ℕ, ℤ, [], ◌∷◌, Ok, Err, Bool, true, false, if◌then◌else◌, refl, ◌∙◌, arith, length}
use Rattle.std.proofs.lemmas.List.{length-map}
use Rattle.tt_code.specs.Refusals.{Tested}
use Rattle.tt_code.specs.States.{Machine, Outcome, Exactly as Exactly', Anything, IsNumber, is_number, leaves}
use Rattle.tt_symbolic_cells.specs.declared.answer.Answer.{Answer}
use Rattle.tt_symbolic_cells.specs.declared.answer.Answer.TheVariants.{Exactly, Within}
use Rattle.std.specs.Prelude.{◌+ℤ◌, ◌-ℤ◌, neg_ℤ}
use Rattle.std.proofs.lemmas.Int.{ints}
use Rattle.tt_symbolic_cells.proofs.Computings.{number_from}
use Rattle.tt_code.specs.Computing.{absolute, computed, exact, of_one, of_two, truth}
use Rattle.tt_code.specs.Runs.{value as number_of}
use Rattle.tt_code.specs.declared.kinds.Arithmetic.{Arithmetic}
use Rattle.tt_code.specs.declared.kinds.Arithmetic.TheVariants.{Add, Sub, Abs, Neg, Lt, LtEq, Gt, GtEq, Eq, Neq, And, Or, Not}
use Rattle.tt_symbolic_state.specs.declared.cell.Cell.{Cell}
use Rattle.tt_symbolic_state.specs.declared.cell.Range.{Range}
use Rattle.tt_symbolic_state.specs.Values.{Fits, Valuation, value}
use Rattle.tt_symbolic_state.specs.declared.state.State.{State}
use Rattle.tt_symbolic_state.specs.Shows.{IsFresh, Shows, values}
use Rattle.tt_symbolic_cells.specs.Answers.{AnswersResult, IsAnswer, result_of, takes_one}
use Rattle.tt_symbolic.specs.Sound.{Computes, Goes, Pops, Pushes, Puts, ShowsSome, keeps_controls}
use Rattle.tt_symbolic.proofs.Works.{pops_shows, pops_fits, puts_cell, puts_fresh, same_controls, same_offset}

-- the number that an answer tells is put on top

pub cell_put : (old new : State) (cell : Cell) → Pushes old new cell → Puts (λ v m controls z. IsAnswer (Exactly cell) v z) old new
cell_put old new cell p = puts_cell (λ v m controls z. IsAnswer (Exactly cell) v z) old new cell (λ v m controls z fits s is. is) p

pub range_put : (old middle new : State) (cell : Cell) (range : Range) → IsFresh old middle range cell → Pushes middle new cell → Puts (λ v m controls z. IsAnswer (Within range) v z) old new
range_put old middle new cell range f p = puts_fresh (λ v m controls z. IsAnswer (Within range) v z) old middle new range cell (λ v m controls z fits s is. is) f p

one_is : (op : Arithmetic) → takes_one op ≡ true → (m : Machine) → computed op m ≡ of_one m (λ b. result_of op b b)
one_is Abs h m = refl
one_is Neg h m = refl
one_is Not h m = refl
one_is Add h m = absurd (cc)
one_is Sub h m = absurd (cc)
one_is Lt h m = absurd (cc)
one_is LtEq h m = absurd (cc)
one_is Gt h m = absurd (cc)
one_is GtEq h m = absurd (cc)
one_is Eq h m = absurd (cc)
one_is Neq h m = absurd (cc)
one_is And h m = absurd (cc)
one_is Or h m = absurd (cc)

-- what an instruction pushes is a number of the machine
exact_number : (x choice : ℤ) → IsNumber choice → IsNumber (number_of (exact x) choice)
exact_number x choice n = go (is_number x) refl
  where
    go : (b : Bool) → is_number x ≡ b → IsNumber (number_of (if b then Exactly' x else Anything) choice)
    go true e = number_from x e
    go false e = n

truth_number : (b : Bool) (choice : ℤ) → IsNumber (number_of (truth b) choice)
truth_number true choice = omega (arith, ints)
truth_number false choice = omega (arith, ints)

result_number : (op : Arithmetic) (a b choice : ℤ) → IsNumber choice → IsNumber (number_of (result_of op a b) choice)
result_number Add a b choice n = exact_number (a +ℤ b) choice n
result_number Sub a b choice n = exact_number (a -ℤ b) choice n
result_number Abs a b choice n = exact_number (absolute b) choice n
result_number Neg a b choice n = exact_number (neg_ℤ b) choice n
result_number Lt a b choice n = truth_number _ choice
result_number LtEq a b choice n = truth_number _ choice
result_number Gt a b choice n = truth_number _ choice
result_number GtEq a b choice n = truth_number _ choice
result_number Eq a b choice n = truth_number _ choice
result_number Neq a b choice n = truth_number _ choice
result_number And a b choice n = truth_number _ choice
result_number Or a b choice n = truth_number _ choice
result_number Not a b choice n = truth_number _ choice

two_is : (op : Arithmetic) → takes_one op ≡ false → (m : Machine) → computed op m ≡ of_two m (λ a b. result_of op a b)
two_is Abs h m = absurd (cc)
two_is Neg h m = absurd (cc)
two_is Not h m = absurd (cc)
two_is Add h m = refl
two_is Sub h m = refl
two_is Lt h m = refl
two_is LtEq h m = refl
two_is Gt h m = refl
two_is GtEq h m = refl
two_is Eq h m = refl
two_is Neq h m = refl
two_is And h m = refl
two_is Or h m = refl

-- the result was put on what was left
put_result : (op : Arithmetic) (middle new : State) (a b : Cell) (answer : Answer) (m : Machine) (controls : ℕ → ℤ) (v : Valuation) → AnswersResult op a b middle.ranges.items answer → Puts (λ v m controls z. IsAnswer answer v z) middle new → Fits middle.ranges.items v
    → Shows v middle (record m { stack = values v middle.stack }) controls → (does : Tested Outcome) → does ≡ Ok (leaves m (values v middle.stack) (result_of op (value v a) (value v b) ∷ []))
    → Goes does (length new.stack) (keeps_controls m controls) (ShowsSome new)
put_result op middle new a b answer m controls v tells p fits shows does is = record {
  after = leaves m (values v middle.stack) (result_of op (value v a) (value v b) ∷ []);
  goes = is;
  deep = let n = length-map middle.stack (value v) in let d = p.deeper in omega arith;
  into = λ choices controls' numbers keeps.
      let s = p.puts v (record m { stack = values v middle.stack }) controls fits shows (number_of (result_of op (value v a) (value v b)) (choices 0))
      (tells.answers v fits _ (result_number op (value v a) (value v b) (choices 0) (numbers 0)) (record { choice = choices 0; is_number = numbers 0; result = refl })) in
      record { valuation = s.valuation; fits = s.fits; shows = same_controls s.valuation new _ controls controls' keeps s.shows };
}

pub one_computes : (op : Arithmetic) (old middle new : State) (b : Cell) (answer : Answer) → takes_one op ≡ true → Pops old middle b → AnswersResult op b b middle.ranges.items answer → Puts (λ v m controls z. IsAnswer answer v z) middle new → Computes op old new
one_computes op old middle new b answer one p tells q = record {
  works = λ v m controls fits h.
      let (is, shows) = pops_shows v old middle b m controls p h in
      put_result op middle new b b answer m controls v tells q (pops_fits v old middle b p fits) shows (computed op m) (one_is op one m ∙ rw is refl);
  stays = q.stays ∙ same_offset old middle p.same;
}

pub two_computes : (op : Arithmetic) (old middle low new : State) (a b : Cell) (answer : Answer) → takes_one op ≡ false → Pops old middle b → Pops middle low a → AnswersResult op a b low.ranges.items answer → Puts (λ v m controls z. IsAnswer answer v z) low new → Computes op old new
two_computes op old middle low new a b answer two p q tells r = record {
  works = λ v m controls fits h.
      let (is, shows) = pops_shows v old middle b m controls p h in
      let (is', shows') = pops_shows v middle low a (record m { stack = values v middle.stack }) controls q shows in
      put_result op low new a b answer m controls v tells r (pops_fits v middle low a q (pops_fits v old middle b p fits)) shows' (computed op m) (two_is op two m ∙ rw (is, is') refl);
  stays = r.stays ∙ same_offset middle low q.same ∙ same_offset old middle p.same;
}

pub on_ok : {E : Type 0} (r : Result (Unit {0}) E) (P Q : Type 0) → (P → Q) → OnOk r P → OnOk r Q
on_ok (Ok u) P Q f h = f h
on_ok (Err e) P Q f h = tt
