-- What is left of a stack when operands were taken.
use Rattle.std.specs.Prelude.{ℤ, Result, IfOk, IfErr}
use Rattle.std.proofs.Common.{◌≡◌, ℕ, zero, suc, ◌+◌, ◌-◌, ◌<◌, List, [], ◌∷◌, ◌++◌, append_assoc, Some, None, Ok, Err, Bool, true, get_or, refl, sym, ◌∙◌, ap, subst, arith, length, drop, add-one}
use Rattle.tt_code.specs.Refusals.{Tested}
use Rattle.tt_code.specs.Settings.{Setting}
use Rattle.tt_code.specs.Operands.{Taking, then_take, take_one, times, pair, pairs}
use Rattle.tt_code.specs.Changes.{taken_at}
use Rattle.tt_code.specs.declared.reason.Reason.{Reason}
use Rattle.std.specs.Result.{IsErrAnd}
use Rattle.std.proofs.Math.Seq.{drop-cons}
use Rattle.tt_code.specs.declared.kinds.Operand.{Operand}
use Rattle.tt_setting.specs.declared.failed.Failed.{Failed}
use Rattle.tt_setting.specs.Refusals.{reason_of}
use Rattle.tt_abs.specs.Cells.{Cells}
use Rattle.tt_abs.specs.Stacks.{first}
use Rattle.tt_abs.specs.Representation.Taken.{TakesTo, GoesOn}
use Rattle.tt_abs.specs.declared.cells.Cell.{Cell}
use Rattle.tt_abs.specs.declared.cells.Cell.TheVariants.{Known}
use Rattle.tt_abs.specs.Transfers.{tested_cell, take_cell, take_cells, known_count}

pub left_after : {A : Type 0} (n : ℕ) (xs below : List A) (x : A) → drop n xs ≡ x ∷ below → drop (n + 1) xs ≡ below
left_after zero [] below x e = absurd (cc)
left_after (suc n) [] below x e = absurd (cc)
left_after zero (y ∷ xs) below x e = cc
left_after (suc n) (y ∷ xs) below x e = ap (λ i. drop i (y ∷ xs)) (moved n) ∙ left_after n xs below x e
  where
    moved : (n : ℕ) → suc n + 1 ≡ suc (n + 1)
    moved n = omega arith

pub tested_takes : (passes : ℤ → Bool) (number : Reason) (stack below : List Cell) (taken after : ℕ) (z : ℤ) → drop taken stack ≡ Known z ∷ below → after ≡ taken + 1 → passes z ≡ true
    → TakesTo stack after (tested_cell passes number (drop taken stack))
tested_takes passes number stack below taken after z e f h = (Known z ∷ [], rw (f, left_after taken stack below (Known z) e, e, h) refl)

pub first_is : {A : Type 0} (xs : List A) (c d : A) → Some c ≡ first xs → c ≡ d → (below : List A) × (xs ≡ d ∷ below)
first_is [] c d e f = absurd (cc)
first_is (x ∷ xs) c d e f = let same : x ≡ d = cc in (xs, ap (λ y. y ∷ xs) same)

pub goes_on_start : (below : List Cell) (more : List Cell → Tested (Taking Cell)) → GoesOn (more below) below more
goes_on_start below more = ([], go (more below))
  where
    go : (r : Tested (Taking Cell)) → r ≡ then_take (Ok ([], [])) (λ _. r)
    go (Ok t) = refl
    go (Err n) = refl

pub goes_on_more : (given : Tested (Taking Cell)) (below next front : List Cell) (one more : List Cell → Tested (Taking Cell))
    → GoesOn given below (λ r. then_take (one r) more) → one below ≡ Ok (front, next) → GoesOn given next more
goes_on_more given below next front one more h e = (h.0 ++ front, h.1 ∙ rw e (go (more next)))
  where
    go : (r : Tested (Taking Cell)) → then_take (Ok (h.0, [])) (λ _. then_take (Ok (front, [])) (λ _. r)) ≡ then_take (Ok (h.0 ++ front, [])) (λ _. r)
    go (Ok t) = ap (λ x. Ok (x, t.1)) (sym (append_assoc h.0 front t.0))
    go (Err n) = refl

pub goes_on_refused : (given : Tested (Taking Cell)) (below : List Cell) (one more : List Cell → Tested (Taking Cell)) (n : Reason)
    → GoesOn given below (λ r. then_take (one r) more) → one below ≡ Err n → given ≡ Err n
goes_on_refused given below one more n h e = h.1 ∙ rw e refl

pub any_takes : (stack : List Cell) (taken : ℕ) (c : Cell) → Some c ≡ first (drop taken stack) → TakesTo stack (taken + 1) (take_one (drop taken stack))
any_takes stack taken c e =
    let found = first_is (drop taken stack) c c e refl in (c ∷ [], go found.0 found.1)
  where
    go : (below : List Cell) → drop taken stack ≡ c ∷ below → take_one (drop taken stack) ≡ Ok (c ∷ [], drop (taken + 1) stack)
    go below f = rw (left_after taken stack below c f, f) refl

pub row_step : (s : Setting) (a : Cells) (ops : List Operand) (i : ℕ) (d : Operand) (given : Tested (Taking Cell)) (below next front : List Cell) → i < length ops
    → GoesOn given below (take_cells s a (drop i ops)) → take_cell s a (get_or ops i d) below ≡ Ok (front, next) → GoesOn given next (take_cells s a (drop (i + 1) ops))
row_step s a ops i d given below next front h k e =
    let same : drop i ops ≡ get_or ops i d ∷ drop (i + 1) ops = rw (add-one, drop-cons ops i d) refl in
    goes_on_more given below next front (take_cell s a (get_or ops i d)) (take_cells s a (drop (i + 1) ops)) (rw same at k) e

pub times_step : (one : List Cell → Tested (Taking Cell)) (count i : ℕ) (given : Tested (Taking Cell)) (below next front : List Cell) → i < count
    → GoesOn given below (times (count - i) one) → one below ≡ Ok (front, next) → GoesOn given next (times (count - (i + 1)) one)
times_step one count i given below next front h k e =
    let same : count - i ≡ suc (count - (i + 1)) = omega arith in
    goes_on_more given below next front one (times (count - (i + 1)) one) (rw same at k) e

pub times_refused : (one : List Cell → Tested (Taking Cell)) (count i : ℕ) (given : Tested (Taking Cell)) (below : List Cell) (n : Reason) → i < count
    → GoesOn given below (times (count - i) one) → one below ≡ Err n → given ≡ Err n
times_refused one count i given below n h k e =
    let same : count - i ≡ suc (count - (i + 1)) = omega arith in
    goes_on_refused given below one (times (count - (i + 1)) one) n (rw same at k) e

pub some_taken : (xs : List Cell) (n : ℕ) (c d : Cell) → Some c ≡ first (drop n xs) → c ≡ taken_at d xs n
some_taken [] zero c d e = absurd (cc)
some_taken [] (suc n) c d e = absurd (cc)
some_taken (x ∷ xs) zero c d e = cc
some_taken (x ∷ xs) (suc n) c d e = some_taken xs n c d e

pub none_taken : (xs : List Cell) (n : ℕ) (d : Cell) → None ≡ first (drop n xs) → d ≡ taken_at d xs n
none_taken [] n d e = refl
none_taken (x ∷ xs) zero d e = absurd (cc)
none_taken (x ∷ xs) (suc n) d e = none_taken xs n d e

-- two calls, one after the other
pub takes_both : (first second : List Cell → Tested (Taking Cell)) (stack : List Cell) (taken middle after : ℕ)
    → TakesTo stack middle (first (drop taken stack)) → TakesTo stack after (second (drop middle stack)) → TakesTo stack after (then_take (first (drop taken stack)) second)
takes_both first second stack taken middle after h k = (h.0 ++ k.0, rw (h.1, k.1) refl)

-- a count and pairs: the count was read, and nothing of the pairs yet
pub pairs_start : (one : List Cell → Tested (Taking Cell)) (stack below : List Cell) (taken after n : ℕ) (c : Cell) → drop taken stack ≡ c ∷ below → known_count c ≡ Ok n → after ≡ taken + 1
    → GoesOn (pairs known_count one (drop taken stack)) (drop after stack) (times (n - 0) (pair one))
pairs_start one stack below taken after n c e f g =
    let same : n - 0 ≡ n = omega arith in
    (c ∷ [], rw (same, g, left_after taken stack below c e, e, f) (go (times n (pair one) below)))
  where
    go : (r : Tested (Taking Cell)) → then_take (Ok (c ∷ [], below)) (λ _. r) ≡ then_take (Ok (c ∷ [], below)) (λ _. r)
    go r = refl

-- before the first of so many calls
pub times_start : (one : List Cell → Tested (Taking Cell)) (count : ℕ) (below : List Cell) → GoesOn (times count one below) below (times (count - 0) one)
times_start one count below =
    let same : count - 0 ≡ count = omega arith in rw same (goes_on_start below (times count one))

-- one tested cell, and then any cell
pub pair_takes : (one : List Cell → Tested (Taking Cell)) (stack : List Cell) (taken middle : ℕ) (r : Result ℕ Failed) → TakesTo stack middle (one (drop taken stack))
    → IfOk r (λ n. TakesTo stack n (take_one (drop middle stack))) → IfOk r (λ n. TakesTo stack n (pair one (drop taken stack)))
pair_takes one stack taken middle (Ok n) h k = takes_both one take_one stack taken middle n h k
pair_takes one stack taken middle (Err e) h k = tt

-- a refusal that is passed on
pub refused_by : {A B : Type 0} (r : Result A Failed) (e : Failed) (result : Tested B) → result ≡ Err (reason_of e) → IsErrAnd r (λ x. x ≡ e) → IfErr r (λ x. result ≡ Err (reason_of x))
refused_by (Ok a) e result h k = tt
refused_by {A} {B} (Err x) e result h k = let E : Failed → Type 0 = λ y. ◌≡◌ {A = Tested B} result (Err (reason_of y)) in subst E (sym k) h

-- what is told of it
pub told_by : {A : Type 0} (r : Result A Failed) (e : Failed) (P : Failed → Type 0) → P e → IsErrAnd r (λ x. x ≡ e) → IfErr r P
told_by (Ok a) e P h k = tt
told_by (Err x) e P h k = subst P (sym k) h
