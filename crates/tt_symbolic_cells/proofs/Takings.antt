-- What is left of a stack when operands were taken.
use Rattle.std.proofs.Common.{◌≡◌, ℕ, suc, ◌+◌, ◌-◌, ◌<◌, ◌≤◌, ℤ, List, [], ◌∷◌, ◌++◌, append_assoc, map, Ok, Err, Bool, true, get_or, refl, sym, ◌∙◌, ap, subst, arith, length, drop, add-one}
use Rattle.std.proofs.Math.Seq.{drop-cons}
use Rattle.std.proofs.lemmas.List.{drop-map}
use Rattle.tt_code.specs.Refusals.{Tested}
use Rattle.std.specs.Prelude.{Result, IfOk}
use Rattle.tt_code.specs.Settings.{Setting, ZoneNumber, contours_in}
use Rattle.tt_code.specs.declared.kinds.Within.{Within}
use Rattle.tt_code.specs.declared.kinds.Operand.TheVariants as operand
use Rattle.tt_code.specs.declared.reason.Reason.TheVariants as reason
use Rattle.tt_code.specs.States.{is_below}
use Rattle.tt_code.specs.Operands.{Taking, then_take, take_one, tested, times, counted, count_of, pair, pairs, take_operand, take_operands, is_point}
use Rattle.tt_code.specs.declared.reason.Reason.{Reason}
use Rattle.tt_code.specs.declared.machine.Graphics.{Graphics}
use Rattle.tt_code.specs.declared.kinds.Operand.{Operand}
use Rattle.tt_symbolic_state.specs.declared.cell.Cell.{Cell}
use Rattle.tt_symbolic_state.specs.Values.{Valuation, value}
use Rattle.tt_symbolic_state.specs.Shows.{values}
use Rattle.tt_symbolic_cells.specs.Taking.{Leaves, Takes, GoesOn, below_bound}

-- what is under the first cells, in numbers
pub under_is : (v : Valuation) (stack : List Cell) (taken : ℕ) (c : Cell) → drop taken stack ≡ c ∷ drop (taken + 1) stack → drop taken (values v stack) ≡ value v c ∷ drop (taken + 1) (values v stack)
under_is v stack taken c e = drop-map (value v) taken stack ∙ ap (map (value v)) e ∙ ap (λ l. value v c ∷ l) (sym (drop-map (value v) (taken + 1) stack))

pub tested_takes : (passes : ℤ → Bool) (r : Reason) (S : List ℤ) (taken : ℕ) (z : ℤ) → drop taken S ≡ z ∷ drop (taken + 1) S → passes z ≡ true → Takes (tested passes r) S taken (taken + 1)
tested_takes passes r S taken z e h = record { front = z ∷ []; leaves = go (drop taken S) (drop (taken + 1) S) e }
  where
    go : (l below : List ℤ) → l ≡ z ∷ below → tested passes r l ≡ Ok (z ∷ [], below)
    go l below f = rw (f, h) refl

pub any_takes : (S : List ℤ) (taken : ℕ) (z : ℤ) → drop taken S ≡ z ∷ drop (taken + 1) S → Takes take_one S taken (taken + 1)
any_takes S taken z e = record { front = z ∷ []; leaves = go (drop taken S) (drop (taken + 1) S) e }
  where
    go : (l below : List ℤ) → l ≡ z ∷ below → take_one l ≡ Ok (z ∷ [], below)
    go l below f = rw f refl

pub goes_on_start : (below : List ℤ) (more : List ℤ → Tested (Taking ℤ)) → GoesOn (more below) below more
goes_on_start below more = record { front = []; goes_on = go (more below) }
  where
    go : (r : Tested (Taking ℤ)) → r ≡ then_take (Ok ([], [])) (λ _. r)
    go (Ok t) = refl
    go (Err n) = refl

pub goes_on_more : (given : Tested (Taking ℤ)) (below next : List ℤ) (one more : List ℤ → Tested (Taking ℤ))
    → GoesOn given below (λ r. then_take (one r) more) → Leaves (one below) next → GoesOn given next more
goes_on_more given below next one more h e = record { front = h.front ++ e.front; goes_on = h.goes_on ∙ rw e.leaves (go (more next)) }
  where
    go : (r : Tested (Taking ℤ)) → then_take (Ok (h.front, [])) (λ _. then_take (Ok (e.front, [])) (λ _. r)) ≡ then_take (Ok (h.front ++ e.front, [])) (λ _. r)
    go (Ok t) = ap (λ x. Ok (x, t.1)) (sym (append_assoc h.front e.front t.0))
    go (Err n) = refl

pub goes_on_end : (given : Tested (Taking ℤ)) (below : List ℤ) → GoesOn given below (λ r. Ok ([], r)) → Leaves given below
goes_on_end given below h = record { front = h.front ++ []; leaves = h.goes_on }

pub row_step : (s : Setting) (a : Graphics ℤ ZoneNumber) (ops : List Operand) (i : ℕ) (d : Operand) (given : Tested (Taking ℤ)) (below next : List ℤ) → i < length ops
    → GoesOn given below (take_operands s a (drop i ops)) → Leaves (take_operand s a (get_or ops i d) below) next → GoesOn given next (take_operands s a (drop (i + 1) ops))
row_step s a ops i d given below next h k e =
    let same : drop i ops ≡ get_or ops i d ∷ drop (i + 1) ops = rw (add-one, drop-cons ops i d) refl in
    goes_on_more given below next (take_operand s a (get_or ops i d)) (take_operands s a (drop (i + 1) ops)) (rw same at k) e

pub times_step : (one : List ℤ → Tested (Taking ℤ)) (count i : ℕ) (given : Tested (Taking ℤ)) (below next : List ℤ) → i < count
    → GoesOn given below (times (count - i) one) → Leaves (one below) next → GoesOn given next (times (count - (i + 1)) one)
times_step one count i given below next h k e =
    let same : count - i ≡ suc (count - (i + 1)) = omega arith in
    goes_on_more given below next one (times (count - (i + 1)) one) (rw same at k) e

pub times_end : (one : List ℤ → Tested (Taking ℤ)) (count i : ℕ) (given : Tested (Taking ℤ)) (below : List ℤ) → count ≤ i → GoesOn given below (times (count - i) one) → Leaves given below
times_end one count i given below h k =
    let same : count - i ≡ 0 = omega arith in goes_on_end given below (rw same at k)

pub times_start : (one : List ℤ → Tested (Taking ℤ)) (count : ℕ) (below : List ℤ) → GoesOn (times count one below) below (times (count - 0) one)
times_start one count below =
    let same : count - 0 ≡ count = omega arith in rw same (goes_on_start below (times count one))

pub takes_both : (first second : List ℤ → Tested (Taking ℤ)) (S : List ℤ) (taken middle after : ℕ)
    → Takes first S taken middle → Takes second S middle after → Leaves (then_take (first (drop taken S)) second) (drop after S)
takes_both first second S taken middle after h k = record { front = h.front ++ k.front; leaves = rw (h.leaves, k.leaves) refl }

-- a test that is the same as that of a bound
pub same_test : (passes : ℤ → Bool) (bound : ℕ) (r : Reason) → ((z : ℤ) → is_below z bound ≡ passes z) → below_bound bound r ≡ tested passes r
same_test passes bound r h = ap (λ (p : ℤ → Bool). tested p r) (λ i z. h z i)

pub same_takes : (first second : List ℤ → Tested (Taking ℤ)) (S : List ℤ) (taken n : ℕ) → first ≡ second → Takes first S taken n → Takes second S taken n
same_takes first second S taken n e h = subst (λ (f : List ℤ → Tested (Taking ℤ)). Takes f S taken n) e h

pub counted_takes : (count : Tested ℕ) (k : ℕ) (one : List ℤ → Tested (Taking ℤ)) (S : List ℤ) (taken n : ℕ) → count ≡ Ok k → Takes (times k one) S taken n → Takes (counted count one) S taken n
counted_takes count k one S taken n e h = rw e h

pub pairs_take : (one : List ℤ → Tested (Taking ℤ)) (S : List ℤ) (taken k n : ℕ) (z : ℤ) → drop taken S ≡ z ∷ drop (taken + 1) S → count_of z ≡ Ok k → Takes (times k (pair one)) S (taken + 1) n
    → Takes (pairs count_of one) S taken n
pairs_take one S taken k n z e f h = record { front = (z ∷ []) ++ h.front; leaves = go (drop taken S) (drop (taken + 1) S) e h.leaves }
  where
    go : (l below : List ℤ) → l ≡ z ∷ below → times k (pair one) below ≡ Ok (h.front, drop n S) → pairs count_of one l ≡ Ok ((z ∷ []) ++ h.front, drop n S)
    go l below g w = rw (g, f, w) refl

-- The operands.

pub if_ok : {E : Type 0} (r : Result ℕ E) (P Q : ℕ → Type 0) → ((n : ℕ) → P n → Q n) → IfOk r P → IfOk r Q
if_ok (Ok n) P Q f h = f n h
if_ok (Err e) P Q f h = tt

module _ (s : Setting) (g : Graphics ℤ ZoneNumber) (S : List ℤ) (taken n : ℕ) where
  pub point_taken : (within : Within) (bound : ℕ) → ((z : ℤ) → is_below z bound ≡ is_point s g within z) → ((r : Reason) → Takes (below_bound bound r) S taken n) → Takes (take_operand s g (operand.Point within)) S taken n
  point_taken within bound h k = same_takes (below_bound bound reason.Point) (tested (is_point s g within) reason.Point) S taken n (same_test (is_point s g within) bound reason.Point h) (k reason.Point)

  pub contour_taken : (bound : ℕ) → bound ≡ contours_in s g.zp2 → ((r : Reason) → Takes (below_bound bound r) S taken n) → Takes (take_operand s g operand.Contour) S taken n
  contour_taken bound h k = subst (λ (b : ℕ). Takes (below_bound b reason.Contour) S taken n) h (k reason.Contour)

  pub points_taken : (within : Within) (bound count : ℕ) → ((z : ℤ) → is_below z bound ≡ is_point s g within z) → count_of g.loop_number ≡ Ok count → ((r : Reason) → Takes (times count (below_bound bound r)) S taken n)
      → Takes (take_operand s g (operand.LoopPoints within)) S taken n
  points_taken within bound count h e k =
      counted_takes (count_of g.loop_number) count (tested (is_point s g within) reason.Point) S taken n e
      (same_takes (times count (below_bound bound reason.Point)) (times count (tested (is_point s g within) reason.Point)) S taken n (ap (times count) (same_test (is_point s g within) bound reason.Point h)) (k reason.Point))

  pub pairs_taken : (within : Within) (bound : ℕ) → ((z : ℤ) → is_below z bound ≡ is_point s g within z) → ((r : Reason) → Takes (pairs count_of (below_bound bound r)) S taken n)
      → Takes (take_operand s g (operand.PointPairs within)) S taken n
  pairs_taken within bound h k =
      same_takes (pairs count_of (below_bound bound reason.Point)) (pairs count_of (tested (is_point s g within) reason.Point)) S taken n (ap (pairs count_of) (same_test (is_point s g within) bound reason.Point h)) (k reason.Point)
