-- The result of an arithmetic instruction is the smallest cell for all numbers that its operands' cells cover.
use Rattle.std.specs.Prelude.{ℤ, pos, negsuc, ◌+ℤ◌, ◌-ℤ◌, neg_ℤ, int_lt, int_le, not, ◌&&◌, ◌||◌}
use Rattle.std.proofs.Common.{◌≡◌, zero, suc, refl, sym, ap, arith, rules, Bool, true, false}
use Rattle.std.proofs.lemmas.Int.{ints}
use Rattle.tt_code.specs.States.{IsNumber, is_number, is_true, Value}
use Rattle.tt_code.specs.Runs.{value}
use Rattle.tt_code.specs.Computing.{exact, truth, absolute, equal}
use Rattle.tt_abs.specs.declared.cells.Cell.{Cell}
use Rattle.tt_abs.specs.declared.cells.Cell.TheVariants.{Known, Unknown}
use Rattle.tt_abs.specs.Cells.{Covers}
use Rattle.tt_abs.specs.Covers.{IsBestFor}
use Rattle.tt_abs.specs.Ranges.{IsInRange}
use Rattle.tt_abs.specs.Transfers.{exact_cell, truth_cell, of_known, of_both_known, lt_cells, le_cells, and_cells, or_cells, only_if, LEAST, GREATEST}
use Rattle.tt_abs.proofs.Choosing.{zero_is_number, one_is_number}
use Rattle.tt_abs.proofs.Bests.{best_same, best_along}

-- What is pushed, by what it is computed from and by the number that is chosen where any may be pushed.

-- the second component is the number chosen
pub record Chosen {X : Type 0} (In : X → Type 0) (x : X × ℤ) : Type 0 where
  pub operands : In x.0
  pub choice : IsNumber x.1

-- the cell is the smallest one for what is pushed
abbrev pub IsBestValue : {X : Type 0} → (X → Type 0) → (X → Value) → Cell → Type 0
IsBestValue {X} In f r = IsBestFor (Chosen In) (λ x. value (f x.0) x.1) r

abbrev pub IsBestOfOne : (ℤ → Value) → Cell → Cell → Type 0
IsBestOfOne f c r = IsBestValue (λ n. Covers c n) f r

-- the second element, and the top
abbrev pub Two : Type 0
Two = ℤ × ℤ

pub record CoversTwo (c u : Cell) (x : Two) : Type 0 where
  pub second : Covers c x.0
  pub top : Covers u x.1

abbrev pub IsBestOfTwo : (ℤ → ℤ → Value) → Cell → Cell → Cell → Type 0
IsBestOfTwo f c u r = IsBestValue (CoversTwo c u) (λ x. f x.0 x.1) r

-- Numbers.

least_fits : IsNumber LEAST
least_fits = search rules

greatest_fits : IsNumber GREATEST
greatest_fits = search rules

pub number_by_test : (z : ℤ) → is_number z ≡ true → IsNumber z
number_by_test (pos n) e = grind (arith, ints)
number_by_test (negsuc n) e = grind (arith, ints)

exact_number : (z c : ℤ) → IsNumber c → IsNumber (value (exact z) c)
exact_number z c h = go (is_number z) refl
  where
    go : (b : Bool) → is_number z ≡ b → IsNumber (value (exact z) c)
    go true e = rw e (number_by_test z e)
    go false e = rw e h

truth_number : (b : Bool) (c : ℤ) → IsNumber (value (truth b) c)
truth_number true c = one_is_number
truth_number false c = zero_is_number

other : (y : ℤ) → (c : ℤ) × IsNumber c × (y ≡ c → ⊥)
other (pos zero) = (pos 1, one_is_number, λ e. cc)
other (pos (suc n)) = (pos 0, zero_is_number, λ e. cc)
other (negsuc n) = (pos 0, zero_is_number, λ e. cc)

-- different results can be told apart, for some choices
exact_apart : (y z : ℤ) → (y ≡ z → ⊥) → (c : ℤ) × (d : ℤ) × IsNumber c × IsNumber d × (value (exact y) c ≡ value (exact z) d → ⊥)
exact_apart y z apart = go (is_number y) refl (is_number z) refl
  where
    go : (b : Bool) → is_number y ≡ b → (b' : Bool) → is_number z ≡ b' → (c : ℤ) × (d : ℤ) × IsNumber c × IsNumber d × (value (exact y) c ≡ value (exact z) d → ⊥)
    go true e true f = (pos 0, pos 0, zero_is_number, zero_is_number, rw (e, f) apart)
    go true e false f = let (d, h, ne) = other y in (pos 0, d, zero_is_number, h, rw (e, f) ne)
    go false e true f = let (c, h, ne) = other z in (c, pos 0, h, zero_is_number, rw (e, f) (λ s. ne (sym s)))
    go false e false f = (pos 0, pos 1, zero_is_number, one_is_number, rw (e, f) (λ s. cc))

-- Exact results and truth values: known where all are the same, unknown where two differ.

one_exact : {X : Type 0} (In : X → Type 0) (z : ℤ) (x : X) → In x → IsBestValue In (λ y. exact z) (exact_cell z)
one_exact {X} In z x h = go (is_number z) refl
  where
    go : (b : Bool) → is_number z ≡ b → IsBestValue In (λ y. exact z) (exact_cell z)
    go true e = rw e ((λ x o. refl), ((x, pos 0), record { operands = h; choice = zero_is_number }))
    go false e = rw e ((λ x o. o.choice), ((x, pos 0), (x, pos 1), record { operands = h; choice = zero_is_number }, record { operands = h; choice = one_is_number }, λ s. cc))

one_truth : {X : Type 0} (In : X → Type 0) (b : Bool) (x : X) → In x → IsBestValue In (λ y. truth b) (truth_cell b)
one_truth In true x h = ((λ x o. refl), ((x, pos 0), record { operands = h; choice = zero_is_number }))
one_truth In false x h = ((λ x o. refl), ((x, pos 0), record { operands = h; choice = zero_is_number }))

exact_same : {X : Type 0} (In : X → Type 0) (g : X → ℤ) (x : X) → In x → ((y : X) → In y → g y ≡ g x) → IsBestValue In (λ y. exact (g y)) (exact_cell (g x))
exact_same In g x h same =
    best_same (Chosen In) (λ y. value (exact (g x)) y.1) (λ y. value (exact (g y.0)) y.1) (exact_cell (g x)) (λ y w. ap (λ v. value (exact v) y.1) (same y.0 w.operands)) (one_exact In (g x) x h)

truth_same : {X : Type 0} (In : X → Type 0) (g : X → Bool) (b : Bool) (x : X) → In x → ((y : X) → In y → g y ≡ b) → IsBestValue In (λ y. truth (g y)) (truth_cell b)
truth_same In g b x h same =
    best_same (Chosen In) (λ y. value (truth b) y.1) (λ y. value (truth (g y.0)) y.1) (truth_cell b) (λ y w. ap (λ v. value (truth v) y.1) (same y.0 w.operands)) (one_truth In b x h)

exact_unknown : {X : Type 0} (In : X → Type 0) (g : X → ℤ) (x y : X) → In x → In y → (g x ≡ g y → ⊥) → IsBestValue In (λ y. exact (g y)) Unknown
exact_unknown In g x y h i apart =
    let (p, q, fp, fq, ne) = exact_apart (g x) (g y) apart in
    ((λ z w. exact_number (g z.0) z.1 w.choice), ((x, p), (y, q), record { operands = h; choice = fp }, record { operands = i; choice = fq }, ne))

truth_unknown : {X : Type 0} (In : X → Type 0) (g : X → Bool) (x y : X) → In x → In y → g x ≡ true → g y ≡ false → IsBestValue In (λ y. truth (g y)) Unknown
truth_unknown In g x y h i passes fails = (
  (λ z w. truth_number (g z.0) z.1),
  ((x, pos 0), (y, pos 0), record { operands = h; choice = zero_is_number }, record { operands = i; choice = zero_is_number }, rw (passes, fails) (λ s. cc)),
)

-- The same of one operand's cell, and of two.

one_known : (g : ℤ → ℤ) (k : ℤ) → IsBestOfOne (λ a. exact (g a)) (Known k) (exact_cell (g k))
one_known g k = exact_same (λ n. Covers (Known k) n) g k refl (λ m e. rw e refl)

two_known : (g : ℤ → ℤ → ℤ) (k l : ℤ) → IsBestOfTwo (λ a b. exact (g a b)) (Known k) (Known l) (exact_cell (g k l))
two_known g k l = exact_same (CoversTwo (Known k) (Known l)) (λ x. g x.0 x.1) (k, l) (record { second = refl; top = refl }) (λ x h. rw (h.second, h.top) refl)

two_unknown : (c u : Cell) (g : ℤ → ℤ → ℤ) (k l m n : ℤ) → Covers c k → Covers u l → Covers c m → Covers u n → (g k l ≡ g m n → ⊥) → IsBestOfTwo (λ a b. exact (g a b)) c u Unknown
two_unknown c u g k l m n h i j o apart = exact_unknown (CoversTwo c u) (λ x. g x.0 x.1) (k, l) (m, n) (record { second = h; top = i }) (record { second = j; top = o }) apart

two_truths : (g : ℤ → ℤ → Bool) (k l : ℤ) → IsBestOfTwo (λ a b. truth (g a b)) (Known k) (Known l) (truth_cell (g k l))
two_truths g k l = truth_same (CoversTwo (Known k) (Known l)) (λ x. g x.0 x.1) (g k l) (k, l) (record { second = refl; top = refl }) (λ x h. rw (h.second, h.top) refl)

decided : (c u : Cell) (g : ℤ → ℤ → Bool) (b : Bool) (k l : ℤ) → Covers c k → Covers u l → ((m n : ℤ) → Covers c m → Covers u n → g m n ≡ b) → IsBestOfTwo (λ a b. truth (g a b)) c u (truth_cell b)
decided c u g b k l h i same = truth_same (CoversTwo c u) (λ x. g x.0 x.1) b (k, l) (record { second = h; top = i }) (λ x w. same x.0 x.1 w.second w.top)

-- one covered pair passes and another doesn't
undecided : (c u : Cell) (g : ℤ → ℤ → Bool) (k l m n : ℤ) → Covers c k → Covers u l → Covers c m → Covers u n → g k l ≡ true → g m n ≡ false → IsBestOfTwo (λ a b. truth (g a b)) c u Unknown
undecided c u g k l m n h i j o passes fails = truth_unknown (CoversTwo c u) (λ x. g x.0 x.1) (k, l) (m, n) (record { second = h; top = i }) (record { second = j; top = o }) passes fails

-- the operands swapped
swapped : (f : ℤ → ℤ → Value) (c u r : Cell) → IsBestOfTwo f c u r → IsBestOfTwo (λ a b. f b a) u c r
swapped f c u r best =
    best_along (Chosen (CoversTwo u c)) (Chosen (CoversTwo c u)) (λ x. ((x.0.1, x.0.0), x.1)) (λ x. value (f x.0.0 x.0.1) x.1) r
    (λ x h. record { operands = record { second = h.operands.top; top = h.operands.second }; choice = h.choice })
    (λ x h. (((x.0.1, x.0.0), x.1), record { operands = record { second = h.operands.top; top = h.operands.second }; choice = h.choice }, refl))
    best

-- ADD and SUB.

sum_right : (k : ℤ) → k +ℤ pos 0 ≡ k +ℤ pos 1 → ⊥
sum_right k e = omega (arith, ints)

sum_left : (k : ℤ) → pos 0 +ℤ k ≡ pos 1 +ℤ k → ⊥
sum_left k e = omega (arith, ints)

difference_right : (k : ℤ) → k -ℤ pos 0 ≡ k -ℤ pos 1 → ⊥
difference_right k e = omega (arith, ints)

difference_left : (k : ℤ) → pos 0 -ℤ k ≡ pos 1 -ℤ k → ⊥
difference_left k e = omega (arith, ints)

pub add_best : (c u : Cell) → IsBestOfTwo (λ a b. exact (a +ℤ b)) c u (of_both_known (λ a b. exact_cell (a +ℤ b)) c u)
add_best (Known k) (Known l) = two_known (λ a b. a +ℤ b) k l
add_best (Known k) Unknown = two_unknown (Known k) Unknown (λ a b. a +ℤ b) k (pos 0) k (pos 1) refl zero_is_number refl one_is_number (sum_right k)
add_best Unknown (Known l) = two_unknown Unknown (Known l) (λ a b. a +ℤ b) (pos 0) l (pos 1) l zero_is_number refl one_is_number refl (sum_left l)
add_best Unknown Unknown = two_unknown Unknown Unknown (λ a b. a +ℤ b) (pos 0) (pos 0) (pos 0) (pos 1) zero_is_number zero_is_number zero_is_number one_is_number (sum_right (pos 0))

pub sub_best : (c u : Cell) → IsBestOfTwo (λ a b. exact (a -ℤ b)) c u (of_both_known (λ a b. exact_cell (a -ℤ b)) c u)
sub_best (Known k) (Known l) = two_known (λ a b. a -ℤ b) k l
sub_best (Known k) Unknown = two_unknown (Known k) Unknown (λ a b. a -ℤ b) k (pos 0) k (pos 1) refl zero_is_number refl one_is_number (difference_right k)
sub_best Unknown (Known l) = two_unknown Unknown (Known l) (λ a b. a -ℤ b) (pos 0) l (pos 1) l zero_is_number refl one_is_number refl (difference_left l)
sub_best Unknown Unknown = two_unknown Unknown Unknown (λ a b. a -ℤ b) (pos 0) (pos 0) (pos 0) (pos 1) zero_is_number zero_is_number zero_is_number one_is_number (difference_right (pos 0))

-- ABS, NEG and NOT.

pub abs_best : (c : Cell) → IsBestOfOne (λ a. exact (absolute a)) c (of_known (λ a. exact_cell (absolute a)) c)
abs_best (Known k) = one_known absolute k
abs_best Unknown = exact_unknown (λ n. Covers Unknown n) absolute (pos 0) (pos 1) zero_is_number one_is_number (λ e. cc)

pub neg_best : (c : Cell) → IsBestOfOne (λ a. exact (neg_ℤ a)) c (of_known (λ a. exact_cell (neg_ℤ a)) c)
neg_best (Known k) = one_known neg_ℤ k
neg_best Unknown = exact_unknown (λ n. Covers Unknown n) neg_ℤ (pos 0) (pos 1) zero_is_number one_is_number (λ e. cc)

pub not_best : (c : Cell) → IsBestOfOne (λ a. truth (not (is_true a))) c (of_known (λ a. truth_cell (not (is_true a))) c)
not_best (Known k) = truth_same (λ n. Covers (Known k) n) (λ a. not (is_true a)) (not (is_true k)) k refl (λ m e. rw e refl)
not_best Unknown = truth_unknown (λ n. Covers Unknown n) (λ a. not (is_true a)) (pos 0) (pos 1) zero_is_number one_is_number refl refl

-- EQ and NEQ.

equal_is : (a b : ℤ) → equal a b ≡ true → a ≡ b
equal_is a b h = grind (arith, ints)

unequal_is : (a b : ℤ) → equal a b ≡ false → a ≡ b → ⊥
unequal_is a b h = grind (arith, ints)

equal_self : (a : ℤ) → equal a a ≡ true
equal_self a = grind (arith, ints)

equal_other : (a b : ℤ) → (a ≡ b → ⊥) → equal a b ≡ false
equal_other a b h = grind (arith, ints)

equal_other_left : (a b : ℤ) → (a ≡ b → ⊥) → equal b a ≡ false
equal_other_left a b h = grind (arith, ints)

pub eq_best : (c u : Cell) → IsInRange c → IsInRange u → IsBestOfTwo (λ a b. truth (equal a b)) c u (of_both_known (λ a b. truth_cell (equal a b)) c u)
eq_best (Known k) (Known l) r s = two_truths equal k l
eq_best (Known k) Unknown r s = let (d, h, ne) = other k in undecided (Known k) Unknown equal k k k d refl r refl h (equal_self k) (equal_other k d ne)
eq_best Unknown (Known l) r s = let (d, h, ne) = other l in undecided Unknown (Known l) equal l l d l s refl h refl (equal_self l) (equal_other_left l d ne)
eq_best Unknown Unknown r s = undecided Unknown Unknown equal (pos 0) (pos 0) (pos 0) (pos 1) zero_is_number zero_is_number zero_is_number one_is_number refl refl

pub neq_best : (c u : Cell) → IsInRange c → IsInRange u → IsBestOfTwo (λ a b. truth (not (equal a b))) c u (of_both_known (λ a b. truth_cell (not (equal a b))) c u)
neq_best (Known k) (Known l) r s = two_truths (λ a b. not (equal a b)) k l
neq_best (Known k) Unknown r s =
    let (d, h, ne) = other k in
    undecided (Known k) Unknown (λ a b. not (equal a b)) k d k k refl h refl r (ap not (equal_other k d ne)) (ap not (equal_self k))
neq_best Unknown (Known l) r s =
    let (d, h, ne) = other l in
    undecided Unknown (Known l) (λ a b. not (equal a b)) d l l l h refl s refl (ap not (equal_other_left l d ne)) (ap not (equal_self l))
neq_best Unknown Unknown r s = undecided Unknown Unknown (λ a b. not (equal a b)) (pos 0) (pos 1) (pos 0) (pos 0) zero_is_number one_is_number zero_is_number zero_is_number refl refl

-- LT, and GT by swapping.

below_least : (a : ℤ) → IsNumber a → int_lt a LEAST ≡ false
below_least a h = grind (arith, ints)

above_least : (b : ℤ) → IsNumber b → (b ≡ LEAST → ⊥) → int_lt LEAST b ≡ true
above_least b h e = grind (arith, ints)

above_greatest : (b : ℤ) → IsNumber b → int_lt GREATEST b ≡ false
above_greatest b h = grind (arith, ints)

below_greatest : (b : ℤ) → IsNumber b → (b ≡ GREATEST → ⊥) → int_lt b GREATEST ≡ true
below_greatest b h e = grind (arith, ints)

pub lt_best : (c u : Cell) → IsInRange c → IsInRange u → IsBestOfTwo (λ a b. truth (int_lt a b)) c u (lt_cells c u)
lt_best (Known k) (Known l) r s = two_truths int_lt k l
lt_best Unknown (Known l) r s = go (equal l LEAST) refl
  where
    go : (b : Bool) → equal l LEAST ≡ b → IsBestOfTwo (λ a b. truth (int_lt a b)) Unknown (Known l) (only_if b (truth_cell false))
    go true e = decided Unknown (Known l) int_lt false (pos 0) l zero_is_number refl (λ m n h f. rw (f, equal_is l LEAST e) (below_least m h))
    go false e = undecided Unknown (Known l) int_lt LEAST l GREATEST l least_fits refl greatest_fits refl (above_least l s (unequal_is l LEAST e)) (above_greatest l s)
lt_best (Known k) Unknown r s = go (equal k GREATEST) refl
  where
    go : (b : Bool) → equal k GREATEST ≡ b → IsBestOfTwo (λ a b. truth (int_lt a b)) (Known k) Unknown (only_if b (truth_cell false))
    go true e = decided (Known k) Unknown int_lt false k (pos 0) refl zero_is_number (λ m n f h. rw (f, equal_is k GREATEST e) (above_greatest n h))
    go false e = undecided (Known k) Unknown int_lt k GREATEST k LEAST refl greatest_fits refl least_fits (below_greatest k r (unequal_is k GREATEST e)) (below_least k r)
lt_best Unknown Unknown r s = undecided Unknown Unknown int_lt (pos 0) (pos 1) (pos 0) (pos 0) zero_is_number one_is_number zero_is_number zero_is_number refl refl

pub gt_best : (c u : Cell) → IsInRange c → IsInRange u → IsBestOfTwo (λ a b. truth (int_lt b a)) c u (lt_cells u c)
gt_best c u r s = swapped (λ a b. truth (int_lt a b)) u c (lt_cells u c) (lt_best u c s r)

-- LTEQ, and GTEQ by swapping.

at_most_greatest : (a : ℤ) → IsNumber a → int_le a GREATEST ≡ true
at_most_greatest a h = grind (arith, ints)

not_at_most : (b : ℤ) → IsNumber b → (b ≡ GREATEST → ⊥) → int_le GREATEST b ≡ false
not_at_most b h e = grind (arith, ints)

at_least_least : (b : ℤ) → IsNumber b → int_le LEAST b ≡ true
at_least_least b h = grind (arith, ints)

not_at_least : (b : ℤ) → IsNumber b → (b ≡ LEAST → ⊥) → int_le b LEAST ≡ false
not_at_least b h e = grind (arith, ints)

pub le_best : (c u : Cell) → IsInRange c → IsInRange u → IsBestOfTwo (λ a b. truth (int_le a b)) c u (le_cells c u)
le_best (Known k) (Known l) r s = two_truths int_le k l
le_best Unknown (Known l) r s = go (equal l GREATEST) refl
  where
    go : (b : Bool) → equal l GREATEST ≡ b → IsBestOfTwo (λ a b. truth (int_le a b)) Unknown (Known l) (only_if b (truth_cell true))
    go true e = decided Unknown (Known l) int_le true (pos 0) l zero_is_number refl (λ m n h f. rw (f, equal_is l GREATEST e) (at_most_greatest m h))
    go false e = undecided Unknown (Known l) int_le LEAST l GREATEST l least_fits refl greatest_fits refl (at_least_least l s) (not_at_most l s (unequal_is l GREATEST e))
le_best (Known k) Unknown r s = go (equal k LEAST) refl
  where
    go : (b : Bool) → equal k LEAST ≡ b → IsBestOfTwo (λ a b. truth (int_le a b)) (Known k) Unknown (only_if b (truth_cell true))
    go true e = decided (Known k) Unknown int_le true k (pos 0) refl zero_is_number (λ m n f h. rw (f, equal_is k LEAST e) (at_least_least n h))
    go false e = undecided (Known k) Unknown int_le k GREATEST k LEAST refl greatest_fits refl least_fits (at_most_greatest k r) (not_at_least k r (unequal_is k LEAST e))
le_best Unknown Unknown r s = undecided Unknown Unknown int_le (pos 0) (pos 0) (pos 1) (pos 0) zero_is_number zero_is_number one_is_number zero_is_number refl refl

pub ge_best : (c u : Cell) → IsInRange c → IsInRange u → IsBestOfTwo (λ a b. truth (int_le b a)) c u (le_cells u c)
ge_best c u r s = swapped (λ a b. truth (int_le a b)) u c (le_cells u c) (le_best u c s r)

-- AND and OR.

and_false : (a : Bool) → a && false ≡ false
and_false true = refl
and_false false = refl

or_true : (a : Bool) → a || true ≡ true
or_true true = refl
or_true false = refl

pub and_best : (c u : Cell) → IsBestOfTwo (λ a b. truth (is_true a && is_true b)) c u (and_cells c u)
and_best (Known k) (Known l) = two_truths (λ a b. is_true a && is_true b) k l
and_best Unknown (Known l) = go (is_true l) refl
  where
    go : (b : Bool) → is_true l ≡ b → IsBestOfTwo (λ a b. truth (is_true a && is_true b)) Unknown (Known l) (only_if (not b) (truth_cell false))
    go false e = decided Unknown (Known l) (λ a b. is_true a && is_true b) false (pos 0) l zero_is_number refl (λ m n h f. rw (f, e) (and_false (is_true m)))
    go true e = undecided Unknown (Known l) (λ a b. is_true a && is_true b) (pos 1) l (pos 0) l one_is_number refl zero_is_number refl e refl
and_best (Known k) Unknown = go (is_true k) refl
  where
    go : (b : Bool) → is_true k ≡ b → IsBestOfTwo (λ a b. truth (is_true a && is_true b)) (Known k) Unknown (only_if (not b) (truth_cell false))
    go false e = decided (Known k) Unknown (λ a b. is_true a && is_true b) false k (pos 0) refl zero_is_number (λ m n f h. rw (f, e) refl)
    go true e = undecided (Known k) Unknown (λ a b. is_true a && is_true b) k (pos 1) k (pos 0) refl one_is_number refl zero_is_number (rw e refl) (rw e refl)
and_best Unknown Unknown = undecided Unknown Unknown (λ a b. is_true a && is_true b) (pos 1) (pos 1) (pos 0) (pos 0) one_is_number one_is_number zero_is_number zero_is_number refl refl

pub or_best : (c u : Cell) → IsBestOfTwo (λ a b. truth (is_true a || is_true b)) c u (or_cells c u)
or_best (Known k) (Known l) = two_truths (λ a b. is_true a || is_true b) k l
or_best Unknown (Known l) = go (is_true l) refl
  where
    go : (b : Bool) → is_true l ≡ b → IsBestOfTwo (λ a b. truth (is_true a || is_true b)) Unknown (Known l) (only_if b (truth_cell true))
    go true e = decided Unknown (Known l) (λ a b. is_true a || is_true b) true (pos 0) l zero_is_number refl (λ m n h f. rw (f, e) (or_true (is_true m)))
    go false e = undecided Unknown (Known l) (λ a b. is_true a || is_true b) (pos 1) l (pos 0) l one_is_number refl zero_is_number refl refl e
or_best (Known k) Unknown = go (is_true k) refl
  where
    go : (b : Bool) → is_true k ≡ b → IsBestOfTwo (λ a b. truth (is_true a || is_true b)) (Known k) Unknown (only_if b (truth_cell true))
    go true e = decided (Known k) Unknown (λ a b. is_true a || is_true b) true k (pos 0) refl zero_is_number (λ m n f h. rw (f, e) refl)
    go false e = undecided (Known k) Unknown (λ a b. is_true a || is_true b) k (pos 1) k (pos 0) refl one_is_number refl zero_is_number (rw e refl) (rw e refl)
or_best Unknown Unknown = undecided Unknown Unknown (λ a b. is_true a || is_true b) (pos 1) (pos 0) (pos 0) (pos 0) one_is_number zero_is_number zero_is_number zero_is_number refl refl
