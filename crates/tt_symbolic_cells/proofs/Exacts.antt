-- MAX, MIN, MUL, DIV, FLOOR and CEILING on cells, and the ranges of results.
use Rattle.std.proofs.Common.{◌≡◌, ℕ, suc, ◌*◌, ◌/◌, ℤ, pos, negsuc, ◌+ℤ◌, ◌*ℤ◌, ◌≤ℤ◌, ◌<ℤ◌, List, Bool, true, false, if◌then◌else◌, refl, sym, ◌∙◌, ap, subst, arith}
use Rattle.std.proofs.lemmas.Int.{ints, by_lt_z, int_max_is, int_min_is}
use Rattle.std.proofs.Math.IntN.{*ℤ_comm}
use Rattle.std.specs.Int.{int_max, int_min}
use borrow.Author.Differences.{product_is}
use Rattle.tt_code.specs.States.{IsNumber}
use Rattle.tt_symbolic_state.proofs.Affine.{times_sum, times_mono, times_anti}
use Rattle.tt_symbolic_state.specs.declared.cell.Cell.{Cell}
use Rattle.tt_symbolic_state.specs.declared.cell.Range.{Range}
use Rattle.tt_symbolic_state.specs.CvtMachine.{IsCeiling, IsCommensurable, IsFloor, IsQuotient}
use Rattle.tt_symbolic_state.specs.Values.{Fits, IsWithin, Valuation, value}
use Rattle.tt_symbolic_cells.specs.declared.answer.Answer.{Answer}
use Rattle.tt_symbolic_cells.specs.declared.answer.Answer.TheVariants.{Exactly, Within}
use Rattle.tt_symbolic_cells.specs.declared.exact.Exact.TheVariants as exact
use Rattle.tt_symbolic_cells.specs.Representation.Bounds.{AnswersProduct, AreBounds, IsNear, IsOrdered, IsRangeOf}
use Rattle.tt_symbolic_cells.specs.Answers.{AnswersExact}
use Rattle.tt_symbolic_cells.specs.Answers.{Answers}

-- Products.

above_least : (k x low high least : ℤ) → low ≤ℤ x → x ≤ℤ high → least ≤ℤ (k *ℤ low) → least ≤ℤ (k *ℤ high) → least ≤ℤ (k *ℤ x)
above_least (pos n) x low high least l h a b = let m = times_mono n low x l in omega (arith, ints)
above_least (negsuc n) x low high least l h a b = let m = times_anti n x high h in omega (arith, ints)

below_greatest : (k x low high greatest : ℤ) → low ≤ℤ x → x ≤ℤ high → (k *ℤ low) ≤ℤ greatest → (k *ℤ high) ≤ℤ greatest → (k *ℤ x) ≤ℤ greatest
below_greatest (pos n) x low high greatest l h a b = let m = times_mono n x high h in omega (arith, ints)
below_greatest (negsuc n) x low high greatest l h a b = let m = times_anti n low x l in omega (arith, ints)

pub product_above : (x y a b c d p q r s least : ℤ) → (a ≤ℤ x) × (x ≤ℤ b) → (c ≤ℤ y) × (y ≤ℤ d) → p ≡ a *ℤ c → q ≡ a *ℤ d → r ≡ b *ℤ c → s ≡ b *ℤ d
    → least ≤ℤ p → least ≤ℤ q → least ≤ℤ r → least ≤ℤ s → least ≤ℤ (x *ℤ y)
product_above x y a b c d p q r s least wx wy ep eq er es lp lq lr ls =
    let at_c : least ≤ℤ (c *ℤ x) = above_least c x a b least wx.0 wx.1 (rw (*ℤ_comm c a, ← ep) lp) (rw (*ℤ_comm c b, ← er) lr) in
    let at_d : least ≤ℤ (d *ℤ x) = above_least d x a b least wx.0 wx.1 (rw (*ℤ_comm d a, ← eq) lq) (rw (*ℤ_comm d b, ← es) ls) in
    above_least x y c d least wy.0 wy.1 (rw (*ℤ_comm x c) at_c) (rw (*ℤ_comm x d) at_d)

pub product_below : (x y a b c d p q r s greatest : ℤ) → (a ≤ℤ x) × (x ≤ℤ b) → (c ≤ℤ y) × (y ≤ℤ d) → p ≡ a *ℤ c → q ≡ a *ℤ d → r ≡ b *ℤ c → s ≡ b *ℤ d
    → p ≤ℤ greatest → q ≤ℤ greatest → r ≤ℤ greatest → s ≤ℤ greatest → (x *ℤ y) ≤ℤ greatest
product_below x y a b c d p q r s greatest wx wy ep eq er es lp lq lr ls =
    let at_c : (c *ℤ x) ≤ℤ greatest = below_greatest c x a b greatest wx.0 wx.1 (rw (*ℤ_comm c a, ← ep) lp) (rw (*ℤ_comm c b, ← er) lr) in
    let at_d : (d *ℤ x) ≤ℤ greatest = below_greatest d x a b greatest wx.0 wx.1 (rw (*ℤ_comm d a, ← eq) lq) (rw (*ℤ_comm d b, ← es) ls) in
    below_greatest x y c d greatest wy.0 wy.1 (rw (*ℤ_comm x c) at_c) (rw (*ℤ_comm x d) at_d)

pub product_within : (a b : Cell) (ranges : List Range) (low high : ℤ) (r : Range) → AreBounds (λ x y. x *ℤ y) a b ranges (low, high) → IsRangeOf low high r → AnswersProduct a b ranges (Within r)
product_within a b ranges low high r bounds range = record {
  answers = λ v fits z n these. let w = bounds.between v fits in range.within (value v a *ℤ value v b) z w.0 w.1 these n;
}

-- Quotients.

one_times : (x : ℤ) → pos 1 *ℤ x ≡ x
one_times x = let p = product_is (pos 1) x in omega (arith, ints, p)

-- a product with one more
one_more : (z d : ℤ) → (z +ℤ pos 1) *ℤ d ≡ (z *ℤ d) +ℤ d
one_more z d = times_sum z (pos 1) d ∙ ap (λ (x : ℤ). (z *ℤ d) +ℤ x) (one_times d)

-- the order of multiples of a number above 0
mono_left : (d x y : ℤ) → pos 0 <ℤ d → x ≤ℤ y → (x *ℤ d) ≤ℤ (y *ℤ d)
mono_left (pos n) x y p le = rw (*ℤ_comm x (pos n), *ℤ_comm y (pos n)) (times_mono n x y le)
mono_left (negsuc n) x y p le = absurd (omega (arith, ints))

pub near_within : (d x z low high a b : ℤ) → pos 0 <ℤ d → (low *ℤ d) ≤ℤ a → b ≤ℤ (high *ℤ d) → a ≤ℤ x → x ≤ℤ b → IsNear x d z → (low ≤ℤ z) × (z ≤ℤ high)
near_within d x z low high a b p l h e f near = (
  by_lt_z z low
      (λ less. let m = mono_left d (z +ℤ pos 1) low p (omega (arith, ints)) in let s = one_more z d in let w = near.above in absurd (omega (arith, ints)))
      (λ le. le),
  by_lt_z high z
      (λ less. let m = mono_left d (high +ℤ pos 1) z p (omega (arith, ints)) in let s = one_more high d in let w = near.below in absurd (omega (arith, ints)))
      (λ le. le),
)

pub near_exactly : (cell quotient : Cell) (d : ℤ) (ranges : List Range) → pos 0 <ℤ d → ((v : Valuation) → value v cell ≡ value v quotient *ℤ d) → Answers (λ v z. IsNear (value v cell) d z) ranges (Exactly quotient)
near_exactly cell quotient d ranges p is = record {
  answers = λ v fits z n near.
      let e = is v in
      let w = near_within d (value v cell) z (value v quotient) (value v quotient) (value v cell) (value v cell) p (omega (arith, ints)) (omega (arith, ints)) (omega (arith, ints)) (omega (arith, ints)) near in
      omega (arith, ints);
}

pub near_range : (cell : Cell) (d : ℤ) (ranges : List Range) (low high : ℤ) (r : Range) → ((v : Valuation) → Fits ranges v → (low ≤ℤ value v cell) × (value v cell ≤ℤ high)) → ((x z : ℤ) → low ≤ℤ x → x ≤ℤ high → IsNear x d z → IsWithin r z) → Answers (λ v z. IsNear (value v cell) d z) ranges (Within r)
near_range cell d ranges low high r bounds h = record { answers = λ v fits z n near. let w = bounds v fits in h (value v cell) z w.0 w.1 near }

pub quotient_near : (a b dividend : Cell) (d : ℤ) (ranges : List Range) (answer : Answer) → pos 0 <ℤ d → IsCommensurable d → ((v : Valuation) → Fits ranges v → value v b ≡ d)
    → ((v : Valuation) → Fits ranges v → (value v dividend ≡ value v a *ℤ pos 64) × IsNumber (value v dividend)) → Answers (λ v z. IsNear (value v dividend) d z) ranges answer → AnswersExact exact.Quotient a b ranges answer
quotient_near a b dividend d ranges answer p commensurable known scaled h = record {
  answers = λ v fits z n q.
      let k : value v b ≡ d = known v fits in
      let w = scaled v fits in
      let q' : IsQuotient (value v a) d z = subst (λ (x : ℤ). IsQuotient (value v a) x z) k q in
      let both = q'.near p commensurable (subst IsNumber w.0 w.1) in
      h.answers v fits z n (subst (λ (x : ℤ). IsNear x d z) (sym w.0) (record { above = both.0; below = both.1 }));
}

-- Multiples of 64.

-- of two multiples of 64, less than 64 apart in this direction
pub multiples_order : (p q : ℤ) → (q *ℤ pos 64) <ℤ ((p *ℤ pos 64) +ℤ pos 64) → q ≤ℤ p
multiples_order p q h = by_lt_z p q
    (λ less. let m = mono_left (pos 64) (p +ℤ pos 1) q (omega (arith, ints)) (omega (arith, ints)) in let s = one_more p (pos 64) in absurd (omega (arith, ints)))
    (λ le. le)

multiples_mono : (p q : ℤ) → q ≤ℤ p → (q *ℤ pos 64) ≤ℤ (p *ℤ pos 64)
multiples_mono p q h = mono_left (pos 64) q p (omega (arith, ints)) h

pub floors_mono : (x y z w : ℤ) → IsFloor x z → IsFloor y w → x ≤ℤ y → z ≤ℤ w
floors_mono x y z w f g h =
    let a = f.below in let b = g.greatest in let e = f.is_multiple in let k = g.is_multiple in
    let o : f.multiple ≤ℤ g.multiple = multiples_order g.multiple f.multiple (rw (← e, ← k) (omega (arith, ints))) in
    let m = multiples_mono g.multiple f.multiple o in
    omega (arith, ints)

pub floors_within : (low high least greatest : ℤ) (r : Range) → IsFloor low least → IsFloor high greatest → IsRangeOf least greatest r → (x z : ℤ) → low ≤ℤ x → x ≤ℤ high → IsNumber z → IsFloor x z → IsWithin r z
floors_within low high least greatest r f g range x z l h n is = range.within z z (floors_mono low x least z f is l) (floors_mono x high z greatest is g h) (λ number. refl) n

pub floor_range : (cell : Cell) (ranges : List Range) (low high : ℤ) (r : Range) → ((v : Valuation) → Fits ranges v → (low ≤ℤ value v cell) × (value v cell ≤ℤ high)) → ((x z : ℤ) → low ≤ℤ x → x ≤ℤ high → IsNumber z → IsFloor x z → IsWithin r z)
    → AnswersExact exact.Floor cell cell ranges (Within r)
floor_range cell ranges low high r bounds h = record { answers = λ v fits z n f. let w = bounds v fits in h (value v cell) z w.0 w.1 n f }

pub ceilings_mono : (x y z w : ℤ) → IsCeiling x z → IsCeiling y w → x ≤ℤ y → z ≤ℤ w
ceilings_mono x y z w f g h =
    let a = f.least in let b = g.above in let e = f.is_multiple in let k = g.is_multiple in
    let o : f.multiple ≤ℤ g.multiple = multiples_order g.multiple f.multiple (rw (← e, ← k) (omega (arith, ints))) in
    let m = multiples_mono g.multiple f.multiple o in
    omega (arith, ints)

-- each number has a floor and a ceiling

times_pos : (n : ℕ) → pos n *ℤ pos 64 ≡ pos (n * 64)
times_pos n = let p = product_is (pos n) (pos 64) in omega (arith, ints, p)

times_negsuc : (n : ℕ) → (negsuc n *ℤ pos 64) +ℤ pos (suc n * 64) ≡ pos 0
times_negsuc n = let p = product_is (negsuc n) (pos 64) in omega (arith, ints, p)

floor_exists : (x : ℤ) → (z : ℤ) × IsFloor x z
floor_exists (pos n) = (
  pos (n / 64) *ℤ pos 64,
  record {
    multiple = pos (n / 64);
    is_multiple = refl;
    below = let t = times_pos (n / 64) in omega (arith, ints);
    greatest = let t = times_pos (n / 64) in omega (arith, ints);
  },
)
floor_exists (negsuc n) = (
  negsuc (n / 64) *ℤ pos 64,
  record {
    multiple = negsuc (n / 64);
    is_multiple = refl;
    below = let t = times_negsuc (n / 64) in omega (arith, ints);
    greatest = let t = times_negsuc (n / 64) in omega (arith, ints);
  },
)

ceiling_exists : (x : ℤ) → (z : ℤ) × IsCeiling x z
ceiling_exists x = let (z, f) = floor_exists (x +ℤ pos 63) in (
  z,
  record {
    multiple = f.multiple;
    is_multiple = f.is_multiple;
    above = let a = f.greatest in omega (arith, ints);
    least = let a = f.below in omega (arith, ints);
  },
)

pub ceilings_within : (low high least greatest : ℤ) (r : Range) → IsCeiling low least → IsCeiling high greatest → IsRangeOf least greatest r → (x z : ℤ) → low ≤ℤ x → x ≤ℤ high → IsNumber z → ((c : ℤ) → IsCeiling x c → IsNumber c → z ≡ c) → IsWithin r z
ceilings_within low high least greatest r f g range x z l h n is =
    let (c, at) = ceiling_exists x in
    range.within c z (ceilings_mono low x least c f at l) (ceilings_mono x high c greatest at g h) (λ number. is c at number) n

pub ceiling_exact : (cell whole : Cell) (ranges : List Range) → ((v : Valuation) → Fits ranges v → IsNumber (value v cell)) → ((v : Valuation) → value v cell ≡ value v whole *ℤ pos 64) → AnswersExact exact.Ceiling cell cell ranges (Exactly cell)
ceiling_exact cell whole ranges number is = record {
  answers = λ v fits z n f. f (value v cell) (record { multiple = value v whole; is_multiple = is v; above = omega (arith, ints); least = omega (arith, ints) }) (number v fits);
}

pub ceiling_range : (cell : Cell) (ranges : List Range) (low high : ℤ) (r : Range) → ((v : Valuation) → Fits ranges v → (low ≤ℤ value v cell) × (value v cell ≤ℤ high)) → ((x z : ℤ) → low ≤ℤ x → x ≤ℤ high → IsNumber z → ((c : ℤ) → IsCeiling x c → IsNumber c → z ≡ c) → IsWithin r z)
    → AnswersExact exact.Ceiling cell cell ranges (Within r)
ceiling_range cell ranges low high r bounds h = record { answers = λ v fits z n f. let w = bounds v fits in h (value v cell) z w.0 w.1 n f }

-- The greater and the lesser of two.

pub max_first : (a b : ℤ) → b ≤ℤ a → int_max a b ≡ a
max_first a b h = let e = int_max_is a b in omega (arith, ints)

pub max_second : (a b : ℤ) → a ≤ℤ b → int_max a b ≡ b
max_second a b h = let e = int_max_is a b in omega (arith, ints)

pub min_first : (a b : ℤ) → a ≤ℤ b → int_min a b ≡ a
min_first a b h = let e = int_min_is a b in omega (arith, ints)

pub min_second : (a b : ℤ) → b ≤ℤ a → int_min a b ≡ b
min_second a b h = let e = int_min_is a b in omega (arith, ints)

-- one of the two is this number, which is then below what both are below
abbrev IsGreater : ℤ → ℤ → ℤ → Type 0
IsGreater a b g = (x : ℤ) → a ≤ℤ x → b ≤ℤ x → g ≤ℤ x

abbrev IsLesser : ℤ → ℤ → ℤ → Type 0
IsLesser a b g = (x : ℤ) → x ≤ℤ a → x ≤ℤ b → x ≤ℤ g

module _ (a b : Cell) (ranges : List Range) where
  pub greatest_is : (first : Bool) (cell : Cell) → ((v : Valuation) → Fits ranges v → IsOrdered first (value v a) (value v b)) → cell ≡ (if first then a else b) → AnswersExact exact.Greatest a b ranges (Exactly cell)
  greatest_is true cell h e = record { answers = λ v fits z n is. is ∙ max_first (value v a) (value v b) (h v fits) ∙ ap (value v) (sym e) }
  greatest_is false cell h e = record { answers = λ v fits z n is. is ∙ max_second (value v a) (value v b) (h v fits) ∙ ap (value v) (sym e) }

  pub least_is : (first : Bool) (cell : Cell) → ((v : Valuation) → Fits ranges v → IsOrdered first (value v a) (value v b)) → cell ≡ (if first then b else a) → AnswersExact exact.Least a b ranges (Exactly cell)
  least_is true cell h e = record { answers = λ v fits z n is. is ∙ min_second (value v a) (value v b) (h v fits) ∙ ap (value v) (sym e) }
  least_is false cell h e = record { answers = λ v fits z n is. is ∙ min_first (value v a) (value v b) (h v fits) ∙ ap (value v) (sym e) }

  pub greatest_within : (least most low high bottom top : ℤ) (r : Range) → ((v : Valuation) → Fits ranges v → (least ≤ℤ value v a) × (value v a ≤ℤ most)) → ((v : Valuation) → Fits ranges v → (low ≤ℤ value v b) × (value v b ≤ℤ high))
      → IsGreater least low bottom → most ≤ℤ top → high ≤ℤ top → IsRangeOf bottom top r → AnswersExact exact.Greatest a b ranges (Within r)
  greatest_within least most low high bottom top r wa wb g mt ht range = record {
    answers = λ v fits z n is.
        let p = wa v fits in let q = wb v fits in let e = int_max_is (value v a) (value v b) in
        range.within z z (g z (omega (arith, ints)) (omega (arith, ints))) (omega (arith, ints)) (λ number. refl) n;
  }

  pub least_within : (least most low high bottom top : ℤ) (r : Range) → ((v : Valuation) → Fits ranges v → (least ≤ℤ value v a) × (value v a ≤ℤ most)) → ((v : Valuation) → Fits ranges v → (low ≤ℤ value v b) × (value v b ≤ℤ high))
      → IsLesser most high top → bottom ≤ℤ least → bottom ≤ℤ low → IsRangeOf bottom top r → AnswersExact exact.Least a b ranges (Within r)
  least_within least most low high bottom top r wa wb g mt ht range = record {
    answers = λ v fits z n is.
        let p = wa v fits in let q = wb v fits in let e = int_min_is (value v a) (value v b) in
        range.within z z (omega (arith, ints)) (g z (omega (arith, ints)) (omega (arith, ints))) (λ number. refl) n;
  }
