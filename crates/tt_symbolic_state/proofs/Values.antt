-- The value of a cell.
use Rattle.std.proofs.Common.{◌≡◌, ℕ, ℤ, pos, negsuc, ◌+ℤ◌, ◌-ℤ◌, ◌*ℤ◌, ◌≤ℤ◌, ◌<ℤ◌, refl, sym, ◌∙◌, ap, arith, ◌⊎◌, inl, inr}
use Rattle.std.proofs.lemmas.Int.{ints}
use Rattle.std.specs.Prelude.{FitsSigned, List, Some, slice_get}
use Rattle.std.specs.Int.{w32, w64}
use mir.Val.{of_z}
use borrow.Author.Differences.{product_is}
use Rattle.std.proofs.Math.IntN.{*ℤ_comm, zero-*ℤ, +ℤ_idl, +ℤ_idr}
use Rattle.tt_symbolic_state.specs.declared.cell.Cell.{Cell}
use Rattle.tt_symbolic_state.specs.declared.cell.Range.{Range}
use Rattle.tt_symbolic_state.specs.Values.{Fits, Valuation, value}
use Rattle.tt_symbolic_state.proofs.Affine.{times_sum, times_mono, times_anti, same_number, product_small, times_assoc}

pub value_is : (v : Valuation) (c : Cell) → value v c ≡ (c.factor *ℤ v c.symbol) +ℤ c.offset
unfolding value
value_is v c = refl

pub constant : (f x o : ℤ) → f ≡ pos 0 → (f *ℤ x) +ℤ o ≡ o
constant f x o e = rw (e, zero-*ℤ x, +ℤ_idl o) refl

pub value_constant : (v : Valuation) (c : Cell) → c.factor ≡ pos 0 → value v c ≡ c.offset
value_constant v c e = value_is v c ∙ constant c.factor (v c.symbol) c.offset e

one_times : (x : ℤ) → pos 1 *ℤ x ≡ x
one_times x = let p = product_is (pos 1) x in same_number (pos 1 *ℤ x) x (omega (arith, p))

pub value_symbol : (v : Valuation) (s : ℕ) → value v (record { symbol = s; factor = pos 1; offset = pos 0 }) ≡ v s
value_symbol v s = value_is v (record { symbol = s; factor = pos 1; offset = pos 0 }) ∙ +ℤ_idr (pos 1 *ℤ v s) ∙ one_times (v s)

-- between the values at the ends of a range
pub between_up : (f x o low high : ℤ) → pos 0 <ℤ f → low ≤ℤ x → x ≤ℤ high → (((f *ℤ low) +ℤ o) ≤ℤ ((f *ℤ x) +ℤ o)) × (((f *ℤ x) +ℤ o) ≤ℤ ((f *ℤ high) +ℤ o))
between_up (pos f) x o low high p l h =
    let a = times_mono f low x l in
    let b = times_mono f x high h in
    (omega (arith, ints), omega (arith, ints))
between_up (negsuc f) x o low high p l h = absurd (omega (arith, ints))

pub between_down : (f x o low high : ℤ) → f ≤ℤ pos 0 → low ≤ℤ x → x ≤ℤ high → (((f *ℤ high) +ℤ o) ≤ℤ ((f *ℤ x) +ℤ o)) × (((f *ℤ x) +ℤ o) ≤ℤ ((f *ℤ low) +ℤ o))
between_down (pos f) x o low high p l h =
    let z : f ≡ 0 = omega (arith, ints) in
    let e : (y : ℤ) → (pos f *ℤ y) +ℤ o ≡ o = λ y. constant (pos f) y o (ap pos z) in
    rw (e high, e low, e x) (omega (arith, ints), omega (arith, ints))
between_down (negsuc f) x o low high p l h =
    let a = times_anti f low x l in
    let b = times_anti f x high h in
    (omega (arith, ints), omega (arith, ints))

-- the sum and the difference of two expressions of one symbol
pub sum_is_value : (v : Valuation) (s : ℕ) (f g o p a b : ℤ) → a ≡ (f *ℤ v s) +ℤ o → b ≡ (g *ℤ v s) +ℤ p → value v (record { symbol = s; factor = f +ℤ g; offset = o +ℤ p }) ≡ a +ℤ b
sum_is_value v s f g o p a b e h =
    let w = value_is v (record { symbol = s; factor = f +ℤ g; offset = o +ℤ p }) in
    let t = times_sum f g (v s) in
    w ∙ rw (e, h) (omega (arith, ints))

pub difference_is_value : (v : Valuation) (s : ℕ) (f g o p a b : ℤ) → a ≡ (f *ℤ v s) +ℤ o → b ≡ (g *ℤ v s) +ℤ p → value v (record { symbol = s; factor = f -ℤ g; offset = o -ℤ p }) ≡ a -ℤ b
difference_is_value v s f g o p a b e h =
    let w = value_is v (record { symbol = s; factor = f -ℤ g; offset = o -ℤ p }) in
    let t = times_sum (f -ℤ g) g (v s) in
    let u : (f -ℤ g) +ℤ g ≡ f = omega (arith, ints) in
    let k : (f *ℤ v s) ≡ ((f -ℤ g) *ℤ v s) +ℤ (g *ℤ v s) = ap (λ (n : ℤ). n *ℤ v s) (sym u) ∙ t in
    w ∙ rw (e, h) (omega (arith, ints))

pub zero_bits : (f : ℤ) → FitsSigned w32 f → of_z w32 f ≡ 0 → f ≡ pos 0
zero_bits (pos n) h e = ap pos e
zero_bits (negsuc n) h e = absurd (omega (arith, ints))

-- a product and a sum fit 64 bits
pub product_fits : (f x : ℤ) → FitsSigned w32 f → FitsSigned w32 x → FitsSigned w64 (f *ℤ x)
product_fits f x hf hx = let p = product_small f x hf hx in omega (arith, ints)

pub affine_fits : (f x o : ℤ) → FitsSigned w32 f → FitsSigned w32 x → FitsSigned w32 o → FitsSigned w64 ((f *ℤ x) +ℤ o)
affine_fits f x o hf hx ho = let p = product_small f x hf hx in omega (arith, ints)

pub bounds_up : (ranges : List Range) (v : Valuation) (c : Cell) (r : Range) (a b : ℤ) → Fits ranges v → slice_get ranges c.symbol ≡ Some r → pos 0 <ℤ c.factor
    → a ≡ c.factor *ℤ r.low +ℤ c.offset → b ≡ c.factor *ℤ r.high +ℤ c.offset → (a ≤ℤ value v c) × (value v c ≤ℤ b)
bounds_up ranges v c r a b fits found up ea eb =
    let within = fits.each c.symbol r found in
    rw (ea, eb, value_is v c) (between_up c.factor (v c.symbol) c.offset r.low r.high up within.0 within.1)

pub bounds_down : (ranges : List Range) (v : Valuation) (c : Cell) (r : Range) (a b : ℤ) → Fits ranges v → slice_get ranges c.symbol ≡ Some r → c.factor ≤ℤ pos 0
    → a ≡ c.factor *ℤ r.high +ℤ c.offset → b ≡ c.factor *ℤ r.low +ℤ c.offset → (a ≤ℤ value v c) × (value v c ≤ℤ b)
bounds_down ranges v c r a b fits found down ea eb =
    let within = fits.each c.symbol r found in
    rw (ea, eb, value_is v c) (between_down c.factor (v c.symbol) c.offset r.low r.high down within.0 within.1)

pub one_is : (v : Valuation) (a b : Cell) → a.factor ≡ pos 0 ⊎ a.symbol ≡ b.symbol → (value v a ≡ a.factor *ℤ v b.symbol +ℤ a.offset) × (value v b ≡ b.factor *ℤ v b.symbol +ℤ b.offset)
one_is v a b (inl z) = (value_is v a ∙ constant a.factor (v a.symbol) a.offset z ∙ sym (constant a.factor (v b.symbol) a.offset z), value_is v b)
one_is v a b (inr e) = (value_is v a ∙ ap (λ s. a.factor *ℤ v s +ℤ a.offset) e, value_is v b)

pub apart : (x y low high : ℤ) (mine theirs : ℤ × ℤ) → (mine.0 ≤ℤ x) × (x ≤ℤ mine.1) → (theirs.0 ≤ℤ y) × (y ≤ℤ theirs.1) → low ≡ mine.0 -ℤ theirs.1 → high ≡ mine.1 -ℤ theirs.0
    → (low ≤ℤ (x -ℤ y)) × ((x -ℤ y) ≤ℤ high)
apart x y low high mine theirs h k e f = rw (e, f) (omega (arith, ints), omega (arith, ints))

-- a multiple of an expression
pub scaled_is_value : (v : Valuation) (s : ℕ) (f o k a : ℤ) → a ≡ (f *ℤ v s) +ℤ o → value v (record { symbol = s; factor = f *ℤ k; offset = o *ℤ k }) ≡ a *ℤ k
scaled_is_value v s f o k a e =
    let w = value_is v (record { symbol = s; factor = f *ℤ k; offset = o *ℤ k }) in
    let m : (f *ℤ k) *ℤ v s ≡ (f *ℤ v s) *ℤ k = sym (times_assoc f k (v s)) ∙ ap (λ (z : ℤ). f *ℤ z) (*ℤ_comm k (v s)) ∙ times_assoc f (v s) k in
    w ∙ ap (λ (z : ℤ). z +ℤ (o *ℤ k)) m ∙ sym (times_sum (f *ℤ v s) o k) ∙ ap (λ (z : ℤ). z *ℤ k) (sym e)

pub same_parts : (v : Valuation) (a b : Cell) → a.symbol ≡ b.symbol → a.factor ≡ b.factor → a.offset ≡ b.offset → value v a ≡ value v b
same_parts v a b s e f = value_is v a ∙ rw (e, f, s) (sym (value_is v b))
