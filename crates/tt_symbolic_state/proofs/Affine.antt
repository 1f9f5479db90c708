-- Whole numbers: products with sums, and their order.
use Rattle.std.specs.Prelude.{FitsSigned}
use Rattle.std.specs.Int.{w32}
use Rattle.std.proofs.Common.{◌≡◌, ℕ, suc, ◌+◌, ◌*◌, ◌≤◌, ℤ, pos, negsuc, ◌+ℤ◌, ◌*ℤ◌, ◌≤ℤ◌, ap, ◌∙◌, arith}
use Rattle.std.proofs.lemmas.Int.{ints}
use Rattle.std.proofs.Math.Nat.{mul-le-mul_left, mul-le-mul}
use Rattle.std.proofs.Math.IntN.{*ℤ_comm}
use borrow.Author.Differences.{up, down, sum_is_lem, product_is}

pub same_number : (a b : ℤ) → up a + down b ≡ up b + down a → a ≡ b
same_number a b h = omega (arith, ints)

pub times_sum : (a b x : ℤ) → (a +ℤ b) *ℤ x ≡ (a *ℤ x) +ℤ (b *ℤ x)
times_sum a b x =
    let s : up (a +ℤ b) + down a + down b ≡ down (a +ℤ b) + up a + up b = sum_is_lem a b in
    let p = product_is (a +ℤ b) x in
    let q = product_is a x in
    let r = product_is b x in
    let t = sum_is_lem (a *ℤ x) (b *ℤ x) in
    let u = ap (λ (n : ℕ). n * up x) s in
    let d = ap (λ (n : ℕ). n * down x) s in
    same_number ((a +ℤ b) *ℤ x) ((a *ℤ x) +ℤ (b *ℤ x)) (omega arith)

pub times_mono : (f : ℕ) (x y : ℤ) → x ≤ℤ y → (pos f *ℤ x) ≤ℤ (pos f *ℤ y)
times_mono f x y h =
    let le : up x + down y ≤ up y + down x = omega (arith, ints) in
    let m : f * (up x + down y) ≤ f * (up y + down x) = mul-le-mul_left f le in
    let p = product_is (pos f) x in
    let q = product_is (pos f) y in
    omega (arith, ints, p, q)

pub times_anti : (f : ℕ) (x y : ℤ) → x ≤ℤ y → (negsuc f *ℤ y) ≤ℤ (negsuc f *ℤ x)
times_anti f x y h =
    let le : up x + down y ≤ up y + down x = omega (arith, ints) in
    let m : suc f * (up x + down y) ≤ suc f * (up y + down x) = mul-le-mul_left (suc f) le in
    let p = product_is (negsuc f) x in
    let q = product_is (negsuc f) y in
    omega (arith, ints, p, q)

small : (a b : ℕ) → a ≤ 2147483648 → b ≤ 2147483648 → a * b ≤ 4611686018427387904
small a b h k = mul-le-mul h k

-- a product of two numbers of 32 bits has less than 63 bits
pub product_small : (a b : ℤ) → FitsSigned w32 a → FitsSigned w32 b → (negsuc 4611686018427387903 ≤ℤ (a *ℤ b)) × ((a *ℤ b) ≤ℤ pos 4611686018427387904)
product_small (pos a) (pos b) h k = let m = small a b (omega (arith, ints)) (omega (arith, ints)) in (omega (arith, ints), omega (arith, ints))
product_small (pos a) (negsuc b) h k = let m = small a (suc b) (omega (arith, ints)) (omega (arith, ints)) in let p = product_is (pos a) (negsuc b) in (omega (arith, ints, p), omega (arith, ints, p))
product_small (negsuc a) (pos b) h k = let m = small (suc a) b (omega (arith, ints)) (omega (arith, ints)) in let p = product_is (negsuc a) (pos b) in (omega (arith, ints, p), omega (arith, ints, p))
product_small (negsuc a) (negsuc b) h k = let m = small (suc a) (suc b) (omega (arith, ints)) (omega (arith, ints)) in let p = product_is (negsuc a) (negsuc b) in (omega (arith, ints, p), omega (arith, ints, p))

-- a product of three numbers
pub times_assoc : (f g x : ℤ) → f *ℤ (g *ℤ x) ≡ (f *ℤ g) *ℤ x
times_assoc f g x =
    let p = product_is f (g *ℤ x) in
    let q = product_is g x in
    let r = product_is (f *ℤ g) x in
    let s = product_is f g in
    let a = ap (λ (n : ℕ). up f * n) q.0 in
    let b = ap (λ (n : ℕ). down f * n) q.0 in
    let c = ap (λ (n : ℕ). up f * n) q.1 in
    let d = ap (λ (n : ℕ). down f * n) q.1 in
    let e = ap (λ (n : ℕ). n * up x) s.0 in
    let g' = ap (λ (n : ℕ). n * down x) s.0 in
    let h = ap (λ (n : ℕ). n * up x) s.1 in
    let i = ap (λ (n : ℕ). n * down x) s.1 in
    same_number (f *ℤ (g *ℤ x)) ((f *ℤ g) *ℤ x) (omega arith)

pub times_sum_left : (f a b : ℤ) → f *ℤ (a +ℤ b) ≡ (f *ℤ a) +ℤ (f *ℤ b)
times_sum_left f a b = *ℤ_comm f (a +ℤ b) ∙ times_sum a b f ∙ ap (λ (z : ℤ). z +ℤ (b *ℤ f)) (*ℤ_comm a f) ∙ ap (λ (z : ℤ). (f *ℤ a) +ℤ z) (*ℤ_comm b f)
