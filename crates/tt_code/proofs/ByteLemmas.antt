-- Programs are of bytes.
use Rattle.std.specs.List.{AllByRecursion, concat}
use Rattle.std.proofs.Common.{◌≡◌, ℕ, suc, ◌<◌, List, [], ◌∷◌, ◌++◌, get_or, Fits, w8, sym, subst, rules}
use Rattle.tt_code.specs.Cut.{Instruction, IsCut}

byte_fits : (n : ℕ) → Fits w8 n → n < 256
byte_fits n h = search rules

pub bytes_fit : (bytes : List ℕ) → ((i : ℕ) → Fits w8 (get_or bytes i 0)) → AllByRecursion (λ b. b < 256) bytes
bytes_fit [] h = tt
bytes_fit (b ∷ bytes) h = (byte_fits b (h 0), bytes_fit bytes (λ i. h (suc i)))

parts_fit : (xs ys : List ℕ) → AllByRecursion (λ b. b < 256) (xs ++ ys) → AllByRecursion (λ b. b < 256) xs × AllByRecursion (λ b. b < 256) ys
parts_fit [] ys h = (tt, h)
parts_fit (x ∷ xs) ys h = let (p, q) = parts_fit xs ys h.1 in ((h.0, p), q)

each_fits : (is : List Instruction) → AllByRecursion (λ b. b < 256) (concat is) → AllByRecursion (AllByRecursion (λ b. b < 256)) is
each_fits [] h = tt
each_fits (i ∷ is) h = let (p, q) = parts_fit i (concat is) h in (p, each_fits is q)

pub cut_fits : (bytes : List ℕ) (is view : List Instruction) → IsCut bytes is → is ≡ view → AllByRecursion (λ b. b < 256) bytes → AllByRecursion (AllByRecursion (λ b. b < 256)) view
cut_fits bytes is view cut same h =
    let fits : AllByRecursion (AllByRecursion (λ b. b < 256)) is = each_fits is (subst (λ (x : List ℕ). AllByRecursion (λ b. b < 256) x) (sym cut.joined) h) in
    subst (λ (x : List Instruction). AllByRecursion (AllByRecursion (λ b. b < 256)) x) same fits
