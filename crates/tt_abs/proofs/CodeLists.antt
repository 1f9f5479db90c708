-- Lists of codes only: their differences, their order, and the least codes above two lists.
use Rattle.std.specs.Prelude.{◌↔◌, ◌^◌, Bool, true, false, nat_eq, if◌then◌else◌, take}
use Rattle.std.specs.Int.{cast_signed, cast_unsigned, w16}
use Rattle.std.specs.Int.Bits.{bit_or, bit_xor, or_zero_l, xor_add_and, xor_self}
use Rattle.std.proofs.Common.{◌≡◌, ℕ, ◌+◌, ◌<◌, ◌≤◌, List, get_or, sym, ◌∙◌, ap, subst, arith, inl, inr, length, refl, set, below_more}
use Rattle.std.proofs.Math.ListN.{length-take}
use Rattle.std.proofs.lemmas.Bool.{cases_lt, eqb-true}
use Rattle.std.proofs.lemmas.Int.{of_z-to_z}
use Rattle.std.proofs.lemmas.Nat.{and_le_l, and_le_r, le_or_l, le_or_r}
use Rattle.std.proofs.lemmas.List.{ext_get_or, get_or-map, get_or_past, get_or-set_other, get_or-set_same, get_or-take, length-map}
use Rattle.tt_abs.specs.declared.cells.Cell.{Cell}
use Rattle.tt_abs.specs.declared.cells.Cell.TheVariants.{Known, Unknown}
use Rattle.tt_abs.specs.CellOrders.{CellBelow}
use Rattle.tt_abs.specs.Representation.Codes.{cell_of_code, cells_of}
use Rattle.tt_abs.specs.Stacks.{cell_at, IsLeastCell, StackBelow}

-- the cell of a place's code
pub code_at : (codes : List ℕ) (k : ℕ) → k < length codes → cell_at (cells_of codes) k ≡ cell_of_code (get_or codes k 0)
code_at codes k h = get_or-map cell_of_code codes k 0 Unknown h

pub code_past : (codes : List ℕ) (k : ℕ) → length codes ≤ k → cell_at (cells_of codes) k ≡ Unknown
code_past codes k h = let l : length (cells_of codes) ≡ length codes = length-map codes cell_of_code in get_or_past (cells_of codes) k Unknown (omega arith)

-- codes of one length, each below its partner
pub below_from_codes : (a b : List ℕ) → length a ≡ length b
    → ((k : ℕ) → k < length a → CellBelow (cell_of_code (get_or a k 0)) (cell_of_code (get_or b k 0))) → StackBelow (cells_of a) (cells_of b)
below_from_codes a b long h = record { depth = length-map a cell_of_code ∙ long ∙ sym (length-map b cell_of_code); cells = at }
  where
    below : (c d e f : Cell) → c ≡ d → e ≡ f → CellBelow d f → CellBelow c e
    below c d e f p q h = let P : Cell → Type 0 = λ x. CellBelow x e in let Q : Cell → Type 0 = λ x. CellBelow d x in
        subst P (sym p) (subst Q (sym q) h)

    at : (k : ℕ) → CellBelow (cell_at (cells_of a) k) (cell_at (cells_of b) k)
    at k = elim (cases_lt k (length a)) [
      | inl lt ↦ below _ _ _ _ (code_at a k lt) (code_at b k (omega arith)) (h k lt)
      | inr ge ↦ below _ _ _ _ (code_past a k ge) (code_past b k (omega arith)) tt
    ]

pub codes_from_below : (a b : List ℕ) → StackBelow (cells_of a) (cells_of b) → (k : ℕ) → k < length a
    → CellBelow (cell_of_code (get_or a k 0)) (cell_of_code (get_or b k 0))
codes_from_below a b h k lt =
    let one : length (cells_of a) ≡ length a = length-map a cell_of_code in
    let two : length (cells_of b) ≡ length b = length-map b cell_of_code in
    let depth : length (cells_of a) ≡ length (cells_of b) = h.depth in
    let P : Cell → Type 0 = λ x. CellBelow x (cell_of_code (get_or b k 0)) in
    let Q : Cell → Type 0 = λ x. CellBelow (cell_at (cells_of a) k) x in
    subst P (code_at a k lt) (subst Q (code_at b k (omega arith)) (h.cells k))

-- the least of each two codes
least_of_unknown : IsLeastCell Unknown Unknown Unknown
least_of_unknown = record { in_range = tt; left = tt; right = tt; least = λ d _ p _. p }

pub least_codes : (a b c : List ℕ) → length a ≡ length b → length c ≡ length a
    → ((k : ℕ) → k < length a → IsLeastCell (cell_of_code (get_or a k 0)) (cell_of_code (get_or b k 0)) (cell_of_code (get_or c k 0)))
    → (k : ℕ) → IsLeastCell (cell_at (cells_of a) k) (cell_at (cells_of b) k) (cell_at (cells_of c) k)
least_codes a b c same long h k = elim (cases_lt k (length a)) [
  | inl lt ↦ least _ _ _ _ _ _ (code_at a k lt) (code_at b k (omega arith)) (code_at c k (omega arith)) (h k lt)
  | inr ge ↦ least _ _ _ _ _ _ (code_past a k ge) (code_past b k (omega arith)) (code_past c k (omega arith)) least_of_unknown
]
  where
    least : (c d e f g h : Cell) → c ≡ d → e ≡ f → g ≡ h → IsLeastCell d f h → IsLeastCell c e g
    least c d e f g h p q r l =
        let P : Cell → Type 0 = λ x. IsLeastCell x e g in let Q : Cell → Type 0 = λ x. IsLeastCell d x g in let R : Cell → Type 0 = λ x. IsLeastCell d f x in
        subst P (sym p) (subst Q (sym q) (subst R (sym r) l))

-- one more place is joined
pub joined_more : (old mine theirs : List ℕ) (i code : ℕ) → i < length mine
    → ((k : ℕ) → k < i → IsLeastCell (cell_of_code (get_or old k 0)) (cell_of_code (get_or theirs k 0)) (cell_of_code (get_or mine k 0)))
    → ((k : ℕ) → i ≤ k → get_or mine k 0 ≡ get_or old k 0)
    → IsLeastCell (cell_of_code (get_or mine i 0)) (cell_of_code (get_or theirs i 0)) (cell_of_code code)
    → (k : ℕ) → k < i + 1 → IsLeastCell (cell_of_code (get_or old k 0)) (cell_of_code (get_or theirs k 0)) (cell_of_code (get_or (set mine i code) k 0))
joined_more old mine theirs i code lt done rest joined = below_more _ _
    (λ k h. let P : ℕ → Type 0 = λ c. IsLeastCell (cell_of_code (get_or old k 0)) (cell_of_code (get_or theirs k 0)) (cell_of_code c) in
    subst P (sym (get_or-set_other mine i k code 0 (omega arith))) (done k h))
    (let P : ℕ → Type 0 = λ c. IsLeastCell (cell_of_code (get_or old i 0)) (cell_of_code (get_or theirs i 0)) (cell_of_code c) in
    let Q : ℕ → Type 0 = λ c. IsLeastCell (cell_of_code c) (cell_of_code (get_or theirs i 0)) (cell_of_code code) in
    subst P (sym (get_or-set_same mine i code 0 lt)) (subst Q (rest i (omega arith)) joined))

pub rest_kept : (old mine : List ℕ) (i code : ℕ) → ((k : ℕ) → i ≤ k → get_or mine k 0 ≡ get_or old k 0)
    → (k : ℕ) → i + 1 ≤ k → get_or (set mine i code) k 0 ≡ get_or old k 0
rest_kept old mine i code rest k h = get_or-set_other mine i k code 0 (omega arith) ∙ rest k (omega arith)

-- codes of one cell are one code
code_step : (m n : ℕ) (p q : Bool) → nat_eq m 32768 ≡ p → nat_eq n 32768 ≡ q → m < 2 ^ 16 → n < 2 ^ 16
    → (if p then Unknown else Known (cast_signed w16 m)) ≡ (if q then Unknown else Known (cast_signed w16 n)) → m ≡ n
code_step m n true true p q small small_there e = eqb-true m 32768 p ∙ sym (eqb-true n 32768 q)
code_step m n true false p q small small_there e = cc
code_step m n false true p q small small_there e = cc
code_step m n false false p q small small_there e =
    let same : cast_signed w16 m ≡ cast_signed w16 n = cc in
    sym (of_z-to_z w16 m small) ∙ ap (λ z. cast_unsigned w16 z) same ∙ of_z-to_z w16 n small_there

same_code : (m n : ℕ) → m < 2 ^ 16 → n < 2 ^ 16 → cell_of_code m ≡ cell_of_code n → m ≡ n
same_code m n small small_there e = code_step m n (nat_eq m 32768) (nat_eq n 32768) refl refl small small_there e

-- codes of the same cells are the same
pub same_codes : (a b : List ℕ) (n : ℕ) → n ≤ length a → n ≤ length b
    → ((k : ℕ) → get_or a k 0 < 2 ^ 16) → ((k : ℕ) → get_or b k 0 < 2 ^ 16)
    → take n (cells_of a) ≡ take n (cells_of b) → take n a ≡ take n b
same_codes a b n enough enough_there small small_there e = ext_get_or 0 (take n a) (take n b) (omega (arith, long, long_there)) at
  where
    long : length (take n a) ≡ n
    long = length-take n a ∙ omega arith

    long_there : length (take n b) ≡ n
    long_there = length-take n b ∙ omega arith

    here : (l : List ℕ) (k : ℕ) → n ≤ length l → k < n → cell_at (take n (cells_of l)) k ≡ cell_of_code (get_or l k 0)
    here l k h lt = get_or-take n (cells_of l) k Unknown lt ∙ code_at l k (omega arith)

    at : (k : ℕ) → k < length (take n a) → get_or (take n a) k 0 ≡ get_or (take n b) k 0
    at k h =
        let lt : k < n = omega (arith, long) in
        get_or-take n a k 0 lt
        ∙ same_code (get_or a k 0) (get_or b k 0) (small k) (small_there k)
        (sym (here a k enough lt) ∙ ap (λ (l : List Cell). cell_at l k) e ∙ here b k enough_there lt)
        ∙ sym (get_or-take n b k 0 lt)
