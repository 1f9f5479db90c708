-- What is found at a place of a list that is kept in the other direction.
use Rattle.std.specs.Prelude.{reverse}
use Rattle.std.proofs.Common.{◌≡◌, ℕ, zero, suc, ◌-◌, ◌<◌, List, [], ◌∷◌, Some, get_or, refl, sym, ◌∙◌, ap, arith, length, drop}
use Rattle.std.proofs.lemmas.List.{get_or-reverse, length-reverse}
use Rattle.tt_abs.specs.Stacks.{first}

pub first_at : {A : Type 0} (n : ℕ) (xs : List A) (d : A) → n < length xs → Some (get_or xs n d) ≡ first (drop n xs)
first_at n [] d h = absurd (omega arith)
first_at zero (x ∷ xs) d h = refl
first_at (suc n) (x ∷ xs) d h = first_at n xs d (omega arith)

pub under_is : {A : Type 0} (cells stack : List A) (n : ℕ) (d : A) → reverse cells ≡ stack → n < length cells
    → Some (get_or cells (length cells - 1 - n) d) ≡ first (drop n stack)
under_is cells stack n d e h =
    let l : length (reverse cells) ≡ length cells = length-reverse cells in
    ap Some (sym (get_or-reverse cells n d h)) ∙ first_at n (reverse cells) d (omega arith) ∙ ap (λ x. first (drop n x)) e
