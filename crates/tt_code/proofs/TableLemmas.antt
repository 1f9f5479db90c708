-- The array of entries agrees with the table at each code.
use Rattle.std.proofs.Common.{◌≡◌, ℕ, zero, suc, ◌+◌, ◌<◌, List, [], ◌∷◌, get_or, ◌∙◌, ap, arith, add-zero}
use Rattle.std.specs.Prelude.{map}
use Rattle.tt_code.specs.Entries.{codes_from}

-- what is at i in a list that agrees with f from the first code on
pub agrees_at : {E A : Type 0} (n first i : ℕ) (es : List E) (view : E → A) (f : ℕ → A) (d : E) → i < n → map view es ≡ map f (codes_from first n)
    → view (get_or es i d) ≡ f (first + i)
agrees_at zero first i es view f d h e = absurd (omega arith)
agrees_at (suc n) first i [] view f d h e = cc
agrees_at (suc n) first zero (x ∷ es) view f d h e = rw add-zero (cc)
agrees_at (suc n) first (suc i) (x ∷ es) view f d h e =
    let rest : map view es ≡ map f (codes_from (first + 1) n) = cc in
    let less : i < n = omega arith in
    let shift : (first + 1) + i ≡ first + suc i = omega arith in
    agrees_at n (first + 1) i es view f d less rest ∙ ap f shift
