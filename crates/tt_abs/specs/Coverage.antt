-- How an order and coverage belong together.
use Rattle.std.specs.Prelude.{◌↔◌}
use Rattle.tt_abs.specs.Orders.{Order}

-- of two values in range, one is below the other exactly if the other covers all that it covers
abbrev pub IsCoverage : {S M : Type 0} → Order S → (S → M → Type 0) → Type 0
IsCoverage {S} {M} o Covers =
    (a b : S) → o.InRange a → o.InRange b → o.Below a b ↔ ((m : M) → Covers a m → Covers b m)
