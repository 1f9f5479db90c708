use Rattle.std.proofs.Common.{rules, arith, ◌≡◌, ◌*ℤ◌}
use Rattle.std.specs.Prelude.{FitsSigned}
use Rattle.std.specs.Int.{w32, w64}
use Rattle.std.proofs.lemmas.Int.{ints, to_z-of_z}
use Rattle.tt_symbolic_cells.proofs.Exacts.{near_within}
use Rattle.tt_symbolic_cells.proofs.exact.quotients.Goals as goal

pub returns : goal.returns
returns c = λ x z lx xh near.
    let d : FitsSigned w32 c.args.divisor = search rules in
    let l : FitsSigned w32 c.in_ok-least.least = search rules in
    let g : FitsSigned w32 c.in_ok-greatest.greatest = search rules in
    let m : FitsSigned w64 c.product_of.result = search rules in
    let n : FitsSigned w64 c.product_of-2.result = search rules in
    let a : FitsSigned w64 c.args.low = search rules in
    let b : FitsSigned w64 c.args.high = search rules in
    let e : c.product_of.result ≡ c.in_ok-least.least *ℤ c.args.divisor = simp to_z-of_z at c.product_of.ensures in
    let f : c.product_of-2.result ≡ c.in_ok-greatest.greatest *ℤ c.args.divisor = simp to_z-of_z at c.product_of-2.ensures in
    simp to_z-of_z (near_within c.args.divisor x z c.in_ok-least.least c.in_ok-greatest.greatest c.args.low c.args.high c.requires (rw (← e) (omega (arith, ints))) (rw (← f) (omega (arith, ints))) lx xh near)
