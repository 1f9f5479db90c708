use Rattle.std.proofs.Common.{rules, ◌≡◌, ◌+ℤ◌, ◌*ℤ◌}
use Rattle.std.specs.Prelude.{FitsSigned}
use Rattle.std.specs.Int.{w32}
use Rattle.std.proofs.lemmas.Int.{to_z-of_z}
use Rattle.tt_symbolic_check.proofs.Agreeing.{scaled_value}
use Rattle.tt_symbolic_check.proofs.covering.scaled.Goals as goal

pub returns : goal.returns
returns c = λ v.
    let f : FitsSigned w32 c.args.factor = search rules in
    let g : FitsSigned w32 c.args.cell.factor = search rules in
    let o : FitsSigned w32 c.args.cell.offset = search rules in
    let q : FitsSigned w32 c.args.offset = search rules in
    let p : FitsSigned w32 c.in_ok-product.product = search rules in
    let s : FitsSigned w32 c.in_ok-shift.shift = search rules in
    let n : FitsSigned w32 c.in_ok-number.number = search rules in
    let pe : c.in_ok-product.product ≡ c.args.factor *ℤ c.args.cell.factor = simp to_z-of_z at c.in_ok-product.ensures.1 in
    let se : c.in_ok-shift.shift ≡ c.args.factor *ℤ c.args.cell.offset = simp to_z-of_z at c.in_ok-shift.ensures.1 in
    let ne : c.in_ok-number.number ≡ c.in_ok-shift.shift +ℤ c.args.offset = simp to_z-of_z at c.in_ok-number.ensures.1 in
    simp to_z-of_z (scaled_value v c.args.factor c.args.offset c.in_ok-product.product c.in_ok-number.number c.args.cell pe (rw (← se) ne))
