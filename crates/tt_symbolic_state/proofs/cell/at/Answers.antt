use Rattle.std.proofs.Common.{arith, rules, ◌≡◌, ◌*ℤ◌, ◌+ℤ◌}
use Rattle.std.specs.Prelude.{FitsSigned}
use Rattle.std.specs.Int.{w32, w64}
use Rattle.std.proofs.lemmas.Int.{ints, to_z-of_z}
use Rattle.tt_symbolic_state.proofs.Values.{product_fits, affine_fits}
use Rattle.tt_symbolic_state.proofs.cell.at.Goals as goal

pub overflow_add-result : goal.overflow_add-result
overflow_add-result c =
    let f : FitsSigned w32 c.args.cell.factor = search rules in
    let n : FitsSigned w32 c.args.number = search rules in
    let o : FitsSigned w32 c.args.cell.offset = search rules in
    let fa : FitsSigned w64 c.args.cell.factor = omega (arith, ints) in
    let na : FitsSigned w64 c.args.number = omega (arith, ints) in
    let oa : FitsSigned w64 c.args.cell.offset = omega (arith, ints) in
    let fe : c.from.result ≡ c.args.cell.factor = omega (arith, ints) in
    let ne : c.from-2.result ≡ c.args.number = omega (arith, ints) in
    let oe : c.from-3.result ≡ c.args.cell.offset = omega (arith, ints) in
    let p : FitsSigned w64 (c.args.cell.factor *ℤ c.args.number) = product_fits c.args.cell.factor c.args.number f n in
    rw (fe, ne, oe) (simp to_z-of_z (affine_fits c.args.cell.factor c.args.number c.args.cell.offset f n o))

pub returns : goal.returns
returns c =
    let f : FitsSigned w32 c.args.cell.factor = search rules in
    let n : FitsSigned w32 c.args.number = search rules in
    let o : FitsSigned w32 c.args.cell.offset = search rules in
    let fa : FitsSigned w64 c.args.cell.factor = omega (arith, ints) in
    let na : FitsSigned w64 c.args.number = omega (arith, ints) in
    let oa : FitsSigned w64 c.args.cell.offset = omega (arith, ints) in
    let fe : c.from.result ≡ c.args.cell.factor = omega (arith, ints) in
    let ne : c.from-2.result ≡ c.args.number = omega (arith, ints) in
    let oe : c.from-3.result ≡ c.args.cell.offset = omega (arith, ints) in
    let p : FitsSigned w64 (c.args.cell.factor *ℤ c.args.number) = product_fits c.args.cell.factor c.args.number f n in
    let q : FitsSigned w64 (c.args.cell.factor *ℤ c.args.number +ℤ c.args.cell.offset) = affine_fits c.args.cell.factor c.args.number c.args.cell.offset f n o in
    rw (fe, ne, oe) (simp to_z-of_z)
