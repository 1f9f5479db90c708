use Rattle.std.proofs.Common.{rules, arith, pos}
use Rattle.std.specs.Prelude.{FitsSigned}
use Rattle.std.specs.Int.{w32}
use Rattle.std.proofs.lemmas.Int.{ints, to_z-of_z}
use Rattle.tt_symbolic_cells.proofs.Exacts.{quotient_near}
use Rattle.tt_symbolic_cells.proofs.exact.fixed_quotient.Goals as goal

pub returns : goal.returns
returns c =
    let d : FitsSigned w32 c.in_ok-divisor.divisor = search rules in
    let k : FitsSigned w32 (pos 64) = omega (arith, ints) in
    quotient_near c.args.a c.args.b c.in_ok-dividend.dividend c.in_ok-divisor.divisor c.args.ranges.now c.in_ok-quotient.quotient (omega (arith, ints)) (simp to_z-of_z at (c.is_commensurable.ensures (search rules))) c.in_ok-divisor.ensures c.in_ok-dividend.ensures (simp to_z-of_z at c.in_ok-quotient.ensures)
