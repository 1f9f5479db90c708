use Rattle.std.proofs.Common.{rules, arith, pos}
use Rattle.std.specs.Prelude.{FitsSigned}
use Rattle.std.specs.Int.{w32, w64}
use Rattle.std.proofs.lemmas.Int.{ints, to_z-of_z}
use Rattle.tt_symbolic_cells.proofs.Exacts.{ceiling_exact, ceiling_range}
use Rattle.tt_symbolic_cells.proofs.Computings.{number_from}
use Rattle.tt_symbolic_cells.proofs.exact.fixed_ceiling.Goals as goal

pub returns-in_ok-range-in-None : goal.returns-in_ok-range-in-None
returns-in_ok-range-in-None c =
    let a : FitsSigned w64 c.in_ok-low-in-None.low = search rules in
    let b : FitsSigned w64 c.in_ok-low-in-None.high = search rules in
    ceiling_range c.args.cell c.args.ranges.now c.in_ok-low-in-None.low c.in_ok-low-in-None.high c.in_ok-range-in-None.range c.in_ok-low-in-None.ensures (simp to_z-of_z at c.in_ok-range-in-None.ensures)

pub returns-in-Some : goal.returns-in-Some
returns-in-Some c =
    let k : FitsSigned w32 (pos 64) = omega (arith, ints) in
    ceiling_exact c.args.cell c.in-Some.field-0 c.args.ranges.now (λ v fits. number_from _ (c.is_in_machine.ensures (search rules) v fits)) c.in-Some.ensures
