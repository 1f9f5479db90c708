use Rattle.std.proofs.Common.{rules}
use Rattle.std.specs.Prelude.{FitsSigned}
use Rattle.std.specs.Int.{w32, w64}
use Rattle.std.proofs.lemmas.Int.{to_z-of_z}
use Rattle.tt_symbolic_cells.proofs.Exacts.{near_exactly, near_range}
use Rattle.tt_symbolic_cells.proofs.exact.divided_by.Goals as goal

pub returns-in-Some : goal.returns-in-Some
returns-in-Some c =
    let d : FitsSigned w32 c.args.divisor = search rules in
    near_exactly c.args.cell c.in-Some.quotient c.args.divisor c.args.ranges.now c.requires (simp to_z-of_z at c.in-Some.ensures)

pub returns-in_ok-range-in-None : goal.returns-in_ok-range-in-None
returns-in_ok-range-in-None c =
    let d : FitsSigned w32 c.args.divisor = search rules in
    let a : FitsSigned w64 c.in_ok-low-in-None.low = search rules in
    let b : FitsSigned w64 c.in_ok-low-in-None.high = search rules in
    near_range c.args.cell c.args.divisor c.args.ranges.now c.in_ok-low-in-None.low c.in_ok-low-in-None.high c.in_ok-range-in-None.range c.in_ok-low-in-None.ensures (simp to_z-of_z at c.in_ok-range-in-None.ensures)
