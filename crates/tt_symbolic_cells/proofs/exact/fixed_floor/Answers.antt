use Rattle.std.proofs.Common.{rules}
use Rattle.std.specs.Prelude.{FitsSigned}
use Rattle.std.specs.Int.{w64}
use Rattle.std.proofs.lemmas.Int.{to_z-of_z}
use Rattle.tt_symbolic_cells.proofs.Exacts.{floor_range}
use Rattle.tt_symbolic_cells.proofs.exact.fixed_floor.Goals as goal

pub returns-in_ok-range-in-None : goal.returns-in_ok-range-in-None
returns-in_ok-range-in-None c =
    let a : FitsSigned w64 c.in_ok-low-in-None.low = search rules in
    let b : FitsSigned w64 c.in_ok-low-in-None.high = search rules in
    floor_range c.args.cell c.args.ranges.now c.in_ok-low-in-None.low c.in_ok-low-in-None.high c.in_ok-range-in-None.range c.in_ok-low-in-None.ensures (simp to_z-of_z at c.in_ok-range-in-None.ensures)
