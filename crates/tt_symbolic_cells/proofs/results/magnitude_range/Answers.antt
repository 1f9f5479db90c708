use Rattle.std.proofs.Common.{rules}
use Rattle.std.specs.Prelude.{FitsSigned}
use Rattle.std.specs.Int.{w64}
use Rattle.std.proofs.lemmas.Int.{to_z-of_z}
use Rattle.tt_symbolic_cells.proofs.Computings.{magnitude_within}
use Rattle.tt_symbolic_cells.proofs.results.magnitude_range.Goals as goal

pub returns-in-Some-magnitude : goal.returns-in-Some-magnitude
returns-in-Some-magnitude c =
    let a : FitsSigned w64 c.in-Some.low = search rules in
    let b : FitsSigned w64 c.in-Some.high = search rules in
    let d : FitsSigned w64 c.in-Some-magnitude.most = search rules in
    magnitude_within c.args.cell c.args.ranges.now c.in-Some.low c.in-Some.high c.in-Some-magnitude.most c.range_between.result c.in-Some.ensures (simp to_z-of_z at c.in-Some-magnitude.ensures) (simp to_z-of_z at c.range_between.ensures)
