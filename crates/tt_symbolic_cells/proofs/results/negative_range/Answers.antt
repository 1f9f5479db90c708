use Rattle.std.proofs.Common.{rules}
use Rattle.std.specs.Prelude.{FitsSigned}
use Rattle.std.specs.Int.{w64}
use Rattle.std.proofs.lemmas.Int.{to_z-of_z}
use Rattle.tt_symbolic_cells.proofs.Computings.{negative_within}
use Rattle.tt_symbolic_cells.proofs.results.negative_range.Goals as goal

pub returns-in-Some : goal.returns-in-Some
returns-in-Some c =
    let a : FitsSigned w64 c.in-Some.low = search rules in
    let b : FitsSigned w64 c.in-Some.high = search rules in
    negative_within c.known.result c.args.cell c.args.ranges.now c.in-Some.low c.in-Some.high c.range_between.result c.known.ensures c.in-Some.ensures (simp to_z-of_z at c.range_between.ensures)
