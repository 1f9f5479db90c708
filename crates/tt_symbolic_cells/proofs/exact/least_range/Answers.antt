use Rattle.std.proofs.Common.{rules}
use Rattle.std.specs.Prelude.{FitsSigned}
use Rattle.std.specs.Int.{w64}
use Rattle.std.proofs.lemmas.Int.{to_z-of_z}
use Rattle.tt_symbolic_cells.proofs.Exacts.{least_within}
use Rattle.tt_symbolic_cells.proofs.exact.least_range.Goals as goal

pub returns-in-Some-bounds : goal.returns-in-Some-bounds
returns-in-Some-bounds c =
    let a : FitsSigned w64 c.in-Some.least = search rules in
    let b : FitsSigned w64 c.in-Some.most = search rules in
    let d : FitsSigned w64 c.in-Some-bounds.low = search rules in
    let e : FitsSigned w64 c.in-Some-bounds.high = search rules in
    let f : FitsSigned w64 c.lesser.result = search rules in
    let g : FitsSigned w64 c.lesser-in-Some-bounds.result = search rules in
    least_within c.args.a c.args.b c.args.ranges.now c.in-Some.least c.in-Some.most c.in-Some-bounds.low c.in-Some-bounds.high c.lesser.result c.lesser-in-Some-bounds.result c.range_between-range.result c.in-Some.ensures c.in-Some-bounds.ensures
    (simp to_z-of_z at c.lesser-in-Some-bounds.ensures.greatest) (simp to_z-of_z at c.lesser.ensures.one) (simp to_z-of_z at c.lesser.ensures.other) (simp to_z-of_z at c.range_between-range.ensures)
