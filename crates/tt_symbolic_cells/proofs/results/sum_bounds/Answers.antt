use Rattle.std.proofs.Common.{rules, arith}
use Rattle.std.specs.Prelude.{FitsSigned}
use Rattle.std.specs.Int.{w64}
use Rattle.std.proofs.lemmas.Int.{ints, to_z-of_z}
use Rattle.tt_symbolic_cells.proofs.results.sum_bounds.Goals as goal

pub returns : goal.returns
returns c =
    let a : FitsSigned w64 c.in_ok-least.least = search rules in
    let b : FitsSigned w64 c.in_ok-least.greatest = search rules in
    let d : FitsSigned w64 c.in_ok-low.low = search rules in
    let e : FitsSigned w64 c.in_ok-low.high = search rules in
    let f : FitsSigned w64 c.in_ok-smallest.smallest = search rules in
    let g : FitsSigned w64 c.in_ok-largest.largest = search rules in
    let p = simp to_z-of_z at c.in_ok-smallest.ensures.1 in
    let q = simp to_z-of_z at c.in_ok-largest.ensures.1 in
    simp to_z-of_z (record {
      between = λ v fits.
          let wx = c.in_ok-least.ensures v fits in
          let wy = c.in_ok-low.ensures v fits in
          (omega (arith, ints), omega (arith, ints));
    })
