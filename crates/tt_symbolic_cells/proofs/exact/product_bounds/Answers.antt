use Rattle.std.proofs.Common.{rules, arith, ◌≡◌, ◌*ℤ◌}
use Rattle.std.specs.Prelude.{FitsSigned}
use Rattle.std.specs.Int.{w64}
use Rattle.std.proofs.lemmas.Int.{ints, to_z-of_z}
use Rattle.tt_symbolic_state.specs.Values.{value}
use Rattle.tt_symbolic_cells.proofs.Exacts.{product_above, product_below}
use Rattle.tt_symbolic_cells.proofs.exact.product_bounds.Goals as goal

pub returns : goal.returns
returns c =
    let a : FitsSigned w64 c.in_ok-least.least = search rules in
    let b : FitsSigned w64 c.in_ok-least.greatest = search rules in
    let d : FitsSigned w64 c.in_ok-low.low = search rules in
    let e : FitsSigned w64 c.in_ok-low.high = search rules in
    let p : FitsSigned w64 c.in_ok-one.one = search rules in
    let q : FitsSigned w64 c.in_ok-two.two = search rules in
    let r : FitsSigned w64 c.in_ok-three.three = search rules in
    let s : FitsSigned w64 c.in_ok-four.four = search rules in
    let l1 : FitsSigned w64 c.lesser.result = search rules in
    let l2 : FitsSigned w64 c.lesser-2.result = search rules in
    let l3 : FitsSigned w64 c.lesser-smallest.result = search rules in
    let g1 : FitsSigned w64 c.greater.result = search rules in
    let g2 : FitsSigned w64 c.greater-2.result = search rules in
    let g3 : FitsSigned w64 c.greater-largest.result = search rules in
    let ep : c.in_ok-one.one ≡ c.in_ok-least.least *ℤ c.in_ok-low.low = simp to_z-of_z at c.in_ok-one.ensures.1 in
    let eq : c.in_ok-two.two ≡ c.in_ok-least.least *ℤ c.in_ok-low.high = simp to_z-of_z at c.in_ok-two.ensures.1 in
    let er : c.in_ok-three.three ≡ c.in_ok-least.greatest *ℤ c.in_ok-low.low = simp to_z-of_z at c.in_ok-three.ensures.1 in
    let es : c.in_ok-four.four ≡ c.in_ok-least.greatest *ℤ c.in_ok-low.high = simp to_z-of_z at c.in_ok-four.ensures.1 in
    let u1 = simp to_z-of_z at c.lesser.ensures.one in
    let u2 = simp to_z-of_z at c.lesser.ensures.other in
    let u3 = simp to_z-of_z at c.lesser-2.ensures.one in
    let u4 = simp to_z-of_z at c.lesser-2.ensures.other in
    let u5 = simp to_z-of_z at c.lesser-smallest.ensures.one in
    let u6 = simp to_z-of_z at c.lesser-smallest.ensures.other in
    let w1 = simp to_z-of_z at c.greater.ensures.one in
    let w2 = simp to_z-of_z at c.greater.ensures.other in
    let w3 = simp to_z-of_z at c.greater-2.ensures.one in
    let w4 = simp to_z-of_z at c.greater-2.ensures.other in
    let w5 = simp to_z-of_z at c.greater-largest.ensures.one in
    let w6 = simp to_z-of_z at c.greater-largest.ensures.other in
    simp to_z-of_z (record {
      between = λ v fits.
          let wx = c.in_ok-least.ensures v fits in
          let wy = c.in_ok-low.ensures v fits in (
            product_above (value v c.args.a) (value v c.args.b) _ _ _ _ _ _ _ _ c.lesser-smallest.result wx wy ep eq er es (omega (arith, ints)) (omega (arith, ints)) (omega (arith, ints)) (omega (arith, ints)),
            product_below (value v c.args.a) (value v c.args.b) _ _ _ _ _ _ _ _ c.greater-largest.result wx wy ep eq er es (omega (arith, ints)) (omega (arith, ints)) (omega (arith, ints)) (omega (arith, ints)),
          );
    })
