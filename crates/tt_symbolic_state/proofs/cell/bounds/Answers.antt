use Rattle.std.proofs.Common.{arith, rules, pos, ◌≤ℤ◌, ◌<ℤ◌}
use Rattle.std.specs.Prelude.{FitsSigned}
use Rattle.std.specs.Int.{w32, w64}
use Rattle.std.proofs.lemmas.Int.{ints, to_z-of_z}
use Rattle.tt_symbolic_state.proofs.Values.{value_constant, bounds_up, bounds_down, zero_bits}
use Rattle.tt_symbolic_state.proofs.cell.bounds.Goals as goal

pub returns-then-cell-eq0 : goal.returns-then-cell-eq0
returns-then-cell-eq0 c = λ v fits.
    let f : FitsSigned w32 c.args.cell.factor = search rules in
    let e = value_constant v c.args.cell (zero_bits c.args.cell.factor f c.if-cell-eq0.true) in (omega (arith, ints), omega (arith, ints))

pub returns-then-cell-gt0 : goal.returns-then-cell-gt0
returns-then-cell-gt0 c = λ v fits.
    let f : FitsSigned w32 c.args.cell.factor = search rules in
    let l : FitsSigned w32 c.in_ok-range.range.low = search rules in
    let h : FitsSigned w32 c.in_ok-range.range.high = search rules in
    let la : FitsSigned w64 c.at.result = search rules in
    let ha : FitsSigned w64 c.at-then-cell-gt0.result = search rules in
    let up : pos 0 <ℤ c.args.cell.factor = omega (arith, ints) in
    simp to_z-of_z (bounds_up c.args.ranges.now v c.args.cell c.in_ok-range.range c.at.result c.at-then-cell-gt0.result fits (search rules) up (simp to_z-of_z at c.at.ensures) (simp to_z-of_z at c.at-then-cell-gt0.ensures))

pub returns-else-cell-gt0 : goal.returns-else-cell-gt0
returns-else-cell-gt0 c = λ v fits.
    let f : FitsSigned w32 c.args.cell.factor = search rules in
    let l : FitsSigned w32 c.in_ok-range.range.low = search rules in
    let h : FitsSigned w32 c.in_ok-range.range.high = search rules in
    let la : FitsSigned w64 c.at-else-cell-gt0.result = search rules in
    let ha : FitsSigned w64 c.at-else-cell-gt0-2.result = search rules in
    let down : c.args.cell.factor ≤ℤ pos 0 = omega (arith, ints) in
    simp to_z-of_z (bounds_down c.args.ranges.now v c.args.cell c.in_ok-range.range c.at-else-cell-gt0.result c.at-else-cell-gt0-2.result fits (search rules) down (simp to_z-of_z at c.at-else-cell-gt0.ensures) (simp to_z-of_z at c.at-else-cell-gt0-2.ensures))
