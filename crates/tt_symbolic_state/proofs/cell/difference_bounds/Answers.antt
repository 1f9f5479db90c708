use Rattle.std.proofs.Common.{rules}
use Rattle.std.specs.Prelude.{FitsSigned}
use Rattle.std.specs.Int.{w64}
use Rattle.std.proofs.lemmas.Int.{to_z-of_z}
use Rattle.tt_symbolic_state.specs.Values.{value}
use Rattle.tt_symbolic_state.proofs.Values.{apart}
use Rattle.tt_symbolic_state.proofs.cell.difference_bounds.Goals as goal

pub returns-in_ok-high-in-None : goal.returns-in_ok-high-in-None
returns-in_ok-high-in-None c = λ v fits.
    let l : FitsSigned w64 c.in_ok-low-in-None.low = search rules in
    let h : FitsSigned w64 c.in_ok-high-in-None.high = search rules in
    let m0 : FitsSigned w64 c.in_ok-mine-in-None.mine.0 = search rules in
    let m1 : FitsSigned w64 c.in_ok-mine-in-None.mine.1 = search rules in
    let t0 : FitsSigned w64 c.in_ok-theirs-in-None.theirs.0 = search rules in
    let t1 : FitsSigned w64 c.in_ok-theirs-in-None.theirs.1 = search rules in
    let a = c.in_ok-mine-in-None.ensures v fits in
    let b = c.in_ok-theirs-in-None.ensures v fits in
    simp to_z-of_z (apart (value v c.args.one) (value v c.args.other) _ _ c.in_ok-mine-in-None.mine c.in_ok-theirs-in-None.theirs a b (simp to_z-of_z at c.in_ok-low-in-None.ensures.1) (simp to_z-of_z at c.in_ok-high-in-None.ensures.1))
