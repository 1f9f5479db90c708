use Rattle.std.proofs.Common.{rules}
use Rattle.std.specs.Prelude.{FitsSigned}
use Rattle.std.specs.Int.{w64}
use Rattle.std.proofs.lemmas.Int.{to_z-of_z}
use Rattle.tt_symbolic_cells.proofs.Exacts.{ceilings_within}
use Rattle.tt_symbolic_cells.proofs.exact.ceilings.Goals as goal

pub returns : goal.returns
returns c = λ x z l h n is.
    let a : FitsSigned w64 c.args.low = search rules in
    let b : FitsSigned w64 c.args.high = search rules in
    let d : FitsSigned w64 c.in_ok-least.least = search rules in
    let e : FitsSigned w64 c.in_ok-greatest.greatest = search rules in
    ceilings_within c.args.low c.args.high c.in_ok-least.least c.in_ok-greatest.greatest c.range_between.result (simp to_z-of_z at c.in_ok-least.ensures) (simp to_z-of_z at c.in_ok-greatest.ensures) (simp to_z-of_z at c.range_between.ensures) x z l h n is
