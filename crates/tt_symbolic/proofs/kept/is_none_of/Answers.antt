use Rattle.std.proofs.Common.{rules}
use Rattle.std.specs.Prelude.{FitsSigned}
use Rattle.std.specs.Int.{w64}
use Rattle.std.proofs.lemmas.Int.{to_z-of_z}
use Rattle.tt_symbolic.proofs.Keepings.{none_of}
use Rattle.tt_symbolic.proofs.kept.is_none_of.Goals as goal

pub returns-in-Ok : goal.returns-in-Ok
returns-in-Ok c = λ e.
    let l : FitsSigned w64 c.in-Ok.low = search rules in
    let h : FitsSigned w64 c.in-Ok.high = search rules in
    none_of c.args.numbers.now c.args.ranges.now c.args.cell c.in-Ok.low c.in-Ok.high c.in-Ok.ensures (simp to_z-of_z at (c.is_none_between.ensures e))
