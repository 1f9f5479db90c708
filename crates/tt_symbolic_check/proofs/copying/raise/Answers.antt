use Rattle.std.proofs.Common.{rules, refl}
use Rattle.std.specs.Prelude.{FitsSigned}
use Rattle.std.specs.Int.{w32}
use Rattle.std.proofs.lemmas.Int.{to_z-of_z}
use Rattle.tt_symbolic_check.proofs.Parts.{upper_is}
use Rattle.tt_symbolic_check.proofs.copying.raise.Goals as goal

pub returns-then-place-len : goal.returns-then-place-len
returns-then-place-len c =
    let f : FitsSigned w32 c.args.split.last = search rules in
    upper_is c.args.split c.args.state.now (record c.args.state.now { ranges = c.set_range.new.ranges }) c.index-range.result.now c.upper_range-part.result refl c.set_range.ensures (search rules) c.index-range.ensures (simp to_z-of_z at c.upper_range-part.ensures)
