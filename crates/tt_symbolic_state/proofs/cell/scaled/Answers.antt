use Rattle.std.proofs.Common.{rules, ◌≡◌, ◌*ℤ◌}
use Rattle.std.specs.Prelude.{FitsSigned}
use Rattle.std.specs.Int.{w32}
use Rattle.std.proofs.lemmas.Int.{to_z-of_z}
use Rattle.tt_symbolic_state.proofs.Values.{scaled_is_value, value_is}
use Rattle.tt_symbolic_state.proofs.cell.scaled.Goals as goal

pub returns-clause-value : goal.returns-clause-value
returns-clause-value c = λ v.
    let f : FitsSigned w32 c.in_ok-factor.factor = search rules in
    let o : FitsSigned w32 c.in_ok-offset.offset = search rules in
    let a : FitsSigned w32 c.args.cell.factor = search rules in
    let b : FitsSigned w32 c.args.cell.offset = search rules in
    let k : FitsSigned w32 c.args.by = search rules in
    let fe : c.in_ok-factor.factor ≡ c.args.cell.factor *ℤ c.args.by = simp to_z-of_z at c.in_ok-factor.ensures.1 in
    let oe : c.in_ok-offset.offset ≡ c.args.cell.offset *ℤ c.args.by = simp to_z-of_z at c.in_ok-offset.ensures.1 in
    simp to_z-of_z (rw (fe, oe) (scaled_is_value v c.args.cell.symbol c.args.cell.factor c.args.cell.offset c.args.by _ (value_is v c.args.cell)))
