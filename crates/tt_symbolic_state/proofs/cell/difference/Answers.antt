use Rattle.std.proofs.Common.{rules, ◌≡◌, ◌-ℤ◌}
use Rattle.std.specs.Prelude.{FitsSigned}
use Rattle.std.specs.Int.{w32}
use Rattle.std.proofs.lemmas.Int.{to_z-of_z}
use Rattle.tt_symbolic_state.proofs.Values.{difference_is_value}
use Rattle.tt_symbolic_state.proofs.cell.difference.Goals as goal

pub returns : goal.returns
returns c = λ v.
    let f : FitsSigned w32 c.in_ok-factor.factor = search rules in
    let o : FitsSigned w32 c.in_ok-offset.offset = search rules in
    let a : FitsSigned w32 c.args.one.factor = search rules in
    let b : FitsSigned w32 c.args.one.offset = search rules in
    let d : FitsSigned w32 c.args.other.factor = search rules in
    let g : FitsSigned w32 c.args.other.offset = search rules in
    let fe : c.in_ok-factor.factor ≡ c.args.one.factor -ℤ c.args.other.factor = simp to_z-of_z at c.in_ok-factor.ensures.1 in
    let oe : c.in_ok-offset.offset ≡ c.args.one.offset -ℤ c.args.other.offset = simp to_z-of_z at c.in_ok-offset.ensures.1 in
    let w = c.in_ok-symbol.ensures v in
    simp to_z-of_z (rw (fe, oe) (difference_is_value v c.in_ok-symbol.symbol c.args.one.factor c.args.other.factor c.args.one.offset c.args.other.offset _ _ w.0 w.1))
