use Rattle.std.proofs.Common.{rules, inl}
use Rattle.std.specs.Prelude.{FitsSigned}
use Rattle.std.specs.Int.{w32}
use Rattle.tt_symbolic_state.proofs.Values.{zero_bits}
use Rattle.tt_symbolic_check.proofs.Agreeing.{same_value}
use Rattle.tt_symbolic_check.proofs.covering.are_same.Goals as goal

pub returns-then-one-eq0 : goal.returns-then-one-eq0
returns-then-one-eq0 c = λ e v.
    let f : FitsSigned w32 c.args.one.factor = search rules in
    same_value v c.args.one c.args.other (search rules) (search rules) (inl (zero_bits c.args.one.factor f c.if-one-eq0.true))
