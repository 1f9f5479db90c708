use Rattle.std.proofs.Common.{rules, sym, ◌∙◌, inl, inr}
use Rattle.std.specs.Prelude.{FitsSigned}
use Rattle.std.specs.Int.{w32}
use Rattle.tt_symbolic_state.proofs.Values.{value_is, constant, zero_bits, one_is}
use Rattle.tt_symbolic_state.proofs.cell.common.Goals as goal

pub returns-then-one-other : goal.returns-then-one-other
returns-then-one-other c = λ v.
    let f : FitsSigned w32 c.args.one.factor = search rules in
    elim c.if-one-other.either [ inl z ↦ one_is v c.args.one c.args.other (inl (zero_bits c.args.one.factor f z)) | inr e ↦ one_is v c.args.one c.args.other (inr e.1) ]

pub returns-then-other-eq0 : goal.returns-then-other-eq0
returns-then-other-eq0 c = λ v.
    let f : FitsSigned w32 c.args.other.factor = search rules in
    let z = zero_bits c.args.other.factor f c.if-other-eq0.true in
    (value_is v c.args.one, value_is v c.args.other ∙ constant c.args.other.factor (v c.args.other.symbol) c.args.other.offset z ∙ sym (constant c.args.other.factor (v c.args.one.symbol) c.args.other.offset z))
