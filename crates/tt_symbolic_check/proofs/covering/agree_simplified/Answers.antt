use Rattle.std.proofs.Common.{rules}
use Rattle.std.specs.Prelude.{FitsSigned}
use Rattle.std.specs.Int.{w32}
use Rattle.tt_symbolic_state.proofs.Values.{zero_bits}
use Rattle.tt_symbolic_check.proofs.Agreeing.{agrees_constant, agrees_given}
use Rattle.tt_symbolic_check.proofs.covering.agree_simplified.Goals as goal

pub returns-then-theirs-eq0-clause-agrees : goal.returns-then-theirs-eq0-clause-agrees
returns-then-theirs-eq0-clause-agrees c = λ e.
    let f : FitsSigned w32 c.args.theirs.factor = search rules in
    agrees_constant c.args.assigned.now c.args.mine c.args.theirs (zero_bits c.args.theirs.factor f c.if-theirs-eq0.true) (c.are_same.ensures e)

pub returns-in-Some-clause-agrees : goal.returns-in-Some-clause-agrees
returns-in-Some-clause-agrees c = λ e. agrees_given c.args.assigned.now c.args.mine c.args.theirs c.in-Some.given c.in-Some.ensures (c.is_given.ensures e)

pub returns-in-Some-image-clause-agrees : goal.returns-in-Some-image-clause-agrees
returns-in-Some-image-clause-agrees c = λ e. agrees_given c.assign.new.assigned c.args.mine c.args.theirs c.in-Some-image.given (c.assign.ensures.assigns e) c.in-Some-image.ensures
