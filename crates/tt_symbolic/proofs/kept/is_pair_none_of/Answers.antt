use Rattle.std.proofs.Common.{List, subst}
use Rattle.tt_symbolic_state.specs.declared.cell.Range.{Range}
use Rattle.tt_symbolic.specs.Representation.Keeping.{IsNoneOf}
use Rattle.tt_symbolic.proofs.Keepings.{pair_none}
use Rattle.tt_symbolic.proofs.kept.is_pair_none_of.Goals as goal

pub returns-in-Ok : goal.returns-in-Ok
returns-in-Ok c = λ e. pair_none c.args.numbers.now c.args.pair c.args.state.now c.in-Ok.place c.in-Ok.ensures (subst (λ (r : List Range). IsNoneOf c.args.numbers.now r c.in-Ok.place) c.as_slice.ensures.value (c.is_none_of.ensures e))
