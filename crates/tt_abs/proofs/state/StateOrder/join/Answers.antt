use Rattle.std.proofs.Common.{false}
use Rattle.tt_abs.specs.States.{state_laws, state_least}
use Rattle.tt_abs.specs.Representation.JoinLaws.{least_is_first, unchanged_by_below}
use Rattle.tt_abs.proofs.state.StateOrder.join.Goals as goal

pub returns-then-below-clause-least : goal.returns-then-below-clause-least
returns-then-below-clause-least c =
    least_is_first state_laws c.args.self.now c.args.other.now c.requires.mine (c.below.ensures.0 c.if-below.true)

pub returns-clause-least : goal.returns-clause-least
returns-clause-least c =
    state_least c.args.self.now c.args.other.now _ c.raise.ensures c.joined_graphics-self.ensures c.in_ok-join.ensures.least c.in_ok-join-2.ensures.least

pub returns-clause-unchanged : goal.returns-clause-unchanged
returns-clause-unchanged c =
    unchanged_by_below state_laws c.args.self.now c.args.other.now _ false c.requires.mine
    (state_least c.args.self.now c.args.other.now _ c.raise.ensures c.joined_graphics-self.ensures c.in_ok-join.ensures.least c.in_ok-join-2.ensures.least)
    c.if-below.ensures
