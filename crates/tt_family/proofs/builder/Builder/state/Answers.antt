use Rattle.std.proofs.Common.{refl}
use Rattle.tt_family.proofs.Putting.{number_state, copied_some, state_at_point}
use Rattle.tt_family.proofs.builder.Builder.state.Goals as goal

pub returns-clause-some : goal.returns-clause-some
returns-clause-some c =
    copied_some c.get.result _ _ c.get.ensures (number_state _ _ _ _ c.self.view_is c.self.invariant (c.args.context, c.args.offset) _ refl)

pub returns-clause-at : goal.returns-clause-at
returns-clause-at c = state_at_point _ _ _ _ c.self.view_is c.self.invariant c.args.context c.args.offset
