use Rattle.tt_family.proofs.StateSlots.{slots_rise}
use Rattle.tt_family.proofs.state_store.StateStore.order_facts.Goals as goal

pub returns : goal.returns
returns c = slots_rise _ _ c.self.invariant _ c.self.view_is
