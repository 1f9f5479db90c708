use Rattle.tt_family.proofs.StateSlots.{AreFirstSlots-empty}
use Rattle.tt_family.proofs.state_store.StateStore.clear.Goals as goal

pub invariant_of-self : goal.invariant_of-self
invariant_of-self c = AreFirstSlots-empty c.self.inside.slots.items c.clear.new.self c.clear.ensures
