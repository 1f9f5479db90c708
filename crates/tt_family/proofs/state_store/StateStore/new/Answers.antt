use Rattle.tt_family.proofs.StateSlots.{AreFirstSlots-empty}
use Rattle.tt_family.proofs.state_store.StateStore.new.Goals as goal

pub invariant_of-result : goal.invariant_of-result
invariant_of-result c = AreFirstSlots-empty c.new-2.result.items c.new.result c.new.ensures
