use Rattle.tt_family.proofs.StateSlots.{slots_now, slots_rise, slots_found}
use Rattle.tt_family.proofs.state_store.StateStore.iter.Goals as goal

pub invariant_of-result : goal.invariant_of-result
invariant_of-result c = slots_now _ _ c.self.invariant _ _ c.as_slice.ensures.value c.iter.ensures

pub returns-clause-ascends : goal.returns-clause-ascends
returns-clause-ascends c = slots_rise _ _ c.self.invariant _ c.self.view_is

pub returns-clause-found : goal.returns-clause-found
returns-clause-found c = slots_found _ _ c.self.invariant _ c.self.view_is
