use Rattle.std.specs.Prelude.{length}
use Rattle.std.proofs.Common.{sym, ap}
use Rattle.tt_family.proofs.SlotLists.{all_empty, empty_places, empty_merged}
use Rattle.tt_family.proofs.slot_index.SlotIndex.clear.Goals as goal

pub invariant_of-self : goal.invariant_of-self
invariant_of-self c = (
  empty_places c.clear_lists.new.lists.items c.clear.new.self.entries c.clear_lists.ensures.empty c.clear.ensures.empty c.clear_lists.ensures.fits,
  sym (ap length (empty_merged c.clear_lists.new.lists.items c.clear.new.self.entries c.clear_lists.ensures.empty c.clear.ensures.empty)),
  all_empty c.clear_lists.new.lists.items c.clear_lists.ensures.empty,
)

pub returns : goal.returns
returns c = empty_merged c.clear_lists.new.lists.items c.clear.new.self.entries c.clear_lists.ensures.empty c.clear.ensures.empty
