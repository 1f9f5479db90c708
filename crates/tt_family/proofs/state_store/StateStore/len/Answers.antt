use Rattle.std.proofs.Common.{sym, ◌∙◌, ap, length}
use Rattle.tt_family.proofs.StateSlots.{length-states_in}
use Rattle.tt_family.proofs.state_store.StateStore.len.Goals as goal

pub returns : goal.returns
returns c = c.len.ensures ∙ sym (length-states_in c.self.inside.slots.items c.self.inside.index) ∙ ap length c.self.view_is
