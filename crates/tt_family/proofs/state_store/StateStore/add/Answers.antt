use Rattle.std.proofs.Common.{arith}
use Rattle.tt_family.proofs.StateSlots.{none_there, slots_kept, slots_same, AreFirstSlots-added, PutsAt-added, Reweighs-added, length-added}
use Rattle.tt_family.proofs.state_store.StateStore.add.Goals as goal

pub returns-in-Err-clause-kept : goal.returns-in-Err-clause-kept
returns-in-Err-clause-kept c =
    let long = c.len-number.ensures in
    slots_kept c.self.inside.slots.items c.write_slot.new.slots.items c.self.inside.index c.self.invariant (λ n lt. c.in-Err.ensures.below n (omega arith)) c.in-Err.ensures.long
    _ c.self.view_is

pub insert-requires-clause-absent : goal.insert-requires-clause-absent
insert-requires-clause-absent c = none_there _ _ c.self.invariant _ c.self.view_is (c.args.context, c.args.offset) c.requires

pub returns-in-Err-insert-clause-kept : goal.returns-in-Err-insert-clause-kept
returns-in-Err-insert-clause-kept c =
    let long = c.len-number.ensures in
    slots_same c.self.inside.slots.items c.write_slot.new.slots.items c.self.inside.index c.self.invariant (λ n lt. c.in_default.ensures.below n (omega arith))
    c.in_default.ensures.long c.insert.new.self c.in-Err-insert.ensures.err _ c.self.view_is

pub invariant_of-self-2 : goal.invariant_of-self-2
invariant_of-self-2 c =
    AreFirstSlots-added c.self.inside.slots.items c.write_slot.new.slots.items c.self.inside.index c.insert.new.self c.self.invariant (c.args.context, c.args.offset) c.len-number.result
    (none_there _ _ c.self.invariant _ c.self.view_is (c.args.context, c.args.offset) c.requires) c.args.state.now
    c.in_default.ensures.below c.in_default.ensures.long c.in_default.ensures.filled c.len-number.ensures c.in_default-insert.ensures.ok
    c.if-number-ge-MOST_STATES.false

pub returns-clause-put : goal.returns-clause-put
returns-clause-put c =
    PutsAt-added c.self.inside.slots.items c.write_slot.new.slots.items c.self.inside.index c.insert.new.self c.self.invariant (c.args.context, c.args.offset) c.len-number.result
    (none_there _ _ c.self.invariant _ c.self.view_is (c.args.context, c.args.offset) c.requires) c.args.state.now
    c.in_default.ensures.below c.in_default.ensures.long c.in_default.ensures.filled c.len-number.ensures c.in_default-insert.ensures.ok
    _ c.self.view_is

pub returns-clause-sums : goal.returns-clause-sums
returns-clause-sums c =
    Reweighs-added c.self.inside.slots.items c.write_slot.new.slots.items c.self.inside.index c.insert.new.self c.self.invariant (c.args.context, c.args.offset) c.len-number.result
    (none_there _ _ c.self.invariant _ c.self.view_is (c.args.context, c.args.offset) c.requires) c.args.state.now
    c.in_default.ensures.below c.in_default.ensures.long c.in_default.ensures.filled c.len-number.ensures c.in_default-insert.ensures.ok
    _ c.self.view_is

pub returns-clause-fits : goal.returns-clause-fits
returns-clause-fits c =
    length-added c.self.inside.slots.items c.write_slot.new.slots.items c.self.inside.index c.insert.new.self c.self.invariant (c.args.context, c.args.offset) c.len-number.result
    (none_there _ _ c.self.invariant _ c.self.view_is (c.args.context, c.args.offset) c.requires) c.args.state.now
    c.in_default.ensures.below c.in_default.ensures.long c.in_default.ensures.filled c.len-number.ensures c.in_default-insert.ensures.ok
    c.if-number-ge-MOST_STATES.false
