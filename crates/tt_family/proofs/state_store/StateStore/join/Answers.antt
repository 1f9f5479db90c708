use Rattle.std.proofs.Common.{refl, sym, ap, ◌∙◌, arith, slice_set}
use Rattle.tt_setting.specs.declared.failed.Failed.TheVariants.{OtherDepth}
use Rattle.tt_family.proofs.StateSlots.{slot_there, state_found, none_found, length-states_in, one_depth, PutsAt-set, Reweighs-set}
use Rattle.tt_family.proofs.state_store.StateStore.join.Goals as goal

pub index_mut-slot-requires : goal.index_mut-slot-requires
index_mut-slot-requires c =
    let lt = slot_there _ _ c.self.invariant (c.args.context, c.args.offset) c.in-Some.number c.in-Some.ensures in
    omega arith

pub join-requires-clause-mine : goal.join-requires-clause-mine
join-requires-clause-mine c =
    c.requires.mine c.index_mut-slot.result.now
    (sym (state_found _ _ c.self.invariant _ c.self.view_is (c.args.context, c.args.offset) c.in-Some.number c.in-Some.ensures c.index_mut-slot.result.now
    c.index_mut-slot.ensures.value))

pub returns-in_default-join-clause-depth : goal.returns-in_default-join-clause-depth
returns-in_default-join-clause-depth c =
    let found = state_found _ _ c.self.invariant _ c.self.view_is (c.args.context, c.args.offset) c.in-Some.number c.in-Some.ensures c.index_mut-slot.result.now
    c.index_mut-slot.ensures.value in
    (ap OtherDepth c.depth-depth.ensures.value, (c.index_mut-slot.result.now, sym found, c.in_default-join.ensures.refused))

pub returns-in-Some-clause-put : goal.returns-in-Some-clause-put
returns-in-Some-clause-put c =
    rw c.of.ensures.change
    (PutsAt-set c.self.inside.slots.items c.self.inside.index c.self.invariant (c.args.context, c.args.offset) c.in-Some.number c.in-Some.ensures
    _ c.self.view_is c.index_mut-slot.result.now c.index_mut-slot.ensures.value c.join.new.self c.args.state.now c.in-Ok.changed c.in-Ok.ensures.least c.in-Ok.ensures.unchanged)

pub returns-in-Some-clause-sums : goal.returns-in-Some-clause-sums
returns-in-Some-clause-sums c =
    Reweighs-set c.self.inside.slots.items c.self.inside.index c.self.invariant (c.args.context, c.args.offset) c.in-Some.number c.in-Some.ensures
    _ c.self.view_is c.index_mut-slot.result.now c.index_mut-slot.ensures.value c.join.new.self

pub returns-in-Some-clause-joined : goal.returns-in-Some-clause-joined
returns-in-Some-clause-joined c = λ s.
    one_depth _ c.index_mut-slot.result.now c.args.state.now s
    (state_found _ _ c.self.invariant _ c.self.view_is (c.args.context, c.args.offset) c.in-Some.number c.in-Some.ensures c.index_mut-slot.result.now
    c.index_mut-slot.ensures.value) c.in-Ok.ensures.one_depth

pub returns-in-Some-clause-fits : goal.returns-in-Some-clause-fits
returns-in-Some-clause-fits c =
    let long = length-states_in (slice_set c.self.inside.slots.items c.in-Some.number c.join.new.self) c.self.inside.index in
    let fits = c.self.invariant.fits in
    omega arith

pub add-requires : goal.add-requires
add-requires c = none_found _ _ c.self.invariant _ c.self.view_is (c.args.context, c.args.offset) c.in_default.ensures

pub returns-in-Some-clause-new : goal.returns-in-Some-clause-new
returns-in-Some-clause-new c =
    let found = state_found _ _ c.self.invariant _ c.self.view_is (c.args.context, c.args.offset) c.in-Some.number c.in-Some.ensures c.index_mut-slot.result.now
    c.index_mut-slot.ensures.value in
    ((λ new. absurd (c.of.ensures.there new)), (λ none. let no_such = found ∙ none in absurd (cc)))

pub returns-clause-new : goal.returns-clause-new
returns-clause-new c = ((λ _. none_found _ _ c.self.invariant _ c.self.view_is (c.args.context, c.args.offset) c.in_default.ensures), (λ _. refl))
