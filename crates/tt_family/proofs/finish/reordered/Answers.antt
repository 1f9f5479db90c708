use Rattle.tt_family.proofs.Moves.{SameWithout-moved}
use Rattle.tt_family.proofs.Renumbering.{AreMoved-now}
use Rattle.tt_family.proofs.finish.reordered.Goals as goal

pub move_states-requires-clause-moved : goal.move_states-requires-clause-moved
move_states-requires-clause-moved c =
    AreMoved-now c.args.old.now c.in_ok-order.order.items _ _ c.in_ok-places.places.items _ c.move_contexts.new.new.contexts c.family_facts.ensures c.in_ok-order.ensures
    c.in_ok-places.ensures c.in_default.ensures.moved c.as_slice.ensures.value c.as_slice-2.ensures.value c.as_slice-4.ensures.value

pub returns-clause-same : goal.returns-clause-same
returns-clause-same c =
    SameWithout-moved c.args.old.now c.move_states.new.new c.args.spare.now.keys c.move_contexts.new.new.contexts c.as_slice-4.result.now
    (AreMoved-now c.args.old.now c.in_ok-order.order.items _ _ c.in_ok-places.places.items _ c.move_contexts.new.new.contexts c.family_facts.ensures c.in_ok-order.ensures
    c.in_ok-places.ensures c.in_default.ensures.moved c.as_slice.ensures.value c.as_slice-2.ensures.value c.as_slice-4.ensures.value)
    c.in_default-move_states.ensures.contexts c.in_default-move_states.ensures.same
