use Rattle.std.proofs.Common.{refl}
use Rattle.tt_family.proofs.Renumbering.{is_context, parent_moved, context_moved, has_room, only_memory}
use Rattle.tt_family.proofs.finish.move_context.Goals as goal

pub returns-in_default-clause-moved : goal.returns-in_default-clause-moved
returns-in_default-clause-moved c =
    absurd (is_context c.args.old.now c.args.order.now c.args.places.now c.args.place c.family_facts.ensures c.requires.order c.requires.place.0 c.requires.place.1
    (c.in_default.ensures.none refl))

pub returns-in_default-clause-family : goal.returns-in_default-clause-family
returns-in_default-clause-family c =
    absurd (is_context c.args.old.now c.args.order.now c.args.places.now c.args.place c.family_facts.ensures c.requires.order c.requires.place.0 c.requires.place.1
    (c.in_default.ensures.none refl))

pub add_context-requires : goal.add_context-requires
add_context-requires c =
    (parent_moved c.args.old.now c.args.order.now c.args.places.now c.args.place c.family_facts.ensures c.requires.order c.requires.place.0 c.requires.place.1
    c.requires.places c.args.new.now.contexts c.requires.before c.in-Some.parent c.in-Some.frame c.in-Some.ensures.some.1 c.in-Some.ensures.some.2).0

pub returns-in_err-add_context-clause-memory : goal.returns-in_err-add_context-clause-memory
returns-in_err-add_context-clause-memory c =
    only_memory c.add_context.result c.from_residual.result c.in_err-add_context.field-0.0 _
    (λ failed told. let (_, _, full) = told in
    has_room c.args.old.now c.args.order.now c.args.places.now c.args.place c.family_facts.ensures c.requires.order c.requires.place.0 c.requires.place.1
    c.requires.places c.args.new.now.contexts c.requires.before c.in-Some.parent c.in-Some.frame c.in-Some.ensures.some.1 c.in-Some.ensures.some.2 full)
    c.in_err-add_context.was c.add_context.ensures.full c.from_residual.ensures.1

pub returns-clause-moved : goal.returns-clause-moved
returns-clause-moved c =
    context_moved c.args.old.now c.args.order.now c.args.places.now c.args.place c.family_facts.ensures c.requires.order c.requires.place.0 c.requires.place.1
    c.requires.places c.args.new.now.contexts c.requires.before c.in-Some.parent c.in-Some.frame c.in-Some.ensures.some.1 c.in-Some.ensures.some.2 c.add_context.new.self.contexts
    c.in_ok-add_context.field-0 c.in_ok-add_context.ensures.added
