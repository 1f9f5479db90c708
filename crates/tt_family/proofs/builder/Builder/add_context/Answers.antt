use Rattle.std.proofs.Common.{arith, refl, ◌∙◌, ap, ◌+◌, ◌++◌, ◌∷◌, []}
use Rattle.tt_family.proofs.Adding.{length_is, entries_few, is_there, is_absent, HasContext-from, IsBuilt-added, added_adds, added_family}
use Rattle.tt_family.proofs.builder.Builder.add_context.Goals as goal

pub returns-in-Some-clause-added : goal.returns-in-Some-clause-added
returns-in-Some-clause-added c =
    is_there _ _ _ _ c.self.view_is c.self.invariant c.args.parent c.args.frame c.in-Some.number c.in-Some.ensures

pub returns-in-Some-clause-room : goal.returns-in-Some-clause-room
returns-in-Some-clause-room c = λ absent full.
    absurd (absent (HasContext-from _ _ _ _ (is_there _ _ _ _ c.self.view_is c.self.invariant c.args.parent c.args.frame c.in-Some.number c.in-Some.ensures)))

pub overflow_cast-count : goal.overflow_cast-count
overflow_cast-count c =
    let few = entries_few _ _ _ _ c.self.view_is c.self.invariant in
    let e = c.len.ensures in
    omega arith

pub overflow_add-count : goal.overflow_add-count
overflow_add-count c =
    let few = entries_few _ _ _ _ c.self.view_is c.self.invariant in
    let e = c.len.ensures in
    omega arith

pub returns-then-count-ge-MOST_CONTEXTS-clause-full : goal.returns-then-count-ge-MOST_CONTEXTS-clause-full
returns-then-count-ge-MOST_CONTEXTS-clause-full c =
    let few = entries_few _ _ _ _ c.self.view_is c.self.invariant in
    let long = length_is _ _ _ _ c.self.view_is c.self.invariant in
    let e = c.len.ensures in
    (refl, is_absent _ _ _ _ c.self.view_is c.self.invariant c.args.parent c.args.frame c.in_default.ensures c.requires, omega arith)

pub returns-in-Err-clause-room : goal.returns-in-Err-clause-room
returns-in-Err-clause-room c = λ absent full.
    let long = length_is _ _ _ _ c.self.view_is c.self.invariant in
    let e = c.len.ensures in
    absurd (omega arith)

pub returns-in-Err-insert-clause-room : goal.returns-in-Err-insert-clause-room
returns-in-Err-insert-clause-room c = λ absent full.
    let long = length_is _ _ _ _ c.self.view_is c.self.invariant in
    let e = c.len.ensures in
    absurd (omega arith)

pub returns-clause-room : goal.returns-clause-room
returns-clause-room c = λ absent full.
    let long = length_is _ _ _ _ c.self.view_is c.self.invariant in
    let e = c.len.ensures in
    absurd (omega arith)

pub invariant_of-self-2 : goal.invariant_of-self-2
invariant_of-self-2 c =
    IsBuilt-added _ _ _ _ _ _ c.self.view_is c.self.invariant c.args.parent c.args.frame c.requires c.in_default.ensures
    (let e = c.len.ensures in omega arith) (c.push_reserved.ensures.items ∙ ap (λ x. x ++ (c.args.parent, c.args.frame) ∷ []) c.in_default-reserve.ensures.items)
    (c.len.result + 1) (let e = c.len.ensures in omega arith) c.in_default-insert.ensures.updates

pub returns-clause-added : goal.returns-clause-added
returns-clause-added c =
    added_adds _ _ _ c.insert.new.self _ _ c.self.view_is c.self.invariant c.args.parent c.args.frame c.requires c.in_default.ensures
    (let e = c.len.ensures in omega arith) (c.push_reserved.ensures.items ∙ ap (λ x. x ++ (c.args.parent, c.args.frame) ∷ []) c.in_default-reserve.ensures.items)
    (c.len.result + 1) (let e = c.len.ensures in omega arith) c.in_default-insert.ensures.updates

pub returns-clause-family : goal.returns-clause-family
returns-clause-family c =
    added_family _ _ _ c.insert.new.self _ _ c.self.view_is c.self.invariant c.args.parent c.args.frame c.requires c.in_default.ensures
    (let e = c.len.ensures in omega arith) (c.push_reserved.ensures.items ∙ ap (λ x. x ++ (c.args.parent, c.args.frame) ∷ []) c.in_default-reserve.ensures.items)
    (c.len.result + 1) (let e = c.len.ensures in omega arith) c.in_default-insert.ensures.updates
