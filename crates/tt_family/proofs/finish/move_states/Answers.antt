use Rattle.std.proofs.Common.{sym, subst, List, ◌∙◌}
use Rattle.std.proofs.lemmas.Option.{slice_get-get_or}
use Rattle.tt_code.specs.declared.machine.Frame.{Frame}
use Rattle.tt_family.specs.Ascending.{AreMoved}
use Rattle.tt_family.proofs.Amounts.{amount_step, next_free, none_there}
use Rattle.tt_family.proofs.Moves.{next_context, next_range, moved_there, none_spare, HasSoFar-spare, HasSoFar-step}
use Rattle.tt_family.proofs.Renumbering.{only_memory}
use Rattle.tt_family.proofs.finish.move_states.Goals as goal

pub bounds-numbers-context : goal.bounds-numbers-context
bounds-numbers-context c =
    next_context c.args.old.now c.loop-context.new c.args.new.now.contexts c.args.numbers.now c.args.spare.now.keys _ _ ((c.in-Some.context, c.in-Some.offset), c.in-Some.state.now) c.states-states.ensures.family
    c.requires.moved c.loop-context.invariant.same c.in-Some.ensures.some c.states-states.ensures.found

pub join_state-requires-clause-there : goal.join_state-requires-clause-there
join_state-requires-clause-there c =
    let within = next_context c.args.old.now c.loop-context.new c.args.new.now.contexts c.args.numbers.now c.args.spare.now.keys _ _ ((c.in-Some.context, c.in-Some.offset), c.in-Some.state.now) c.states-states.ensures.family
    c.requires.moved c.loop-context.invariant.same c.in-Some.ensures.some c.states-states.ensures.found in
    moved_there c.args.old.now.contexts c.args.new.now.contexts c.loop-context.new.contexts c.args.numbers.now c.in-Some.context 0 c.requires.moved c.loop-context.invariant.contexts within

pub join_state-requires-clause-theirs : goal.join_state-requires-clause-theirs
join_state-requires-clause-theirs c =
    next_range c.args.old.now c.loop-context.new c.args.spare.now.keys _ _ ((c.in-Some.context, c.in-Some.offset), c.in-Some.state.now) c.states-states.ensures.family
    c.loop-context.invariant.same c.in-Some.ensures.some c.states-states.ensures.found

pub returns-in_err-join_state-clause-memory : goal.returns-in_err-join_state-clause-memory
returns-in_err-join_state-clause-memory c =
    let within = next_context c.args.old.now c.loop-context.new c.args.new.now.contexts c.args.numbers.now c.args.spare.now.keys _ _ ((c.in-Some.context, c.in-Some.offset), c.in-Some.state.now) c.states-states.ensures.family
    c.requires.moved c.loop-context.invariant.same c.in-Some.ensures.some c.states-states.ensures.found in
    let listed = sym c.contains.ensures ∙ c.if-not-contains.true in
    let M : List (List Frame) → Type 0 = λ x. AreMoved c.args.old.now.contexts x c.args.numbers.now in
    let free = next_free c.args.old.now c.loop-context.new c.args.numbers.now c.args.spare.now.keys (c.in-Some.context, c.in-Some.offset) c.in-Some.state.now _ listed c.states-states.ensures.family
    (subst M (sym c.loop-context.invariant.contexts) c.requires.moved) c.states-states.ensures.found c.states-states.ensures.ascends
    (slice_get-get_or c.args.numbers.now c.in-Some.context 0 within) _ _ c.loop-context.invariant.same c.in-Some.ensures.some in
    only_memory c.join_state.result c.from_residual.result c.in_err-join_state.field-0.0 _
    (λ failed told. let (_, (s, at, _)) = told in none_there _ s free at)
    c.in_err-join_state.was c.join_state.ensures.depth c.from_residual.ensures.1

pub loop-context-preserved-in_ok-join_state : goal.loop-context-preserved-in_ok-join_state
loop-context-preserved-in_ok-join_state c =
    let within = next_context c.args.old.now c.loop-context.new c.args.new.now.contexts c.args.numbers.now c.args.spare.now.keys _ _ ((c.in-Some.context, c.in-Some.offset), c.in-Some.state.now) c.states-states.ensures.family
    c.requires.moved c.loop-context.invariant.same c.in-Some.ensures.some c.states-states.ensures.found in
    let known = slice_get-get_or c.args.numbers.now c.in-Some.context 0 within in
    let listed = sym c.contains.ensures ∙ c.if-not-contains.true in
    let M : List (List Frame) → Type 0 = λ x. AreMoved c.args.old.now.contexts x c.args.numbers.now in
    let moved = subst M (sym c.loop-context.invariant.contexts) c.requires.moved in
    let free = next_free c.args.old.now c.loop-context.new c.args.numbers.now c.args.spare.now.keys (c.in-Some.context, c.in-Some.offset) c.in-Some.state.now _ listed c.states-states.ensures.family
    moved c.states-states.ensures.found c.states-states.ensures.ascends known _ _ c.loop-context.invariant.same c.in-Some.ensures.some in
    record {
      family = c.in_ok-join_state.ensures.family;
      contexts = c.in_ok-join_state.ensures.contexts ∙ c.loop-context.invariant.contexts;
      same = HasSoFar-step c.args.old.now c.loop-context.new c.join_state.new.self c.args.numbers.now c.args.spare.now.keys (c.in-Some.context, c.in-Some.offset) c.in-Some.state.now _
          c.in_ok-join_state.field-0 listed c.states-states.ensures.family moved c.states-states.ensures.found known
          c.in_ok-join_state.ensures.put _ _ c.loop-context.invariant.same c.in-Some.ensures.some;
      points = λ none. amount_step c.args.old.now c.loop-context.new c.join_state.new.self _ c.in-Some.state.now c.in_ok-join_state.field-0 free
          c.in_ok-join_state.ensures.put c.in_ok-join_state.ensures.sums _ _ ((c.in-Some.context, c.in-Some.offset), c.in-Some.state.now) c.in-Some.ensures.some (c.loop-context.invariant.points none);
    }

pub loop-context-preserved : goal.loop-context-preserved
loop-context-preserved c =
    let hit = sym c.contains.ensures ∙ c.if-not-contains.false in
    record {
      family = c.loop-context.invariant.family;
      contexts = c.loop-context.invariant.contexts;
      same = HasSoFar-spare c.args.old.now c.loop-context.new c.args.spare.now.keys (c.in-Some.context, c.in-Some.offset) c.in-Some.state.now hit _ _ c.loop-context.invariant.same c.in-Some.ensures.some;
      points = λ none. absurd (none_spare c.args.spare.now.keys (c.in-Some.context, c.in-Some.offset) none hit);
    }
