use Rattle.std.proofs.Common.{◌≡◌, Some, None, sym, ◌∙◌}
use Rattle.tt_cert.proofs.StateLists.{place_free, state_added}
use Rattle.tt_cert.proofs.states.add_state.Goals as goal

pub join_state-joined-requires : goal.join_state-joined-requires
join_state-joined-requires c = record {
  there = (place_free c.args.builder.now c.args.point c.family_facts.ensures c.order_facts.ensures c.requires.there).0;
  theirs = c.requires.in_range;
}

pub returns-in-Ok-clause-added : goal.returns-in-Ok-clause-added
returns-in-Ok-clause-added c =
    state_added c.args.builder.now c.join_state-joined.new.self c.args.point c.args.state.now _ c.join_state-joined.ensures.contexts c.family_facts.ensures
    c.join_state-joined.ensures.family c.order_facts.ensures c.order_facts-2.ensures c.requires.there c.in-Ok.ensures.put

pub unreachable-requires : goal.unreachable-requires
unreachable-requires c =
    let free = place_free c.args.builder.now c.args.point c.family_facts.ensures c.order_facts.ensures c.requires.there in
    let (_, (s, at, apart)) = rw c.in-Refused.is at c.in-Err.ensures.depth in
    absurd (let no : None ≡ Some s = sym free.1 ∙ at in cc)
