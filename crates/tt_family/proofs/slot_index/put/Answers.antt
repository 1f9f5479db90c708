use Rattle.std.proofs.Common.{sym, ◌∙◌}
use Rattle.std.proofs.lemmas.Bool.{false≢true}
use Rattle.tt_family.proofs.SlotLists.{pushed_places, pushed_merged, inserted_places, inserted_merged}
use Rattle.tt_family.proofs.slot_index.put.Goals as goal

pub returns-then-is_below-clause-places : goal.returns-then-is_below-clause-places
returns-then-is_below-clause-places c =
    pushed_places c.args.lists.now.items c.args.rest.now.entries c.requires.places c.args.point.0 c.args.point.1 c.args.slot c.requires.absent c.requires.within
    c.index_mut-list.result.now c.index_mut-list.ensures.value (c.is_below.ensures.0 c.if-is_below.true) c.push.new.self c.push.result c.push.ensures.ok c.push.ensures.err

pub returns-then-is_below-clause-ok : goal.returns-then-is_below-clause-ok
returns-then-is_below-clause-ok c =
    pushed_merged c.args.lists.now.items c.args.rest.now.entries c.requires.places c.args.point.0 c.args.point.1 c.args.slot c.requires.absent c.requires.within
    c.index_mut-list.result.now c.index_mut-list.ensures.value (c.is_below.ensures.0 c.if-is_below.true) c.push.new.self c.push.result c.push.ensures.ok

pub returns-clause-places : goal.returns-clause-places
returns-clause-places c =
    inserted_places c.args.lists.now.items c.args.rest.now.entries c.requires.places c.args.point.0 c.args.point.1 c.args.slot c.requires.absent c.requires.within
    c.index_mut-list.result.now c.index_mut-list.ensures.value (λ below. false≢true (sym c.if-is_below.false ∙ c.is_below.ensures.1 below)) c.insert.new.self.entries c.in_ok-insert.ensures.entries

pub returns-clause-ok : goal.returns-clause-ok
returns-clause-ok c =
    inserted_merged c.args.lists.now.items c.args.rest.now.entries c.requires.places c.args.point.0 c.args.point.1 c.args.slot c.requires.absent c.requires.within
    c.index_mut-list.result.now c.index_mut-list.ensures.value (λ below. false≢true (sym c.if-is_below.false ∙ c.is_below.ensures.1 below)) c.insert.new.self.entries c.in_ok-insert.ensures.entries
