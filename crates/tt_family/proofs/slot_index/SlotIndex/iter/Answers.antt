use Rattle.std.proofs.Common.{sym, ◌∙◌, ap, subst}
use Rattle.std.specs.Prelude.{List, take}
use Rattle.tt_family.specs.Representation.SlotLists.{Point, AreApart, merged, lists_points, with_first}
use Rattle.tt_family.proofs.SlotLists.{places_apart_rest, used_points}
use Rattle.tt_family.proofs.SlotWalks.{taken_first}
use Rattle.tt_family.proofs.slot_index.SlotIndex.iter.Goals as goal

pub invariant_of-result : goal.invariant_of-result
invariant_of-result c =
    let A : List Point → Type 0 = λ l. AreApart l (with_first c.next_in.result c.next_in.new.rest) in
    let B : List Point → Type 0 = λ l. AreApart (lists_points 0 c.self.inside.lists.items) l in
    subst A (sym (taken_first c.take_first.result c.new-lists.result c.take_first.new.self c.take_first.ensures.none c.take_first.ensures.some ∙ c.new-lists.ensures
    ∙ ap (λ lists. lists_points 0 (take c.self.inside.used lists)) c.deref.ensures.value ∙ used_points 0 c.self.inside.used c.self.inside.lists.items c.self.invariant.2.unused))
    (subst B (sym (taken_first c.next_in.result c.iter-rest.result c.next_in.new.rest c.next_in.ensures.none c.next_in.ensures.some ∙ c.iter-rest.ensures.rest))
    (places_apart_rest c.self.inside.lists.items c.self.inside.rest.entries c.self.invariant.0))

pub returns : goal.returns
returns c =
    ap (λ points. merged points (with_first c.next_in.result c.next_in.new.rest))
    (taken_first c.take_first.result c.new-lists.result c.take_first.new.self c.take_first.ensures.none c.take_first.ensures.some ∙ c.new-lists.ensures
    ∙ ap (λ lists. lists_points 0 (take c.self.inside.used lists)) c.deref.ensures.value ∙ used_points 0 c.self.inside.used c.self.inside.lists.items c.self.invariant.2.unused)
    ∙ ap (merged (lists_points 0 c.self.inside.lists.items)) (taken_first c.next_in.result c.iter-rest.result c.next_in.new.rest c.next_in.ensures.none c.next_in.ensures.some ∙ c.iter-rest.ensures.rest)
    ∙ c.self.view_is
