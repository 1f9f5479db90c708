use Rattle.std.specs.Prelude.{length}
use Rattle.std.proofs.Common.{arith, sym, ◌∙◌, ap}
use Rattle.tt_family.specs.Places.{states_of}
use Rattle.tt_family.specs.Representation.SlotLists.{merged, lists_points}
use Rattle.tt_family.proofs.SlotLists.{one_point_more, used_after}
use Rattle.tt_family.proofs.slot_index.SlotIndex.insert.Goals as goal

pub invariant_of-self-2 : goal.invariant_of-self-2
invariant_of-self-2 c = (
  c.in_ok-put.ensures.places,
  one_point_more c.self.inside.lists.items c.add_lists.new.lists.items c.self.inside.rest.entries (merged (lists_points 0 c.put.new.lists.items) c.put.new.rest.entries)
      (c.args.context, c.args.offset) c.args.slot c.self.inside.count c.self.invariant.0 c.add_lists.ensures.adds
      (ap (λ points. states_of points (c.args.context, c.args.offset)) c.self.view_is ∙ c.requires.absent) c.in_ok-put.ensures.ok c.self.invariant.1,
  c.put.ensures.unused c.max-self-inside.result (omega arith) (used_after c.self.inside.used c.max-self-inside.result c.args.context c.self.inside.lists.items c.add_lists.new.lists.items c.self.invariant.2
      c.add_lists.ensures.adds c.in_ok-add_lists.ensures.enough c.max-self-inside.ensures),
)

pub invariant_of-self-in_err-put : goal.invariant_of-self-in_err-put
invariant_of-self-in_err-put c = (
  c.put.ensures.places,
  c.self.invariant.1 ∙ ap length (ap (λ points. merged points c.self.inside.rest.entries) (sym (c.add_lists.ensures.adds.points 0)) ∙ sym c.in_err-put.ensures.err),
  c.put.ensures.unused c.max-self-inside.result (omega arith) (used_after c.self.inside.used c.max-self-inside.result c.args.context c.self.inside.lists.items c.add_lists.new.lists.items c.self.invariant.2
      c.add_lists.ensures.adds c.in_ok-add_lists.ensures.enough c.max-self-inside.ensures),
)
