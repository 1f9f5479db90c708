use Rattle.std.specs.Prelude.{[], ◌∷◌, ◌++◌}
use Rattle.std.proofs.Common.{arith, ◌∙◌, ap}
use Rattle.tt_family.specs.Representation.SlotLists.{Offsets}
use Rattle.tt_family.proofs.SlotLists.{adds_one}
use Rattle.tt_family.proofs.slot_index.add_lists.Goals as goal

pub loop-alloc-preserved : goal.loop-alloc-preserved
loop-alloc-preserved c = record {
  adds = adds_one c.args.lists.now.items c.loop-alloc.lists.items c.push.new.self.items c.loop-alloc.invariant.adds
      (c.in_ok-push.ensures.items ∙ ap (λ (list : Offsets). c.loop-alloc.lists.items ++ list ∷ []) c.new.ensures);
  fits = omega arith;
}
