use Rattle.tt_family.proofs.Queues.{children_first}
use Rattle.tt_family.proofs.builder.push_children.Goals as goal

pub loop-number-init : goal.loop-number-init
loop-number-init c = record {
  can_next = tt;
  is_finite = tt;
  rest = children_first c.args.order.now.items c.args.index.now.entries _ _ c.args.parent c.into_iter-number-iterator.ensures.into_iter_gives (c.range-number-items.ensures.between tt);
}
