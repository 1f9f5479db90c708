use Rattle.tt_family.proofs.Queues.{IsQueue}
use Rattle.tt_family.proofs.builder.Builder.file_order.Given as goal

abbrev pub invariant-loop-i : goal.invariant-loop-i
invariant-loop-i l = record {
  queue : IsQueue l.self-inside.index l.order.items l.i;
}
