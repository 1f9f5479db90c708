use Rattle.std.proofs.Common.{◌≡◌, ◌<◌, ◌+◌, ◌++◌, length}
use Rattle.std.specs.Prelude.{suc}
use Rattle.tt_family.specs.Representation.SlotLists.{list_points, lists_points}
use Rattle.tt_family.proofs.slot_index.OffsetListsIter.take_first.Given as goal

abbrev pub invariant-loop-self : goal.invariant-loop-self
invariant-loop-self l = record {
  same : list_points l.self-inside.context l.self-inside.list.now ++ lists_points (suc l.self-inside.context) l.self-inside.lists.now
      ≡ list_points l.initial.self-inside.context l.initial.self-inside.list.now ++ lists_points (suc l.initial.self-inside.context) l.initial.self-inside.lists.now;
  fits : l.self-inside.context + length l.self-inside.lists.now < 4294967296;
}

abbrev pub decreases-loop-self : goal.decreases-loop-self
decreases-loop-self l = length l.self-inside.lists.now
