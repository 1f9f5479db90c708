use Rattle.std.proofs.Common.{◌≤◌, ◌+◌, ◌-◌, length}
use Rattle.tt_family.specs.Representation.SlotLists.{AddsLists}
use Rattle.tt_family.proofs.slot_index.add_lists.Given as goal

abbrev pub invariant-loop-alloc : goal.invariant-loop-alloc
invariant-loop-alloc l = record { adds : AddsLists l.fn.lists.items l.lists.items; fits : length l.lists.items ≤ 4294967296 }

abbrev pub decreases-loop-alloc : goal.decreases-loop-alloc
decreases-loop-alloc l = l.context + 1 - length l.lists.items
