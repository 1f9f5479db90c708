use Rattle.std.proofs.Common.{◌≡◌, ℕ, ◌<◌, ◌≤◌, length}
use Rattle.std.specs.Prelude.{[]}
use Rattle.tt_family.specs.Representation.SlotLists.{AreEmptyFrom, list_of}
use Rattle.tt_family.proofs.slot_index.clear_lists.Given as goal

abbrev pub invariant-loop-context : goal.invariant-loop-context
invariant-loop-context l = record {
  fits : length l.lists.items ≤ 64;
  before : (c : ℕ) → c < l.context → list_of l.lists.items c ≡ [];
  behind : AreEmptyFrom l.context-end l.lists.items;
}
