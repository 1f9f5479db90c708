use Rattle.std.proofs.Common.{◌≡◌, drop, []}
use Rattle.tt_setting.specs.Entries.{with_entries}
use Rattle.tt_setting.proofs.sorted_map.SortedMap.from_entries.Given as goal

abbrev pub invariant-loop-entry : goal.invariant-loop-entry
invariant-loop-entry g l = with_entries l.made (drop l.entry-index l.entries) ≡ with_entries [] l.entries
