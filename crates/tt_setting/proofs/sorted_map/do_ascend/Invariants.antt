use Rattle.std.proofs.Common.{◌≤◌, drop}
use Rattle.tt_setting.proofs.EntriesInTurn.{Rises}
use Rattle.tt_setting.proofs.sorted_map.do_ascend.Given as goal

abbrev pub invariant-loop-entry : goal.invariant-loop-entry
invariant-loop-entry g l = (l.least ≤ 65536) × (Rises l.least (drop l.entry-index l.entries) → Rises 0 l.entries)
