use Rattle.std.proofs.Common.{◌≡◌, length}
use Rattle.tt_setting.specs.EntryLists.{entries_from}
use Rattle.tt_setting.proofs.sorted_map.from_number.Given as goal

abbrev pub invariant-loop-rest : goal.invariant-loop-rest
invariant-loop-rest g l = entries_from l.number l.rest ≡ entries_from l.number l.entries

abbrev pub decreases-loop-rest : goal.decreases-loop-rest
decreases-loop-rest g l = length l.rest
