use Rattle.tt_setting.specs.EntryLists.{common_entries}
use Rattle.tt_setting.proofs.EntryMerge.{Gathered}
use Rattle.tt_setting.proofs.sorted_map.gather_common.Given as goal

abbrev pub invariant-loop-at : goal.invariant-loop-at
invariant-loop-at g l =
    let same = g.T.PartialEq.eq in Gathered same (common_entries same l.initial.mine l.theirs) l.mine l.rest l.kept l.at
