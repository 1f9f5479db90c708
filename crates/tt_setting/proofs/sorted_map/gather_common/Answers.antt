use Rattle.std.proofs.Common.{◌<◌, arith, length}
use Rattle.tt_setting.specs.EntryLists.{common_entries}
use Rattle.tt_setting.proofs.EntryMerge.{gather-kept, gather-left}
use Rattle.tt_setting.proofs.sorted_map.gather_common.Goals as goal
use Rattle.tt_setting.proofs.sorted_map.gather_common.Goals.{then-begins_with, else-begins_with}

pub loop-at-preserved : goal.loop-at-preserved
loop-at-preserved g c =
    let same = g.T.PartialEq.eq in
    let lt : c.loop-at.at < length c.loop-at.mine = omega (arith, c.loop-at-test.true, c.loop-at.auto.mine) in
    elim c.if-begins_with.branch [
      | then-begins_with w ↦ gather-kept same (common_entries same c.args.mine.now c.args.theirs.now) c.loop-at.mine c.loop-at.rest.now c.if-begins_with.mine c.from_number-rest.result.now
          c.loop-at.kept c.loop-at.at c.if-begins_with.kept c.index-mine-at.result c.begins_with.result lt c.index-mine-at.is c.loop-at.invariant c.from_number-rest.ensures c.begins_with.ensures
          w.if-begins_with.true w.mine-is w.kept-is
      | else-begins_with w ↦ gather-left same (common_entries same c.args.mine.now c.args.theirs.now) c.loop-at.mine c.loop-at.rest.now c.if-begins_with.mine c.from_number-rest.result.now
          c.loop-at.kept c.loop-at.at c.if-begins_with.kept c.index-mine-at.result c.begins_with.result lt c.index-mine-at.is c.loop-at.invariant c.from_number-rest.ensures c.begins_with.ensures
          w.if-begins_with.false w.mine-is w.kept-is
    ]
