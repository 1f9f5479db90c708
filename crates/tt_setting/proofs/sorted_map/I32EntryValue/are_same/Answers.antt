use Rattle.std.proofs.lemmas.Bool.Decides.{Decides-int_eq}
use Rattle.std.proofs.Common.{int_eq}
use Rattle.tt_setting.proofs.SameEntries.{entries-decide}
use Rattle.tt_setting.proofs.sorted_map.I32EntryValue.are_same.Goals as goal

pub returns : goal.returns
returns c = entries-decide int_eq Decides-int_eq c.args.mine.now c.args.theirs.now c.eq.result c.eq.ensures
