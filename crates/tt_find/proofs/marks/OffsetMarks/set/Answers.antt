use Rattle.tt_find.proofs.Marking.{sets_font, sets_main, sets_prep}
use Rattle.tt_find.proofs.marks.OffsetMarks.set.Goals as goal

pub returns-in-Main : goal.returns-in-Main
returns-in-Main c = sets_main c.args.self.now c.args.spot c.args.offset c.args.mark c.in-Main.is c.requires

pub returns-in-Font : goal.returns-in-Font
returns-in-Font c = sets_font c.args.self.now c.args.spot c.args.offset c.args.mark c.in-Font.is c.requires

pub returns-in-Prep : goal.returns-in-Prep
returns-in-Prep c = sets_prep c.args.self.now c.args.spot c.args.offset c.args.mark c.in-Prep.is c.requires
