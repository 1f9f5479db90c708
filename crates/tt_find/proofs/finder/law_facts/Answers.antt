use Rattle.std.proofs.Common.{arith}
use Rattle.tt_setting.specs.Settings.{setting_of}
use Rattle.tt_find.proofs.finder.law_facts.Goals as goal

pub returns : goal.returns
returns c = record {
  flow = c.flow_laws.ensures (setting_of c.args.setting.now) c.args.setting.now.start.now c.range_facts.ensures.range c.range_facts.ensures.short c.requires.ascends c.requires.fits;
  height = let d = c.range_facts.ensures.range.depth in let e = c.from.ensures in let f = c.if-prove.false in let e' = c.from-2.ensures in let f' = c.if-prove-2.false in omega arith;
  short = c.range_facts.ensures.short;
}
