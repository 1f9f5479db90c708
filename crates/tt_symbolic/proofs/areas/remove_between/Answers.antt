use Rattle.tt_symbolic.proofs.AreaFacts.{part_more, part_without}
use Rattle.tt_symbolic.proofs.areas.remove_between.Goals as goal

pub loop-i-preserved : goal.loop-i-preserved
loop-i-preserved c = part_more c.args.entries.now c.loop-i.entries c.remove.new.self c.loop-i.invariant (part_without c.in-Some.number c.loop-i.entries c.remove.new.self c.remove.ensures)
