use Rattle.hintcheck_fonts.proofs.Following.{start_knows}
use Rattle.hintcheck_fonts.proofs.ends.start_with.Goals as goal

pub returns : goal.returns
returns c = start_knows _ c.args.functions.now c.unknown-start.ensures.storage c.unknown-start.ensures.controls c.in_ok-replace.ensures c.unknown-start.ensures.ranges
