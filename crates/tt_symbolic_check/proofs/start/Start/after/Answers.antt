use Rattle.std.proofs.Common.{rules}
use Rattle.tt_symbolic_check.proofs.Parts.{after_is}
use Rattle.tt_symbolic_check.proofs.start.Start.after.Goals as goal

pub returns : goal.returns
returns c = after_is c.args.end.now _ (search rules) (search rules) (search rules) (search rules)
