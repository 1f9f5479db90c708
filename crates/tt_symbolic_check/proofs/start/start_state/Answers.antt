use Rattle.std.proofs.Common.{refl, rules}
use Rattle.tt_symbolic_check.proofs.Parts.{start_is}
use Rattle.tt_symbolic_check.proofs.start.start_state.Goals as goal

pub returns-clause-start : goal.returns-clause-start
returns-clause-start c = start_is c.args.start.now _ (search rules) (search rules) (search rules) (search rules) (search rules) (search rules) (search rules) c.known.ensures c.known-2.ensures c.known-3.ensures c.known-4.ensures refl refl refl
