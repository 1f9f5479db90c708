use Rattle.std.proofs.Common.{sym, ◌∙◌}
use Rattle.tt_family.proofs.Adding.{found_there, is_absent}
use Rattle.tt_family.proofs.builder.Builder.number.Goals as goal

pub returns-clause-some : goal.returns-clause-some
returns-clause-some c = found_there _ _ _ _ c.self.view_is c.self.invariant c.args.parent c.args.frame c.number_of.result c.number_of.ensures

pub returns-clause-none : goal.returns-clause-none
returns-clause-none c = λ lt none. is_absent _ _ _ _ c.self.view_is c.self.invariant c.args.parent c.args.frame (sym none ∙ c.number_of.ensures) lt
