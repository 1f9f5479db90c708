use Rattle.tt_setting.proofs.RefusalLemmas.{refused_within}
use Rattle.tt_symbolic_check.proofs.site.Site.refused.Goals as goal

pub returns-clause-within : goal.returns-clause-within
returns-clause-within c = refused_within c.args.self.spot c.args.self.offset c.args.fault c.at.result c.at.ensures
