use Rattle.tt_abs.proofs.EntriesInRange.{in_range-put}
use Rattle.tt_abs.proofs.state.State.define.Goals as goal

pub returns-clause-in_range : goal.returns-clause-in_range
returns-clause-in_range c =
    λ r. (r.0, (r.1.0, (in_range-put _ c.args.number c.args.body _ c.put.new.self c.put.result tt c.put.ensures.ok c.put.ensures.err r.1.1.0, r.1.1.1)))
