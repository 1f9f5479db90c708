use Rattle.tt_symbolic_check.proofs.Walkings.{whole}
use Rattle.tt_symbolic_check.proofs.checking.check.Goals as goal

pub returns-clause-safe : goal.returns-clause-safe
returns-clause-safe g c = (whole c.args.setting.now c.args.kept.now c.args.starts.now c.in_ok-walk.walk c.walk_on.new.walk c.in_ok-walk.ensures c.in_ok-walk_on.ensures.finishes.reaches c.in_ok-walk_on.ensures.finishes.none_pending).0

pub returns-clause-ends : goal.returns-clause-ends
returns-clause-ends g c = (whole c.args.setting.now c.args.kept.now c.args.starts.now c.in_ok-walk.walk c.walk_on.new.walk c.in_ok-walk.ensures c.in_ok-walk_on.ensures.finishes.reaches c.in_ok-walk_on.ensures.finishes.none_pending).1

pub returns-clause-kept : goal.returns-clause-kept
returns-clause-kept g c = (whole c.args.setting.now c.args.kept.now c.args.starts.now c.in_ok-walk.walk c.walk_on.new.walk c.in_ok-walk.ensures c.in_ok-walk_on.ensures.finishes.reaches c.in_ok-walk_on.ensures.finishes.none_pending).2
