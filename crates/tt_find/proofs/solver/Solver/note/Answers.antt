use Rattle.tt_find.proofs.Listed.{spared_elsewhere, spared_new}
use Rattle.tt_find.proofs.solver.Solver.note.Goals as goal

pub returns-in-Elsewhere-clause-spare : goal.returns-in-Elsewhere-clause-spare
returns-in-Elsewhere-clause-spare c = λ was tells.
    spared_elsewhere c.args.self.now.spare.keys c.remove.new.self.keys (c.args.context, c.args.offset) was c.args.source c.in-Elsewhere.is c.remove.ensures.updates.1 c.remove.ensures.updates.2

pub returns-in_ok-insert-in-JustBefore-clause-spare : goal.returns-in_ok-insert-in-JustBefore-clause-spare
returns-in_ok-insert-in-JustBefore-clause-spare c = λ was tells.
    spared_new c.args.self.now.spare.keys c.insert.new.self.keys (c.args.context, c.args.offset) was c.args.source c.args.joined c.in-JustBefore.is c.in-New.is tells
    c.in_ok-insert-in-JustBefore.ensures.updates.1 c.in_ok-insert-in-JustBefore.ensures.updates.2
