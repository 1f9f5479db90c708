use Rattle.std.proofs.Common.{drop}
use Rattle.tt_symbolic.specs.Representation.Changing.{IsChanged}
use Rattle.tt_symbolic.proofs.changes.update_all.Given as goal

abbrev pub invariant-loop-change : goal.invariant-loop-change
invariant-loop-change l = IsChanged l.count l.changes (drop l.change-index l.changes) l.initial.state l.state
