use Rattle.tt_symbolic.specs.Representation.Areas.{IsPartOf}
use Rattle.tt_symbolic.proofs.areas.remove_between.Given as goal

abbrev pub invariant-loop-i : goal.invariant-loop-i
invariant-loop-i l = IsPartOf l.entries l.initial.entries
