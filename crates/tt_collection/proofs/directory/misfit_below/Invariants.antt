use Rattle.std.proofs.Common.{◌≡◌, None}
use Rattle.tt_collection.specs.CollectionFaults.{misfit_below}
use Rattle.tt_collection.proofs.directory.misfit_below.Given as goal

abbrev pub invariant-loop-i : goal.invariant-loop-i
invariant-loop-i l = misfit_below l.shift l.bytes l.i ≡ None
