use Rattle.std.proofs.Common.{take}
use Rattle.std.specs.List.{All}
use Rattle.tt_symbolic.specs.Representation.Keeping.{IsNoStore}
use Rattle.tt_symbolic.proofs.kept.stores_nothing.Given as goal

abbrev pub invariant-loop-update : goal.invariant-loop-update
invariant-loop-update l = All IsNoStore (take l.update-index l.updates)
