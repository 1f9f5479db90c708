use Rattle.std.proofs.Common.{◌≡◌, drop}
use Rattle.tt_abs.specs.EntryOrders.{missing_entries}
use Rattle.tt_abs.proofs.entry_order.passes_all.Given as goal

abbrev pub invariant-loop-entry : goal.invariant-loop-entry
invariant-loop-entry g l = missing_entries g.T.PartialEq.eq (drop l.entry-index l.mine) l.missing ≡ missing_entries g.T.PartialEq.eq l.mine l.theirs
