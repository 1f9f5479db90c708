use Rattle.std.proofs.Common.{◌≡◌, ◌++◌, drop, take}
use Rattle.tt_abs.specs.StorageCells.{storage_of}
use Rattle.tt_abs.specs.Representation.Stored.{AreIndexedPushes}
use Rattle.tt_abs.specs.Transfers.{cells_pushed}
use Rattle.tt_abs.proofs.changes.pushed_cells.Given as goal

abbrev pub invariant-loop-pushed : goal.invariant-loop-pushed
invariant-loop-pushed l = record {
  indexed : AreIndexedPushes (take l.fn.count l.fn.state.stack) (drop l.pushed-index l.fn.pushes);
  made : l.made.items ++ cells_pushed (take l.fn.count l.fn.state.stack) (storage_of l.fn.state.storage) (drop l.pushed-index l.fn.pushes)
      ≡ cells_pushed (take l.fn.count l.fn.state.stack) (storage_of l.fn.state.storage) l.fn.pushes;
}
