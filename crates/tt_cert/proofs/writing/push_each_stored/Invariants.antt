use Rattle.std.proofs.Common.{[], take}
use Rattle.std.specs.List.{AllByRecursion}
use Rattle.tt_cert.specs.Text.{stored_text}
use Rattle.tt_cert.proofs.Pushed.{AreWritten, StoredPairFits}
use Rattle.tt_cert.proofs.writing.push_each_stored.Given as goal

abbrev pub invariant-loop-cell : goal.invariant-loop-cell
invariant-loop-cell l = AreWritten stored_text l.fn.out.items [] (take l.cell-index l.cells) l.out.items
    × AllByRecursion StoredPairFits (take l.cell-index l.cells)
