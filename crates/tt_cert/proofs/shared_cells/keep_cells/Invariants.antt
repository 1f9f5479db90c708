use Rattle.std.proofs.Common.{List, ◌++◌, take}
use Rattle.tt_abs.specs.declared.cells.Cell.{Cell}
use Rattle.tt_cert.specs.Representation.KeptTexts.{IsStackText}
use Rattle.tt_cert.proofs.shared_cells.keep_cells.Given as goal

abbrev pub invariant-loop-cell : goal.invariant-loop-cell
invariant-loop-cell l =
    (before : List Cell) → IsStackText l.fn.text before → IsStackText l.text (before ++ take l.cell-index l.fn.cells)
