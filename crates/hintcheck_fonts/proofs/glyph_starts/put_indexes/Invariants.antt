use Rattle.std.proofs.Common.{take, ℕ}
use Rattle.std.specs.List.{All}
use Rattle.tt_symbolic.specs.Kept.{IsAmong}
use Rattle.tt_symbolic_state.specs.declared.cell.Cell.{Cell}
use Rattle.hintcheck_fonts.proofs.glyph_starts.put_indexes.Given as goal

abbrev pub invariant-loop-entry : goal.invariant-loop-entry
invariant-loop-entry l =
    ((i : ℕ) → IsAmong l.fn.indexes.items i → IsAmong l.indexes.items i)
    × All (λ (e : ℕ × Cell). IsAmong l.indexes.items e.0) (take l.entry-index l.entry-items)
