use Rattle.std.proofs.Common.{take, ℕ}
use Rattle.std.specs.List.{All}
use Rattle.tt_symbolic_state.specs.declared.cell.Cell.{Cell}
use Rattle.tt_symbolic_state.specs.Shows.{IsFree}
use Rattle.tt_symbolic_state.proofs.state.any_entry_mentions.Given as goal

abbrev pub invariant-loop-entry : goal.invariant-loop-entry
invariant-loop-entry l = All (λ (e : ℕ × Cell). IsFree l.number e.1) (take l.entry-index l.entries)
