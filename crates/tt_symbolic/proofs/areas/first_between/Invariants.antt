use Rattle.std.proofs.Common.{take, ℕ}
use Rattle.std.specs.List.{All}
use Rattle.tt_symbolic_state.specs.declared.cell.Cell.{Cell}
use Rattle.tt_symbolic.specs.Representation.Areas.{IsOutside}
use Rattle.tt_symbolic.proofs.areas.first_between.Given as goal

abbrev pub invariant-loop-entry : goal.invariant-loop-entry
invariant-loop-entry l = All (λ (e : ℕ × Cell). IsOutside l.low l.high e.0) (take l.entry-index l.entries)
