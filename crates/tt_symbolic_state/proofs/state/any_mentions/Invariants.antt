use Rattle.std.proofs.Common.{take}
use Rattle.std.specs.List.{All}
use Rattle.tt_symbolic_state.specs.Shows.{IsFree}
use Rattle.tt_symbolic_state.proofs.state.any_mentions.Given as goal

abbrev pub invariant-loop-cell : goal.invariant-loop-cell
invariant-loop-cell l = All (IsFree l.number) (take l.cell-index l.cells)
