use Rattle.std.proofs.Common.{take, ℕ}
use Rattle.std.specs.List.{All}
use Rattle.tt_symbolic_state.specs.declared.cell.Cell.{Cell}
use Rattle.tt_symbolic_check.specs.Covering.{Extends, IsEntryOf}
use Rattle.tt_symbolic_check.proofs.covering.agree_entries.Given as goal

abbrev pub invariant-loop-i : goal.invariant-loop-i
invariant-loop-i l = Extends l.initial.assigned l.assigned × All (λ (e : ℕ × Cell). IsEntryOf l.assigned l.ranges l.mine e) (take l.i l.theirs)
