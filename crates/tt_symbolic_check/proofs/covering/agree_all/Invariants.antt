use Rattle.std.proofs.Common.{◌<◌, ℕ, get_or}
use Rattle.tt_symbolic_state.specs.declared.cell.Cell.{Cell}
use Rattle.tt_symbolic_check.specs.Covering.{Agrees, Extends}
use Rattle.tt_symbolic_check.proofs.covering.agree_all.Given as goal

abbrev pub invariant-loop-i : goal.invariant-loop-i
invariant-loop-i l = Extends l.initial.assigned l.assigned × ((k : ℕ) (d : Cell) → k < l.i → Agrees l.assigned l.ranges (get_or l.mine k d) (get_or l.theirs k d))
