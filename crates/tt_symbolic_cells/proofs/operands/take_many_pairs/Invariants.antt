use Rattle.std.proofs.Common.{◌-◌, drop}
use Rattle.tt_code.specs.Operands.{times, pair}
use Rattle.tt_code.specs.declared.reason.Reason.{Reason}
use Rattle.tt_symbolic_state.specs.Values.{Fits, Valuation}
use Rattle.tt_symbolic_state.specs.Shows.{values}
use Rattle.tt_symbolic_cells.specs.Taking.{GoesOn, below_bound}
use Rattle.tt_symbolic_cells.proofs.operands.take_many_pairs.Given as goal

abbrev pub invariant-loop-i : goal.invariant-loop-i
invariant-loop-i l = (v : Valuation) → Fits l.fn.ranges v → (r : Reason)
    → GoesOn (times l.fn.count (pair (below_bound l.fn.bound r)) (drop l.fn.taken (values v l.fn.stack))) (drop l.after (values v l.fn.stack)) (times (l.fn.count - l.i) (pair (below_bound l.fn.bound r)))
