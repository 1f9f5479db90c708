use Rattle.std.proofs.Common.{◌<◌, ℕ, get_or}
use Rattle.tt_symbolic_state.specs.declared.state.OpenCall.{OpenCall}
use Rattle.tt_symbolic_check.specs.Covering.{AgreeCall, Extends}
use Rattle.tt_symbolic_check.proofs.covering.agree_calls.Given as goal

abbrev pub invariant-loop-i : goal.invariant-loop-i
invariant-loop-i l = Extends l.initial.assigned l.assigned × ((k : ℕ) (d : OpenCall) → k < l.i → AgreeCall l.assigned l.ranges (get_or l.mine k d) (get_or l.theirs k d))
