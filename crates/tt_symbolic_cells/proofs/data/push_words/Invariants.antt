use Rattle.std.proofs.Common.{◌≡◌, length}
use Rattle.tt_code.specs.Computing.{words}
use Rattle.tt_symbolic_state.specs.Values.{Valuation}
use Rattle.tt_symbolic_state.specs.Shows.{values}
use Rattle.tt_symbolic_cells.specs.Stacking.{numbers_on}
use Rattle.tt_symbolic_cells.proofs.data.push_words.Given as goal

abbrev pub invariant-loop-rest : goal.invariant-loop-rest
invariant-loop-rest l = (v : Valuation) → numbers_on (words l.rest) (values v l.stack) ≡ numbers_on (words l.bytes) (values v l.initial.stack)

abbrev pub decreases-loop-rest : goal.decreases-loop-rest
decreases-loop-rest l = length l.rest
