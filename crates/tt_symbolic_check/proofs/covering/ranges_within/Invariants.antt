use Rattle.std.proofs.Common.{ℕ, ◌≡◌, ◌<◌, Some, Option, slice_get}
use Rattle.tt_symbolic_state.specs.declared.cell.Cell.{Cell}
use Rattle.tt_symbolic_state.specs.declared.cell.Range.{Range}
use Rattle.tt_symbolic_check.specs.Covering.{IsImageWithin}
use Rattle.tt_symbolic_check.proofs.covering.ranges_within.Given as goal

abbrev pub invariant-loop-i : goal.invariant-loop-i
invariant-loop-i l = (k : ℕ) (r : Range) → k < l.i → slice_get l.theirs k ≡ Some r → (given : Option Cell) × (slice_get l.assigned k ≡ Some given) × IsImageWithin given l.mine r
