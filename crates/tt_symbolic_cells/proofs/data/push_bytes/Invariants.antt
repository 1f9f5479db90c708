use Rattle.std.proofs.Common.{◌≡◌, drop, map, pos}
use Rattle.tt_symbolic_state.specs.Values.{Valuation}
use Rattle.tt_symbolic_state.specs.Shows.{values}
use Rattle.tt_symbolic_cells.specs.Stacking.{numbers_on}
use Rattle.tt_symbolic_cells.proofs.data.push_bytes.Given as goal

abbrev pub invariant-loop-byte : goal.invariant-loop-byte
invariant-loop-byte l = (v : Valuation) → numbers_on (map pos (drop l.byte-index l.bytes)) (values v l.stack) ≡ numbers_on (map pos l.bytes) (values v l.initial.stack)
