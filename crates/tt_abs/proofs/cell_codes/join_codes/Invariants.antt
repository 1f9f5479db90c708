use Rattle.std.proofs.Common.{◌≡◌, ℕ, length, ◌<◌, ◌≤◌, get_or}
use Rattle.tt_abs.specs.Representation.Codes.{cell_of_code}
use Rattle.tt_abs.specs.Stacks.{IsLeastCell}
use Rattle.tt_abs.proofs.cell_codes.join_codes.Given as goal

abbrev pub invariant-loop-i : goal.invariant-loop-i
invariant-loop-i l = record {
  depth : length l.mine ≡ length l.theirs;
  done : (k : ℕ) → k < l.i → IsLeastCell (cell_of_code (get_or l.initial.mine k 0)) (cell_of_code (get_or l.theirs k 0)) (cell_of_code (get_or l.mine k 0));
  rest : (k : ℕ) → l.i ≤ k → get_or l.mine k 0 ≡ get_or l.initial.mine k 0;
}
