use Rattle.std.proofs.Common.{◌≡◌, ◌++◌, drop, length, vec_len, vec_capacity, ◌+◌, ◌≤◌}
use Rattle.tt_abs.specs.Representation.Codes.{cells_of}
use Rattle.tt_abs.proofs.cell_codes.append_cells.Given as goal

abbrev pub invariant-loop-code : goal.invariant-loop-code
invariant-loop-code l = record {
  items : l.cells.items ++ cells_of (drop l.code-index l.codes) ≡ l.initial.cells.items ++ cells_of l.codes;
  len : vec_len l.cells ≡ vec_len l.initial.cells + l.code-index;
  room : vec_len l.initial.cells + length l.codes ≤ vec_capacity l.cells;
  capacity : vec_capacity l.cells ≡ vec_capacity l.initial.cells;
}
