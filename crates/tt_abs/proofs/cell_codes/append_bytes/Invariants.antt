use Rattle.std.proofs.Common.{◌≡◌, ◌++◌, ◌+◌, ◌≤◌, drop, length, map, pos}
use Rattle.smallvec.specs.SmallVec.{small_vec_len}
use Rattle.tt_abs.specs.declared.cells.Cell.TheVariants.{Known}
use Rattle.tt_abs.specs.Representation.Codes.{cells_of}
use Rattle.tt_abs.proofs.cell_codes.append_bytes.Given as goal

abbrev pub invariant-loop-byte : goal.invariant-loop-byte
invariant-loop-byte l = record {
  cells : cells_of l.codes.items ++ map Known (map pos (drop l.byte-index l.bytes)) ≡ cells_of l.initial.codes.items ++ map Known (map pos l.bytes);
  len : small_vec_len l.codes ≡ small_vec_len l.initial.codes + l.byte-index;
  room : small_vec_len l.initial.codes + length l.bytes ≤ l.codes.capacity;
}
