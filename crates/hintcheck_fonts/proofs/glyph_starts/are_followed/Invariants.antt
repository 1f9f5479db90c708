use Rattle.std.proofs.Common.{take}
use Rattle.std.specs.List.{All}
use Rattle.hintcheck_fonts.specs.SymbolicEnds.{IsFollowed}
use Rattle.hintcheck_fonts.proofs.glyph_starts.are_followed.Given as goal

abbrev pub invariant-loop-end : goal.invariant-loop-end
invariant-loop-end l = All (IsFollowed l.functions l.starts) (take l.end-index l.ends)
