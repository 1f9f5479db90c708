use Rattle.std.proofs.Common.{take}
use Rattle.std.specs.List.{All}
use Rattle.hintcheck_fonts.specs.SymbolicEnds.{IsWithin}
use Rattle.hintcheck_fonts.proofs.glyph_starts.GlyphStarts.new.Given as goal

abbrev pub invariant-loop-start : goal.invariant-loop-start
invariant-loop-start l = All (IsWithin l.ends.functions l.storage.items l.controls.items) (take l.start-index l.start-items)
