use Rattle.std.proofs.Common.{◌≡◌, None}
use Rattle.tt_font.specs.Conditions.{misplaced_entry}
use Rattle.tt_font.proofs.glyph_table.GlyphTable.read.Given as goal

abbrev pub invariant-loop-i : goal.invariant-loop-i
invariant-loop-i l = misplaced_entry l.format l.loca l.glyf l.i ≡ None
