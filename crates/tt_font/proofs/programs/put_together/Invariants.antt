use Rattle.std.proofs.Common.{map}
use Rattle.tt_font.specs.Representation.GlyphParts.{bytes_of, PartsAre}
use Rattle.tt_font.specs.Reading.{glyph_data}
use Rattle.tt_font.proofs.programs.put_together.Given as goal

abbrev pub invariant-loop-id : goal.invariant-loop-id
invariant-loop-id l = PartsAre (map bytes_of l.programs) l.sizes l.id (map glyph_data l.glyphs.items)
