-- The glyphs that the tables `loca` and `glyf` place, of a `GlyphTable`.
use Rattle.std.specs.Prelude.{ℕ, List}
use Rattle.tt_font.specs.declared.glyph_table.GlyphTable.{GlyphTable}
use Rattle.tt_font.specs.Locations.{glyph_bytes}
use Rattle.tt_font.specs.Outlines.{Outline, outlines_of}

-- the bytes of each glyph
abbrev pub glyphs_of : GlyphTable → ℕ → List ℕ
glyphs_of table id = glyph_bytes table.format table.loca.now table.glyf.now id

-- the outline of each glyph
abbrev pub outlines_in : GlyphTable → ℕ → Outline
outlines_in table id = outlines_of table.count (glyphs_of table) id
