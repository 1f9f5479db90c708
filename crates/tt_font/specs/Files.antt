-- The parts of a font file, from its bytes (OpenType specification, "Font tables").
use Rattle.std.specs.Prelude.{ℕ, ◌/◌, List, length}
use Rattle.tt_code.specs.declared.limits.Limits.{Limits}
use Rattle.tt_font.specs.declared.tag.Tag.TheVariants.{Cvt, Glyf, Head, Loca, Maxp}
use Rattle.tt_font.specs.Directory.{table}
use Rattle.tt_font.specs.Maxp.{limits_of, glyph_count}
use Rattle.tt_font.specs.Locations.{loca_format, glyph_bytes}
use Rattle.tt_font.specs.Outlines.{Outline, outlines_of}

-- what the font allows its programs
abbrev pub font_limits : List ℕ → Limits
font_limits bytes = limits_of (table Maxp bytes)

-- how many control values the font has: each has two bytes, and an odd last byte is ignored
abbrev pub font_cvt_count : List ℕ → ℕ
font_cvt_count bytes = length (table Cvt bytes) / 2

-- how many glyphs the font has
abbrev pub font_glyph_count : List ℕ → ℕ
font_glyph_count bytes = glyph_count (table Maxp bytes)

-- the bytes of each glyph
abbrev pub font_glyphs : List ℕ → ℕ → List ℕ
font_glyphs bytes id =
    glyph_bytes (loca_format (table Head bytes)) (table Loca bytes) (table Glyf bytes) id

-- the outline of each glyph
abbrev pub font_outlines : List ℕ → ℕ → Outline
font_outlines bytes id = outlines_of (font_glyph_count bytes) (font_glyphs bytes) id
