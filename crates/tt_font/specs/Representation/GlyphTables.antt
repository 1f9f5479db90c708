-- The faults of the glyphs of the tables `loca` and `glyf`, as the code has them. (Representation.)
use Rattle.std.specs.Prelude.{◌≡◌, ℕ, ◌<◌, true, is_some}
use Rattle.tt_font.specs.declared.glyph_table.GlyphTable.{GlyphTable}
use Rattle.tt_font.specs.Glyphs.{program_of, component_total}
use Rattle.tt_font.specs.PlacedGlyphs.{glyphs_of, outlines_in}
use Rattle.tt_font.specs.Conditions.{Condition, glyph_fault, composite_fault, glyphs_fault}

-- how many components all glyphs list
abbrev pub components_in : GlyphTable → ℕ
components_in table = component_total (glyphs_of table) table.count

-- the bytes of each glyph are there
abbrev pub AreWhole : GlyphTable → Type 0
AreWhole table = (id : ℕ) → id < table.count → is_some (program_of (glyphs_of table id)) ≡ true

-- the bytes of some glyph end too early
abbrev pub truncated_in : GlyphTable → Condition
truncated_in table = glyph_fault table.count (glyphs_of table)

-- the components, points or contours of some glyph are at fault
abbrev pub refused_in : GlyphTable → Condition
refused_in table = composite_fault table.count (outlines_in table)

-- the first of these two conditions that holds
abbrev pub fault_in : GlyphTable → Condition
fault_in table = glyphs_fault table.count (glyphs_of table) (outlines_in table)
