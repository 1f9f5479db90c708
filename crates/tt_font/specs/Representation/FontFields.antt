-- The fields of a font, as contracts see them.
use Rattle.std.specs.Prelude.{◌<◌, ◌^◌, length, map}
use Rattle.tt_font.specs.declared.font.Font.TheInside.{Inside}
use Rattle.tt_font.specs.Ranges.{IsFontInRange}
use Rattle.tt_font.specs.Reading.{FontData, glyph_data}

-- the font that has these fields
abbrev pub font_data : Inside → FontData
font_data font = record {
  limits = font.limits;
  cvt_count = font.cvt_count;
  fpgm = font.fpgm.now;
  prep = font.prep.now;
  glyphs = map glyph_data font.glyphs.items;
  component_reads = font.component_reads;
}

-- what each font keeps: there are fewer than 2^16 glyphs, and its programs and its stack are in
-- their ranges
pub record IsKept (font : Inside) : Type 0 where
  pub few_glyphs : length font.glyphs.items < 2 ^ 16
  pub in_range : IsFontInRange (font_data font)
