-- The table `maxp`, version 1.0 (OpenType specification, `maxp`).
use Rattle.std.specs.Prelude.{ℕ, List}
use Rattle.tt_code.specs.declared.limits.Limits.{Limits}
use Rattle.tt_font.specs.Numbers.{u16_at}

-- numGlyphs
abbrev pub glyph_count : List ℕ → ℕ
glyph_count maxp = u16_at 4 maxp

-- the fields that limit a font's programs: maxZones, maxTwilightPoints, maxStorage,
-- maxFunctionDefs, maxStackElements and maxSizeOfInstructions
abbrev pub limits_of : List ℕ → Limits
limits_of maxp = record {
  zones = u16_at 14 maxp;
  twilight = u16_at 16 maxp;
  storage = u16_at 18 maxp;
  functions = u16_at 20 maxp;
  stack = u16_at 24 maxp;
  program_size = u16_at 26 maxp;
}
