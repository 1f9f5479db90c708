-- What the bytes of a font file hold (OpenType specification, "Font tables").
use Rattle.std.specs.Prelude.{◌≡◌, ℕ, ◌*◌, ◌<◌, ◌≤◌, List, [], ◌∷◌, length, slice_index_or, Some}
use Rattle.tt_code.specs.declared.limits.Limits.{Limits}
use Rattle.tt_font.specs.declared.glyph_part.GlyphPart.{GlyphPart}
use Rattle.tt_font.specs.declared.tag.Tag.TheVariants.{Fpgm, Prep}
use Rattle.tt_font.specs.Directory.{table}
use Rattle.tt_font.specs.Glyphs.{program_of, component_total}
use Rattle.tt_font.specs.Outlines.{Outline, own_points, own_contours}
use Rattle.tt_font.specs.Chains.{SumsChains}
use Rattle.tt_font.specs.Files.{font_limits, font_cvt_count, font_glyph_count, font_glyphs, font_outlines}

-- a glyph: how many points and contours it has, and its program
pub record GlyphData : Type 0 where
  pub points : ℕ
  pub contours : ℕ
  pub program : List ℕ

-- a font: what it allows its programs, how many control values it has, its font program, its CVT
-- program and its glyphs; and how often a component was read to know this
pub record FontData : Type 0 where
  pub limits : Limits
  pub cvt_count : ℕ
  pub fpgm : List ℕ
  pub prep : List ℕ
  pub glyphs : List GlyphData
  pub component_reads : ℕ

-- the font of this glyph alone, whose font program and CVT program are empty
abbrev pub font_around : Limits → ℕ → GlyphData → FontData
font_around limits cvt_count glyph = record {
  limits = limits;
  cvt_count = cvt_count;
  fpgm = [];
  prep = [];
  glyphs = glyph ∷ [];
  component_reads = 0;
}

-- a glyph without data
abbrev pub no_glyph : GlyphData
no_glyph = record { points = 0; contours = 0; program = [] }

-- the glyph of a number
abbrev pub glyph_at : List GlyphData → ℕ → GlyphData
glyph_at glyphs id = slice_index_or glyphs id no_glyph

-- a glyph's program is in its bytes, and its points and contours are the sums over all chains of
-- components, each at most 65,535
pub record ReadsGlyph (glyph : List ℕ) (outlines : ℕ → Outline) (id : ℕ) (found : GlyphData)
    : Type 0 where
  pub program : program_of glyph ≡ Some found.program
  pub points : SumsChains own_points outlines id found.points
  pub contours : SumsChains own_contours outlines id found.contours
  pub points_most : found.points ≤ 65535
  pub contours_most : found.contours ≤ 65535

-- this many glyphs were found, and each of them is as `ReadsGlyph` says
pub record ReadsGlyphs (count : ℕ) (glyphs : ℕ → List ℕ) (outlines : ℕ → Outline)
    (found : List GlyphData) : Type 0 where
  pub len : length found ≡ count
  pub each : (id : ℕ) → id < count → ReadsGlyph (glyphs id) outlines id (glyph_at found id)

-- each field of a font, except for `component_reads`, is in the bytes at its place
pub record Reads (bytes : List ℕ) (font : FontData) : Type 0 where
  pub limits : font.limits ≡ font_limits bytes
  pub cvt_count : font.cvt_count ≡ font_cvt_count bytes
  pub fpgm : font.fpgm ≡ table Fpgm bytes
  pub prep : font.prep ≡ table Prep bytes
  pub glyphs
      : ReadsGlyphs (font_glyph_count bytes) (font_glyphs bytes) (font_outlines bytes) font.glyphs

-- at least as many components were read as all glyphs list, and at most 17 times as many
pub record ReadsComponents (bytes : List ℕ) (font : FontData) : Type 0 where
  pub at_least : component_total (font_glyphs bytes) (font_glyph_count bytes) ≤ font.component_reads
  pub at_most
      : font.component_reads ≤ 17 * component_total (font_glyphs bytes) (font_glyph_count bytes)

-- the data of a glyph that the code has as a `GlyphPart`
abbrev pub glyph_data : GlyphPart → GlyphData
glyph_data part = record {
  points = part.points;
  contours = part.contours;
  program = part.program.now;
}
