-- Which glyphs of a font may be drawn with hints: to draw a glyph, a renderer runs its program and
-- the programs of its components at any depth.
use Rattle.std.specs.Prelude.{◌≡◌, ◌≢◌, ◌↔◌, ℕ, ◌<◌, ◌≤◌, List, [], ◌∷◌, Some, length, slice_get, slice_index}
use Rattle.std.specs.List.{All}
use Rattle.tt_code.specs.Cut.{Instruction}
use Rattle.tt_code.specs.Settings.{Setting}
use Rattle.tt_setting.specs.declared.name.Name.{Name}
use Rattle.tt_setting.specs.declared.name.Name.TheVariants as name
use Rattle.tt_font.specs.Chains.{end_of}
use Rattle.tt_font.specs.Files.{font_glyph_count, font_outlines}
use Rattle.tt_font.specs.Laws.{IsWay}
use Rattle.tt_font.specs.Outlines.{Outline}
use Rattle.tt_font.specs.Reading.{FontData, GlyphData, Reads}
use Rattle.hintcheck_fonts.specs.SymbolicLaws.{IsFontSafe}
use Rattle.hintcheck_fonts.specs.CvtStarts.{GlyphPrograms}
use Rattle.hintcheck_programs.specs.FontPrograms.{IsSafeFont, cvt_subject, font_of, font_subject}
use Rattle.hintcheck_programs.specs.Programs.{IsCutInto}
use Rattle.hintcheck_fonts.specs.SymbolicVerdicts.{IsGlyphSetting}
use Rattle.hintcheck_report.specs.declared.refused.Refused.{Refused}

-- a chain of components, of any number of steps, leads from a glyph to another one; one of no steps
-- leads to the glyph itself
pub record Reaches (outlines : ℕ → Outline) (id other : ℕ) : Type 0 where
  pub way : List ℕ
  pub steps : IsWay outlines id way
  pub ends : end_of outlines id way ≡ other

-- the program of this name is another glyph's
abbrev pub IsAnothers : Name → ℕ → Type 0
IsAnothers name.Font id = ⊥
IsAnothers name.Cvt id = ⊥
IsAnothers (name.Glyph other) id = other ≢ id

-- of the font program, the CVT program and a glyph's program none is refused
abbrev pub AreAccepted : List Refused → ℕ → Type 0
AreAccepted refused id = All (λ r. IsAnothers r.program id) refused

-- A glyph of the font may be drawn with hints where these programs are refused: the font program
-- and the CVT program are accepted, and the program of each glyph that it reaches by components, at
-- any depth, itself included.
pub record MayHint (bytes : List ℕ) (refused : List Refused) (id : ℕ) : Type 0 where
  pub inside : id < font_glyph_count bytes
  pub accepted : (other : ℕ) → Reaches (font_outlines bytes) id other → AreAccepted refused other

-- Each entry of an array says by 1 or 0 whether the glyph of this number may be drawn with hints;
-- after the last glyph all are 0.
pub record TellsMayHint (bytes : List ℕ) (refused : List Refused) (entries : List ℕ)
    : Type 0 where
  pub numbers : (id : ℕ) → slice_index entries id ≤ 1
  pub ones : (id : ℕ) → id < length entries
      → (slice_index entries id ≡ 1) ↔ MayHint bytes refused id

-- the font with only one of its glyphs
abbrev pub with_only : FontData → GlyphData → FontData
with_only font glyph = record font { glyphs = glyph ∷ [] }

-- The bytes hold a font with a glyph of this number. No run of the font program, of the CVT
-- program, or of the program of a glyph that it reaches by components, itself included, faults:
-- a font with these programs alone is safe.
pub record HoldSafeGlyph (bytes : List ℕ) (id : ℕ) : Type 0 where
  pub font : FontData
  pub reads : Reads bytes font
  pub inside : id < length font.glyphs
  pub safe : (other : ℕ) (glyph : GlyphData) → Reaches (font_outlines bytes) id other
      → slice_get font.glyphs other ≡ Some glyph → IsSafeFont (with_only font glyph)

-- The bytes hold a font with a glyph for each entry that is 1. As long as only these glyph programs
-- are run, no run of them, of the font program or of the CVT program faults; and the program of each
-- glyph that one with an entry of 1 reaches by components, itself included, is one of them.
pub record HoldSymbolicSafeGlyphs (bytes entries : List ℕ) : Type 0 where
  pub font : FontData
  pub reads : Reads bytes font
  pub inside : (id : ℕ) → slice_index entries id ≡ 1 → id < length font.glyphs
  pub font_program : List Instruction
  pub cvt_program : List Instruction
  pub font_cut : IsCutInto (font_subject font) font_program
  pub cvt_cut : IsCutInto (cvt_subject font font_program []) cvt_program
  pub programs : GlyphPrograms
  pub safe : IsFontSafe (font_of font font_program cvt_program) programs
  pub among : (id other : ℕ) (glyph : GlyphData) → slice_index entries id ≡ 1
      → Reaches (font_outlines bytes) id other → slice_get font.glyphs other ≡ Some glyph
      → (s : Setting) × (programs other ≡ Some s)
      × IsGlyphSetting (font_of font font_program cvt_program) glyph s
