-- What the checks of a font's programs say together.
use Rattle.std.specs.Prelude.{◌≡◌, ℕ, [], Some}
use Rattle.tt_code.specs.Fonts as strict
use Rattle.tt_code.specs.Fonts.{Font, cvt_setting, font_setting}
use Rattle.tt_code.specs.Runs.{NeverFaults}
use Rattle.tt_code.specs.Settings.{Setting}
use Rattle.tt_symbolic_state.specs.CvtMachine.{CvtNeverFaults}
use Rattle.hintcheck_fonts.specs.CvtStarts.{GlyphPrograms, StartsCvtProgram, StartsFontProgram, StartsGlyphProgram}
use Rattle.hintcheck_fonts.specs.SymbolicEnds.{AreEndsKnowing, IsGlyphChecked, IsSafeKnowing, StartGlyphs}
use Rattle.hintcheck_fonts.specs.declared.ends.Ends.{Ends}
use Rattle.hintcheck_fonts.specs.declared.glyph_starts.GlyphStarts.{GlyphStarts}

-- the font program, the CVT program, and these glyph programs were checked, each with what is known
-- at the end of those before it
pub record IsChecked (f : Font) (programs : GlyphPrograms) (first second : Ends)
    (g : GlyphStarts) : Type 0 where
  pub font_safe : IsSafeKnowing (font_setting f) []
  pub font_ends : AreEndsKnowing (font_setting f) [] first
  pub cvt_safe : IsSafeKnowing (cvt_setting f) first.functions
  pub cvt_ends : AreEndsKnowing (cvt_setting f) first.functions second
  pub glyph_starts : StartGlyphs second g
  pub glyphs : (glyph : ℕ) (s : Setting) → programs glyph ≡ Some s → IsGlyphChecked s g

-- no run of the font program, of the CVT program, or of one of these glyph programs reaches a fault
pub record IsFontSafe (f : Font) (programs : GlyphPrograms) : Type 0 where
  pub font_program : CvtNeverFaults (font_setting f) StartsFontProgram
  pub cvt_program : CvtNeverFaults (cvt_setting f) (StartsCvtProgram f)
  pub glyph_programs :
      (glyph : ℕ) (s : Setting) → programs glyph ≡ Some s
      → CvtNeverFaults s (StartsGlyphProgram f programs)

-- a font whose programs were checked is safe
abbrev pub CheckedFontsAreSafe : Type 0
CheckedFontsAreSafe =
    (f : Font) (programs : GlyphPrograms) (first second : Ends) (g : GlyphStarts)
    → IsChecked f programs first second g → IsFontSafe f programs

-- a font whose programs never fault on the hint machine is safe: each run of the machine with
-- control values, from where a program of the font starts, is one of the hint machine
abbrev pub StrictFontsAreSafe : Type 0
StrictFontsAreSafe =
    (f : Font) (programs : GlyphPrograms)
    → NeverFaults (font_setting f) (strict.StartsFontProgram f)
    → NeverFaults (cvt_setting f) (strict.StartsCvtProgram f)
    → ((glyph : ℕ) (s : Setting) → programs glyph ≡ Some s
    → NeverFaults s (strict.StartsGlyphProgram f))
    → IsFontSafe f programs
