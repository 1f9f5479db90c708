-- The verdict on a font by symbolic states. A refusal tells no more than that this search found no
-- way to accept the program, or why its bytes can't be looked at.
use Rattle.std.specs.Prelude.{◌≡◌, ℕ, ◌+◌, ◌≤◌, zero, suc, List, [], ◌∷◌, None, Some, length}
use Rattle.tt_code.specs.Cut.{Instruction, IsCut}
use Rattle.tt_code.specs.Fonts.{Font, font_setting, glyph_setting}
use Rattle.tt_code.specs.Grammar.{IsStructured}
use Rattle.tt_code.specs.Settings.{Setting}
use Rattle.tt_font.specs.Reading.{FontData, GlyphData}
use Rattle.hintcheck_fonts.specs.SymbolicEnds.{AreEndsKnowing}
use Rattle.hintcheck_fonts.specs.SymbolicLaws.{IsFontSafe}
use Rattle.hintcheck_fonts.specs.CvtStarts.{GlyphPrograms, StartsFontProgram}
use Rattle.hintcheck_fonts.specs.declared.ends.Ends.{Ends}
use Rattle.tt_symbolic_state.specs.CvtMachine.{CvtNeverFaults}
use Rattle.hintcheck_programs.specs.FontPrograms.{cvt_subject, font_of, font_subject, glyph_subject, judgement_on}
use Rattle.hintcheck_programs.specs.Programs.{IsCutInto}
use Rattle.hintcheck_fonts.specs.SymbolicRefusals.{IsSymbolicRefusal}
use Rattle.hintcheck_programs.specs.Verdicts.{Judgement}
use Rattle.hintcheck_report.specs.declared.refused.Refused.{Refused}

-- The glyph's program is no longer than maxSizeOfInstructions, it can be cut, its instructions are
-- structured, and this is its setting.
pub record IsGlyphSetting (font : Font) (glyph : GlyphData) (s : Setting) : Type 0 where
  pub short : length glyph.program ≤ font.limits.program_size
  pub instructions : List Instruction
  pub is_cut : IsCut glyph.program instructions
  pub structured : IsStructured instructions
  pub setting : s ≡ glyph_setting font glyph.points glyph.contours instructions

-- These are the refused ones of the glyph programs from a number on, in their order, and the others
-- are these programs.
pub data AreOthersThan (font : Font) (programs : GlyphPrograms) : ℕ → List GlyphData → List Refused
    → Type 0 where
  no_glyph_left : (id : ℕ) → ((other : ℕ) → id ≤ other → programs other ≡ None)
      → AreOthersThan font programs id [] []
  accepted : (id : ℕ) (g : GlyphData) (gs : List GlyphData) (rs : List Refused) (s : Setting)
      → programs id ≡ Some s → IsGlyphSetting font g s
      → AreOthersThan font programs (id + 1) gs rs → AreOthersThan font programs id (g ∷ gs) rs
  refused : (id : ℕ) (g : GlyphData) (gs : List GlyphData) (r : Refused) (rs : List Refused)
      (functions : List (ℕ × ℕ)) → IsSymbolicRefusal (glyph_subject font functions id g) r
      → programs id ≡ None
      → AreOthersThan font programs (id + 1) gs rs
      → AreOthersThan font programs id (g ∷ gs) (r ∷ rs)

-- The verdict on a font. A refused font program or CVT program ends it; of a font whose CVT program
-- is refused no run of the font program faults, and it starts with the functions that are known
-- where that one ends. A refused glyph program doesn't end it: as long as
-- only the others are run, no run of the font program, of the CVT program, or of one of these
-- glyph programs faults.
pub data IsSymbolicVerdict (d : FontData) : Judgement → Type 0 where
  font_refused : (r : Refused) → IsSymbolicRefusal (font_subject d) r
      → IsSymbolicVerdict d (judgement_on d (r ∷ []))
  cvt_refused : (f : List Instruction) (ends : Ends) (r : Refused) → IsCutInto (font_subject d) f
      → CvtNeverFaults (font_setting (font_of d f [])) StartsFontProgram
      → AreEndsKnowing (font_setting (font_of d f [])) [] ends
      → IsSymbolicRefusal (cvt_subject d f ends.functions) r
      → IsSymbolicVerdict d (judgement_on d (r ∷ []))
  none_ended : (f p : List Instruction) (programs : GlyphPrograms) (rs : List Refused)
      → IsCutInto (font_subject d) f → IsCutInto (cvt_subject d f []) p
      → AreOthersThan (font_of d f p) programs 0 d.glyphs rs → IsFontSafe (font_of d f p) programs
      → IsSymbolicVerdict d (judgement_on d rs)

-- only the glyph program of number 0 may be run
abbrev pub only_program : Setting → GlyphPrograms
only_program s zero = Some s
only_program s (suc id) = None

-- The glyph's program has a setting, and in a font that has only this glyph no run of it faults,
-- nor one of the font program or of the CVT program.
pub record IsSafeAlone (font : Font) (glyph : GlyphData) : Type 0 where
  pub setting : Setting
  pub is_setting : IsGlyphSetting font glyph setting
  pub safe : IsFontSafe font (only_program setting)
