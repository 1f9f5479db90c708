-- The programs of a font and where their runs start: the font program with no function defined, the
-- CVT program with the functions that the font program has at its end, each glyph program with
-- those that the CVT program has at its end. (OpenType specification, `fpgm`, `prep` and `glyf`;
-- Apple TrueType Reference Manual, "Instructing fonts".)
use Rattle.std.specs.Prelude.{◌≡◌, ℕ, List, [], true}
use Rattle.tt_code.specs.Cut.{Instruction}
use Rattle.tt_code.specs.Settings.{Setting, FontProgram, CvtProgram, GlyphProgram}
use Rattle.tt_code.specs.States.{Machine}
use Rattle.tt_code.specs.Runs.{Runs, IsFresh, is_at_end}
use Rattle.tt_code.specs.declared.limits.Limits.{Limits}

-- what all programs of a font share
pub record Font : Type 0 where
  pub limits : Limits
  pub cvt : ℕ
  pub font_program : List Instruction
  pub cvt_program : List Instruction

-- the setting of the font program
abbrev pub font_setting : Font → Setting
font_setting f = record {
  limits = f.limits;
  cvt = f.cvt;
  kind = FontProgram;
  main = f.font_program;
  font = f.font_program;
  prep = f.font_program;
}

-- the setting of the CVT program
abbrev pub cvt_setting : Font → Setting
cvt_setting f = record {
  limits = f.limits;
  cvt = f.cvt;
  kind = CvtProgram;
  main = f.cvt_program;
  font = f.font_program;
  prep = f.cvt_program;
}

-- the setting of a glyph's program, where the glyph has this many points and contours
abbrev pub glyph_setting : Font → ℕ → ℕ → List Instruction → Setting
glyph_setting f points contours program = record {
  limits = f.limits;
  cvt = f.cvt;
  kind = GlyphProgram points contours;
  main = program;
  font = f.font_program;
  prep = f.cvt_program;
}

-- a run from one of these machines reaches the end, and leaves these functions
pub record Leaves
    (s : Setting) (Starts : Machine → Type 0) (functions : List (ℕ × ℕ)) : Type 0 where
  pub first : Machine
  pub last : Machine
  pub starts : Starts first
  pub runs : Runs s first last
  pub ends : is_at_end s last ≡ true
  pub left : last.functions ≡ functions

-- the font program starts with no function
abbrev pub StartsFontProgram : Font → Machine → Type 0
StartsFontProgram f m = IsFresh m × (m.functions ≡ [])

-- the CVT program starts with what the font program leaves
abbrev pub StartsCvtProgram : Font → Machine → Type 0
StartsCvtProgram f m = IsFresh m × Leaves (font_setting f) (StartsFontProgram f) m.functions

-- a glyph program starts with what the CVT program leaves
abbrev pub StartsGlyphProgram : Font → Machine → Type 0
StartsGlyphProgram f m = IsFresh m × Leaves (cvt_setting f) (StartsCvtProgram f) m.functions
