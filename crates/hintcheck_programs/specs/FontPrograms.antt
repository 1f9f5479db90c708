-- The programs of a font, what it means that they are safe, and what a verdict tells of them.
use Rattle.std.specs.Prelude.{◌≡◌, ℕ, ◌+◌, ◌≤◌, List, [], ◌∷◌, Some, length, slice_get}
use Rattle.tt_code.specs.Cut.{Instruction, IsCut}
use Rattle.tt_code.specs.Grammar.{IsStructured}
use Rattle.tt_code.specs.Runs.{NeverFaults}
use Rattle.tt_code.specs.Fonts.{Font, font_setting, cvt_setting, glyph_setting, StartsFontProgram, StartsCvtProgram, StartsGlyphProgram}
use Rattle.tt_font.specs.Maxp.{limits_of}
use Rattle.tt_font.specs.Reading.{FontData, GlyphData, Reads, font_around}
pub use Rattle.tt_font.specs.Ranges.{AreFewBytes, IsFontInRange}
use Rattle.hintcheck_programs.specs.Programs.{Subject, EndsWith, HasLeastFamily, IsRefusal}
use Rattle.hintcheck_programs.specs.Verdicts.{Judgement}
use Rattle.tt_setting.specs.declared.name.Name.TheVariants as name
use Rattle.hintcheck_report.specs.declared.refused.Refused.{Refused}

-- a font whose font program and CVT program have these instructions
abbrev pub font_of : FontData → List Instruction → List Instruction → Font
font_of d f p = record { limits = d.limits; cvt = d.cvt_count; font_program = f; cvt_program = p }

-- a font with only one glyph and without a font program or a CVT program, by the fields of a `maxp`
-- table and the number of control values
abbrev pub one_glyph_font : List ℕ → ℕ → GlyphData → FontData
one_glyph_font maxp cvt glyph = font_around (limits_of maxp) cvt glyph

-- The glyph's program is no longer than maxSizeOfInstructions, it can be cut, its instructions are
-- structured, and for every number of steps and every value that is measured, stored or computed,
-- no run of the hint machine reaches a fault.
pub record IsSafeGlyph (font : Font) (glyph : GlyphData) : Type 0 where
  pub short : length glyph.program ≤ font.limits.program_size
  pub instructions : List Instruction
  pub is_cut : IsCut glyph.program instructions
  pub structured : IsStructured instructions
  pub never_faults : NeverFaults (glyph_setting font glyph.points glyph.contours instructions)
      (StartsGlyphProgram font)

-- The same for each glyph program of a font and, except for the length, for its font program and
-- its CVT program.
pub record IsSafeFont (d : FontData) : Type 0 where
  pub font_program : List Instruction
  pub font_cut : IsCut d.fpgm font_program
  pub font_structured : IsStructured font_program
  pub cvt_program : List Instruction
  pub cvt_cut : IsCut d.prep cvt_program
  pub cvt_structured : IsStructured cvt_program
  pub font_never_faults : NeverFaults (font_setting (font_of d font_program cvt_program))
      (StartsFontProgram (font_of d font_program cvt_program))
  pub cvt_never_faults : NeverFaults (cvt_setting (font_of d font_program cvt_program))
      (StartsCvtProgram (font_of d font_program cvt_program))
  pub glyphs : (id : ℕ) (g : GlyphData) → slice_get d.glyphs id ≡ Some g
      → IsSafeGlyph (font_of d font_program cvt_program) g

-- The programs as they are checked: the font program starts with no function, the CVT program with
-- those that are known where the font program ends, each glyph program with those that are known
-- where the CVT program ends.

abbrev pub font_subject : FontData → Subject
font_subject d =
    record { name = name.Font; bytes = d.fpgm; setting = λ f. font_setting (font_of d f []); functions = [] }

abbrev pub cvt_subject : FontData → List Instruction → List (ℕ × ℕ) → Subject
cvt_subject d f functions =
    record { name = name.Cvt; bytes = d.prep; setting = λ p. cvt_setting (font_of d f p); functions = functions }

abbrev pub glyph_subject : Font → List (ℕ × ℕ) → ℕ → GlyphData → Subject
glyph_subject font functions id g =
    record { name = name.Glyph id; bytes = g.program; setting = glyph_setting font g.points g.contours; functions = functions }

-- These are the refused ones of the glyph programs from a number on, in their order: each other one
-- has its least family.
pub data AreRefused (font : Font) (functions : List (ℕ × ℕ)) : ℕ → List GlyphData → List Refused
    → Type 0 where
  no_glyph_left : (id : ℕ) → AreRefused font functions id [] []
  accepted : (id : ℕ) (g : GlyphData) (gs : List GlyphData) (rs : List Refused)
      → HasLeastFamily (glyph_subject font functions id g)
      → AreRefused font functions (id + 1) gs rs → AreRefused font functions id (g ∷ gs) rs
  refused : (id : ℕ) (g : GlyphData) (gs : List GlyphData) (r : Refused) (rs : List Refused)
      → IsRefusal (glyph_subject font functions id g) r
      → AreRefused font functions (id + 1) gs rs → AreRefused font functions id (g ∷ gs) (r ∷ rs)

-- a verdict on all programs of a font, of which these are refused
abbrev pub judgement_on : FontData → List Refused → Judgement
judgement_on d rs = record { programs = length d.glyphs + 2; refused = rs }

-- The verdict on a font: a refused font program or CVT program ends it, a refused glyph program
-- doesn't.
pub data IsVerdict (d : FontData) : Judgement → Type 0 where
  font_refused : (r : Refused) → IsRefusal (font_subject d) r
      → IsVerdict d (judgement_on d (r ∷ []))
  cvt_refused : (f : List Instruction) (functions : List (ℕ × ℕ)) (r : Refused)
      → EndsWith (font_subject d) f functions
      → IsRefusal (cvt_subject d f functions) r → IsVerdict d (judgement_on d (r ∷ []))
  none_ended : (f p : List Instruction) (functions known : List (ℕ × ℕ)) (rs : List Refused)
      → EndsWith (font_subject d) f functions
      → EndsWith (cvt_subject d f functions) p known
      → AreRefused (font_of d f p) known 0 d.glyphs rs → IsVerdict d (judgement_on d rs)

-- the verdict on the font refuses no program
abbrev pub RefusesNone : FontData → Type 0
RefusesNone d = (v : Judgement) × IsVerdict d v × (v.refused ≡ [])

-- the same with the font in these bytes
abbrev pub RefusesNoneIn : List ℕ → Type 0
RefusesNoneIn bytes = (d : FontData) × Reads bytes d × RefusesNone d
