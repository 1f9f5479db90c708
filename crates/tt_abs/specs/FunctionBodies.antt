-- Which bodies functions have. (Apple TrueType Reference Manual, "Defining and using functions and
-- instructions", FDEF and ENDF.)
use Rattle.std.specs.Prelude.{◌≡◌, ℕ, ◌+◌, List, Some}
use Rattle.std.specs.List.{AllByRecursion}
use Rattle.tt_code.specs.Cut.{IsInstruction}
use Rattle.tt_code.specs.Grammar.{IsStructured}
use Rattle.tt_code.specs.Settings.{Setting, Kind, FontProgram, CvtProgram, GlyphProgram, CVT_BODIES}
use Rattle.tt_code.specs.Structure.{after_fdef}
use Rattle.tt_setting.specs.Entries.{listed}

-- the name of the body of a function of the font program or of the CVT program: it begins after an
-- FDEF, which has its ENDF
pub data IsFunctionBody (s : Setting) : ℕ → Type 0 where
  of_font_program : (at to : ℕ) → after_fdef s.font at ≡ Some to → IsFunctionBody s (at + 1)
  of_cvt_program : (at to : ℕ) → after_fdef s.prep at ≡ Some to
      → IsFunctionBody s (CVT_BODIES + (at + 1))

-- each listed function has such a body
abbrev pub AreFunctionBodies : Setting → List (ℕ × ℕ) → Type 0
AreFunctionBodies s functions =
    (n body : ℕ) → listed functions n ≡ Some body → IsFunctionBody s body

-- where the font program runs, all three programs are that one; where the CVT program runs, it is
-- `prep`
abbrev pub RunsAsItsKind : Setting → Kind → Type 0
RunsAsItsKind s FontProgram = (s.font ≡ s.main) × (s.prep ≡ s.main)
RunsAsItsKind s CvtProgram = s.prep ≡ s.main
RunsAsItsKind s (GlyphProgram points contours) = Unit {0}

-- the programs are those of one font, whose font program consists of instructions and is structured
pub record AreProgramsOfFont (s : Setting) : Type 0 where
  pub main : RunsAsItsKind s s.kind
  pub each : AllByRecursion IsInstruction s.font
  pub structured : IsStructured s.font
