-- How far the verdict on a font's programs has come. (Representation: no public clause cites it.)
use Rattle.std.specs.Prelude.{ℕ, List, ◌≡◌, ◌+◌, ◌≤◌, [], ◌∷◌, ◌++◌, Option, Some, None, length}
use Rattle.tt_code.specs.Cut.{Instruction}
use Rattle.tt_code.specs.Settings.{Kind, FontProgram, CvtProgram, GlyphProgram}
use Rattle.tt_setting.specs.Entries.{Ascends}
use Rattle.tt_abs.specs.StateFlow.{FunctionsFit}
use Rattle.tt_font.specs.Reading.{FontData}
use Rattle.hintcheck_programs.specs.FontPrograms.{IsVerdict, judgement_on, cvt_subject, font_subject}
use Rattle.hintcheck_programs.specs.Programs.{EndsWith, Subject}
use Rattle.hintcheck_report.specs.declared.refused.Refused.{Refused}
use Rattle.tt_setting.specs.declared.name.Name.{Name}
use Rattle.hintcheck_programs.specs.Representation.ProgramOrder.{next_program}
use Rattle.hintcheck_programs.specs.Stages.{Stage, after_font, at_glyph, at_start, over}

-- the kind is that of a font program or a CVT program, which have to come to their ends
abbrev pub ComesToEnd : Kind → Type 0
ComesToEnd FontProgram = Unit {0}
ComesToEnd CvtProgram = Unit {0}
ComesToEnd (GlyphProgram points contours) = ⊥

-- these functions are known at the program's end, by ascending numbers and within the limits
pub record IsKnownAtEnd (x : Subject) (instructions : List Instruction)
    (functions : List (ℕ × ℕ)) : Type 0 where
  pub ends : EndsWith x instructions functions
  pub ascends : Ascends functions
  pub fits : FunctionsFit (x.setting instructions) functions

-- the verdict on the font is that these programs are refused
abbrev pub AreAllRefused : FontData → List Refused → Type 0
AreAllRefused d rs = IsVerdict d (judgement_on d rs)

-- The same for the least families, where no certificate is read.
abbrev pub KeepsKnown : FontData → Stage → Type 0
KeepsKnown d at_start = Unit {0}
KeepsKnown d (after_font f functions) = IsKnownAtEnd (font_subject d) f functions
KeepsKnown d (at_glyph f p known id) =
    ((functions : List (ℕ × ℕ)) × IsKnownAtEnd (font_subject d) f functions
    × IsKnownAtEnd (cvt_subject d f functions) p known) × (id ≤ length d.glyphs)
KeepsKnown d over = Unit {0}

-- the program of this name is next, and what is kept is known where least families end
abbrev pub IsAt : FontData → Name → Stage → Type 0
IsAt d called stage = (x : Subject) × (next_program d stage ≡ Some x) × (x.name ≡ called)
    × KeepsKnown d stage

-- the refused program, if there is one, is last in the list
abbrev pub ListsOutcome : List Refused → Option Refused → List Refused → Type 0
ListsOutcome old None new = new ≡ old
ListsOutcome old (Some r) new = new ≡ old ++ r ∷ []
