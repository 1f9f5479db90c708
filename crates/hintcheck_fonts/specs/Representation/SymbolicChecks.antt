-- What the judge by symbolic states says of a program. (Representation: no public clause cites it.)
use Rattle.std.specs.Prelude.{◌≡◌, ℕ, List, [], Option, Some}
use Rattle.tt_code.specs.Cut.{Instruction}
use Rattle.tt_code.specs.Fonts.{Font, cvt_setting, font_setting}
use Rattle.tt_code.specs.Settings.{CvtProgram, Setting}
use Rattle.tt_code.specs.declared.reason.Reason.TheVariants.{KeptEntry}
use Rattle.tt_family.specs.GoodFamilies.{IsShortEnough}
use Rattle.tt_font.specs.Reading.{FontData}
use Rattle.tt_setting.specs.declared.name.Name.{Name}
use Rattle.tt_setting.specs.declared.name.Name.TheVariants as name
use Rattle.hintcheck_fonts.specs.SymbolicEnds.{AreEndsKnowing, IsGlyphChecked, IsSafeKnowing, StartGlyphs}
use Rattle.hintcheck_fonts.specs.declared.ends.Ends.{Ends}
use Rattle.hintcheck_fonts.specs.declared.glyph_starts.GlyphStarts.{GlyphStarts}
use Rattle.hintcheck_programs.specs.ProgramVerdicts.{with_start}
use Rattle.hintcheck_programs.specs.Programs.{IsCutInto, Subject}
use Rattle.hintcheck_programs.specs.Representation.FontVerdicts.{ComesToEnd}
use Rattle.hintcheck_programs.specs.Representation.ProgramOrder.{IsAnswerBy}
use Rattle.hintcheck_programs.specs.Stages.{Stage}
use Rattle.hintcheck_fonts.specs.SymbolicRefusals.{IsSymbolicRefusal}
use Rattle.hintcheck_report.specs.declared.refused.Refused.{Refused}
use Rattle.hintcheck_programs.specs.declared.report.Outcome.{Outcome}
use Rattle.hintcheck_fonts.specs.declared.symbolic_check.SymbolicCheck.{SymbolicCheck}

-- no run of a program that starts with these functions faults, and this is known at its end
pub record IsEnded (s : Setting) (functions : List (ℕ × ℕ)) (ends : Ends) : Type 0 where
  pub safe : IsSafeKnowing s functions
  pub shown : AreEndsKnowing s functions ends

-- the glyph program is no longer than it may be, and was checked from these starts
pub record IsRunnable (s : Setting) (starts : GlyphStarts) : Type 0 where
  pub short : IsShortEnough s s.kind
  pub checked : IsGlyphChecked s starts

-- The program has these instructions. If it is a font program or a CVT program, the judge knows its
-- ends, and glyph programs start after those of a CVT program; if it is a glyph program, it was
-- checked from the judge's starts.
pub record IsCheckedBy (j : SymbolicCheck) (x : Subject) (functions : List (ℕ × ℕ))
    (is : List Instruction) : Type 0 where
  pub cut : IsCutInto x is
  pub ended : ComesToEnd (x.setting is).kind → IsEnded (x.setting is) functions j.ends
  pub begun : (x.setting is).kind ≡ CvtProgram → StartGlyphs j.ends j.starts
  pub runnable : (ComesToEnd (x.setting is).kind → ⊥) → IsRunnable (x.setting is) j.starts

-- The judge knows the program's ends, and these functions there.
pub record IsEndedBy (j : SymbolicCheck) (x : Subject) (functions : List (ℕ × ℕ))
    (is : List Instruction) (known : List (ℕ × ℕ)) : Type 0 where
  pub cut : IsCutInto x is
  pub ended : IsEnded (x.setting is) functions j.ends
  pub begun : (x.setting is).kind ≡ CvtProgram → StartGlyphs j.ends j.starts
  pub same : known ≡ j.ends.functions

-- what comes of the next program, and which one is next then
abbrev pub AnswersBySymbols : FontData → SymbolicCheck → Stage → Option Outcome → Stage → Type 0
AnswersBySymbols d j = IsAnswerBy d (λ x start is. IsCheckedBy j x start is)
    (λ x start is known. IsEndedBy j x start is known)
    (λ x start r. IsSymbolicRefusal (with_start x start) r)

-- the program of this name is a glyph's, and is refused since it may write an entry with which
-- glyph programs start
abbrev pub MayWriteKept : Name → Option Refused → Type 0
MayWriteKept (name.Glyph id) (Some r) = r.reason ≡ KeptEntry
MayWriteKept called refused = ⊥

-- The font program and the CVT program were checked, these are the ends of the CVT program, and
-- glyph programs start so after them.
pub record AreBegun (font : Font) (ends : Ends) (starts : GlyphStarts) : Type 0 where
  pub first : Ends
  pub font_ended : IsEnded (font_setting font) [] first
  pub cvt_ended : IsEnded (cvt_setting font) first.functions ends
  pub begun : StartGlyphs ends starts
