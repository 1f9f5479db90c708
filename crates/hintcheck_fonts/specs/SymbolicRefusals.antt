-- Why the verdict by symbolic states refuses a program. Only the search and the check refuse for a
-- reason that the program's bytes alone don't tell; where memory runs out, that is the answer. (Own.)
use Rattle.std.specs.Prelude.{ℕ, List}
use Rattle.tt_code.specs.declared.reason.Reason.TheVariants.{NeverEnds, ProgramTooLong}
use Rattle.tt_setting.specs.Refusals.{reason_of}
use Rattle.tt_setting.specs.Settings.{setting_of}
use Rattle.tt_setting.specs.declared.exhausted.Exhausted.TheVariants.{Memory}
use Rattle.tt_setting.specs.declared.failed.Failed.{Failed}
use Rattle.tt_setting.specs.declared.failed.Failed.TheVariants.{Only}
use Rattle.tt_setting.specs.declared.refusal.Refusal.{Refusal}
use Rattle.tt_setting.specs.declared.refusal.Refusal.TheVariants.{Refused, Exhausted}
use Rattle.tt_setting.specs.declared.setting.Setting.{Setting}
use Rattle.tt_setting.specs.declared.spot.Spot.{Spot}
use Rattle.tt_setting.specs.declared.spot.Spot.TheVariants.{Main}
use Rattle.tt_setting.specs.declared.name.Name.TheVariants as name
use Rattle.tt_family.specs.GoodFamilies.{IsShortEnough}
use Rattle.tt_font.specs.Reading.{GlyphData}
use Rattle.tt_symbolic_check.specs.Answers.{IsAnswerBySymbols}
use Rattle.hintcheck_fonts.specs.SymbolicEnds.{NeverComesToEnd}
use Rattle.hintcheck_programs.specs.ProgramVerdicts.{IsProgramOf, IsUncut}
use Rattle.hintcheck_programs.specs.Programs.{Subject}
use Rattle.hintcheck_report.specs.Places.{reported_at}
use Rattle.hintcheck_report.specs.declared.refused.Refused.{Refused as AnyRefused}

-- Why the program of this setting, which starts with these functions, isn't accepted: the search
-- gave this answer, or the check of what it found; or no run of a font program or a CVT program
-- comes to its end; or it is a glyph program longer than maxSizeOfInstructions; or memory ran out.
pub data IsSymbolicAnswer (s : Setting) (functions : List (ℕ × ℕ)) : Refusal → Type 0 where
  answered : (refusal : Refusal) → IsAnswerBySymbols s refusal
      → IsSymbolicAnswer s functions refusal
  never_ends : NeverComesToEnd (setting_of s) functions
      → IsSymbolicAnswer s functions (Refused Main 0 (Only NeverEnds))
  too_long : (IsShortEnough (setting_of s) (setting_of s).kind → ⊥)
      → IsSymbolicAnswer s functions (Refused Main s.limits.program_size (Only ProgramTooLong))
  out_of_memory : IsSymbolicAnswer s functions (Exhausted Memory)

-- The program is refused, and this is reported of it: it can't be cut or isn't structured, or it
-- isn't accepted for such a reason.
pub data IsSymbolicRefusal (x : Subject) : AnyRefused → Type 0 where
  uncut : (r : AnyRefused) → IsUncut x.name x.bytes r → IsSymbolicRefusal x r
  judged : (s : Setting) (at : Spot) (offset : ℕ) (failed : Failed) → IsProgramOf x s
      → IsSymbolicAnswer s x.functions (Refused at offset failed)
      → IsSymbolicRefusal x (reported_at x.name at offset (reason_of failed))

-- one of the programs that were checked one after the other isn't accepted for such a reason, or
-- the work ended without an answer
abbrev pub IsToldInTurn : Refusal → Type 0
IsToldInTurn (Refused at offset failed) =
    (s : Setting) × (functions : List (ℕ × ℕ))
    × IsSymbolicAnswer s functions (Refused at offset failed)
IsToldInTurn (Exhausted by) = Unit {0}

-- the only glyph of a font is refused, and this is reported of it
pub data IsRefusedAlone (glyph : GlyphData) : AnyRefused → Type 0 where
  uncut_alone : (r : AnyRefused) → IsUncut (name.Glyph 0) glyph.program r → IsRefusedAlone glyph r
  told_in_turn : (at : Spot) (offset : ℕ) (failed : Failed)
      → IsToldInTurn (Refused at offset failed)
      → IsRefusedAlone glyph (reported_at (name.Glyph 0) at offset (reason_of failed))
