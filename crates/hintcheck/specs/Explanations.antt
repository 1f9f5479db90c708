-- One program of a font as it is explained: it is accepted, or it is refused, or one before it is.
use Rattle.std.specs.Prelude.{◌≡◌, ◌≢◌, ℕ, List, Some, slice_get}
use Rattle.tt_code.specs.Cut.{Instruction}
use Rattle.tt_setting.specs.declared.name.Name.{Name}
use Rattle.tt_setting.specs.declared.name.Name.TheVariants as name
use Rattle.tt_font.specs.Reading.{FontData, GlyphData, Reads}
use Rattle.tt_setting.specs.Refusals.{reason_of}
use Rattle.tt_setting.specs.declared.refusal.Refusal.{Refusal}
use Rattle.tt_setting.specs.declared.refusal.Refusal.TheVariants as fault
use Rattle.hintcheck_explain.specs.declared.asked.Explained.{Explained}
use Rattle.hintcheck_explain.specs.declared.asked.Explained.TheVariants as explained
use Rattle.hintcheck_programs.specs.FontPrograms.{cvt_subject, font_of, font_subject, glyph_subject}
use Rattle.hintcheck.specs.Listing.{Calls}
use Rattle.hintcheck_programs.specs.Programs.{EndsWith, HasLeastFamily, IsRefusal, Subject}
use Rattle.hintcheck_report.specs.Places.{reported_at}
use Rattle.hintcheck_report.specs.declared.refused.Refused.{Refused}

-- The font's program of this name is accepted: it has its least family. It starts with the
-- functions that are known where the least families of those before it end.
pub data IsAcceptedIn (d : FontData) : Name → Type 0 where
  font_accepted : HasLeastFamily (font_subject d) → IsAcceptedIn d name.Font
  cvt_accepted : (f : List Instruction) (functions : List (ℕ × ℕ))
      → EndsWith (font_subject d) f functions
      → HasLeastFamily (cvt_subject d f functions) → IsAcceptedIn d name.Cvt
  glyph_accepted : (f p : List Instruction) (functions known : List (ℕ × ℕ)) (id : ℕ)
      (g : GlyphData)
      → EndsWith (font_subject d) f functions → EndsWith (cvt_subject d f functions) p known
      → slice_get d.glyphs id ≡ Some g
      → HasLeastFamily (glyph_subject (font_of d f p) known id g)
      → IsAcceptedIn d (name.Glyph id)

-- The font's program of this name is refused so, or one before it is, so that it isn't checked.
pub data IsRefusedIn (d : FontData) : Name → Refused → Type 0 where
  font_refused : (called : Name) (r : Refused) → IsRefusal (font_subject d) r
      → IsRefusedIn d called r
  cvt_refused : (called : Name) (f : List Instruction) (functions : List (ℕ × ℕ)) (r : Refused)
      → called ≢ name.Font
      → EndsWith (font_subject d) f functions → IsRefusal (cvt_subject d f functions) r
      → IsRefusedIn d called r
  glyph_refused : (f p : List Instruction) (functions known : List (ℕ × ℕ)) (id : ℕ)
      (g : GlyphData) (r : Refused)
      → EndsWith (font_subject d) f functions → EndsWith (cvt_subject d f functions) p known
      → slice_get d.glyphs id ≡ Some g
      → IsRefusal (glyph_subject (font_of d f p) known id g) r
      → IsRefusedIn d (name.Glyph id) r

-- what is answered of the font's program of this name
abbrev pub TellsProgram : FontData → Name → Explained → Type 0
TellsProgram d called explained.Accepted = IsAcceptedIn d called
TellsProgram d called (explained.Refused r) = IsRefusedIn d called r

-- The bytes hold a font, and the word is the name of a program of it that is accepted.
pub record HoldAcceptedProgram (bytes word : List ℕ) : Type 0 where
  pub font : FontData
  pub reads : Reads bytes font
  pub name : Name
  pub text : Calls bytes word name
  pub accepted : IsAcceptedIn font name

-- The bytes hold a font, and the word is the name of a program of it that is refused so, or before
-- which one is.
pub record HoldRefusal (bytes word : List ℕ) (r : Refused) : Type 0 where
  pub font : FontData
  pub reads : Reads bytes font
  pub name : Name
  pub text : Calls bytes word name
  pub refused : IsRefusedIn font name r

-- the same, however it is refused
abbrev pub HoldRefusedProgram : List ℕ → List ℕ → Type 0
HoldRefusedProgram bytes word = (r : Refused) × HoldRefusal bytes word r

-- the bytes hold a font, and the word is the name of a program of it, of which this is answered
abbrev pub HoldExplained : List ℕ → List ℕ → Explained → Type 0
HoldExplained bytes word explained.Accepted = HoldAcceptedProgram bytes word
HoldExplained bytes word (explained.Refused r) = HoldRefusal bytes word r

-- the exit status of a program that was explained
abbrev pub status_of_explained : Explained → ℕ
status_of_explained explained.Accepted = 0
status_of_explained (explained.Refused r) = 1

-- whether the program is accepted: it has its least family, or it is refused so
abbrev pub IsAnswered : Subject → Explained → Type 0
IsAnswered x explained.Accepted = HasLeastFamily x
IsAnswered x (explained.Refused r) = IsRefusal x r

-- the fault refuses the program of this name, of which this is reported
abbrev pub IsReportOf : Name → Refusal → Refused → Type 0
IsReportOf called (fault.Refused spot offset failed) r =
    r ≡ reported_at called spot offset (reason_of failed)
IsReportOf called (fault.Exhausted by) r = ⊥
