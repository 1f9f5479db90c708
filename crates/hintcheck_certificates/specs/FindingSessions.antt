-- What a session finds for the programs of a font, one by one.
use Rattle.std.specs.Prelude.{◌≡◌, ◌⊎◌, ℕ, ◌+◌, List, [], ◌++◌, Option, Some, None, length, slice_get}
use Rattle.tt_code.specs.Cut.{Instruction}
use Rattle.tt_setting.specs.declared.exhausted.Exhausted.TheVariants as exhausted
use Rattle.tt_cert.specs.declared.form.Form.TheVariants.{Four}
use Rattle.tt_setting.specs.declared.name.Name.TheVariants as name
use Rattle.tt_cert.specs.Sections.{section_of}
use Rattle.tt_cert.specs.Text.{header_text, section_text}
use Rattle.tt_find.specs.declared.finder.Found.{Found}
use Rattle.tt_font.specs.Reading.{FontData, GlyphData, Reads}
use Rattle.hintcheck_certificates.specs.CertificateTexts.{WritesBeginning}
use Rattle.hintcheck_programs.specs.FontPrograms.{RefusesNone, cvt_subject, font_of, font_subject, glyph_subject}
use Rattle.hintcheck_programs.specs.Programs.{IsRefusal}
use Rattle.hintcheck_certificates.specs.Sessions.{IsLast, Standing}
use Rattle.hintcheck_programs.specs.Stages.{Stage, accepted_as, after_font, at_glyph, at_start, over, refused_as}
use Rattle.hintcheck_report.specs.declared.answer_fault.AnswerFault.{AnswerFault}
use Rattle.hintcheck_report.specs.declared.answer_fault.AnswerFault.TheVariants as fault
use Rattle.hintcheck_report.specs.declared.refused.Refused.{Refused}
use Rattle.hintcheck_programs.specs.declared.report.Outcome.{Outcome}
use Rattle.hintcheck_programs.specs.FoundFamilies.{IsFoundFor, IsFoundToEnd}

-- The outcome of the next program, with what is found for it, and which one is next afterwards. The
-- functions that are known at the end of an accepted font program are kept for the CVT program, and
-- those that are known at the end of an accepted CVT program for the glyph programs. A refused font
-- program or CVT program is the last one.
pub data IsOutcomeByFinding (d : FontData) : Stage → Outcome → Option Found → Stage → Type 0 where
  font_found : (f : List Instruction) (functions : List (ℕ × ℕ)) (found : Found)
      → IsFoundToEnd (font_subject d) f found functions
      → IsOutcomeByFinding d at_start (accepted_as name.Font) (Some found) (after_font f functions)
  font_refused : (r : Refused) → IsRefusal (font_subject d) r
      → IsOutcomeByFinding d at_start (refused_as name.Font r) None over
  cvt_found : (f p : List Instruction) (functions known : List (ℕ × ℕ)) (found : Found)
      → IsFoundToEnd (cvt_subject d f functions) p found known
      → IsOutcomeByFinding d (after_font f functions) (accepted_as name.Cvt) (Some found)
      (at_glyph f p known 0)
  cvt_refused : (f : List Instruction) (functions : List (ℕ × ℕ)) (r : Refused)
      → IsRefusal (cvt_subject d f functions) r
      → IsOutcomeByFinding d (after_font f functions) (refused_as name.Cvt r) None over
  glyph_found : (f p : List Instruction) (known : List (ℕ × ℕ)) (id : ℕ) (g : GlyphData)
      (instructions : List Instruction) (found : Found)
      → slice_get d.glyphs id ≡ Some g
      → IsFoundFor (glyph_subject (font_of d f p) known id g) instructions found
      → IsOutcomeByFinding d (at_glyph f p known id) (accepted_as (name.Glyph id)) (Some found)
      (at_glyph f p known (id + 1))
  glyph_refused : (f p : List Instruction) (known : List (ℕ × ℕ)) (id : ℕ) (g : GlyphData)
      (r : Refused)
      → slice_get d.glyphs id ≡ Some g → IsRefusal (glyph_subject (font_of d f p) known id g) r
      → IsOutcomeByFinding d (at_glyph f p known id) (refused_as (name.Glyph id) r) None
      (at_glyph f p known (id + 1))

-- the same for an answer, which is none where no program is left
abbrev pub IsFoundAnswer : FontData → Stage → Option (Outcome × Option Found) → Stage → Type 0
IsFoundAnswer d stage (Some (o, found)) stage' = IsOutcomeByFinding d stage o found stage'
IsFoundAnswer d stage None stage' = IsLast d stage × (stage' ≡ over)

-- the fault where memory ran out
abbrev pub out_of_memory : AnswerFault
out_of_memory = fault.Exhausted exhausted.Memory

-- the only faults of a session that finds are that memory or a budget ran out
abbrev pub HasOnlyRunOut : Option AnswerFault → Type 0
HasOnlyRunOut None = Unit {0}
HasOnlyRunOut (Some (fault.Exhausted by)) = Unit {0}
HasOnlyRunOut (Some other) = ⊥

-- a session that was used for no other calls than those that find: no certificate was read
pub record IsForFinding (s : Standing) : Type 0 where
  pub unread : s.read ≡ None
  pub run_out : HasOnlyRunOut s.fault

-- The sections of the programs that are accepted one after the other, from the font program up to a
-- stage.
pub data AreFirstSections (d : FontData) : Stage → List ℕ → Type 0 where
  none_yet : AreFirstSections d at_start []
  one_program_more : (s t : Stage) (o : Outcome) (found : Found) (text : List ℕ)
      → AreFirstSections d s text → IsOutcomeByFinding d s o (Some found) t
      → AreFirstSections d t (text ++ section_text Four (section_of o.program found.certificate))

-- The text is as much of a font's certificate as was made: the header, and the sections of the
-- first programs.
pub record IsCertificateBegun (d : FontData) (text : List ℕ) : Type 0 where
  pub stage : Stage
  pub sections : List ℕ
  pub first : AreFirstSections d stage sections
  pub text_is : text ≡ header_text Four (length d.glyphs + 2) ++ sections

-- the verdict on the font refuses no program, and a beginning of such a text is appended
abbrev pub IsBegunFor : FontData → Option (List ℕ) → Option (List ℕ) → Type 0
IsBegunFor d old new = RefusesNone d × WritesBeginning old new (IsCertificateBegun d)

-- nothing is appended; or the verdict on the font in these bytes refuses no program, and a
-- beginning of its certificate is
abbrev pub BeginsCertificate : List ℕ → Option (List ℕ) → Option (List ℕ) → Type 0
BeginsCertificate bytes old new =
    (new ≡ old) ⊎ ((d : FontData) × Reads bytes d × IsBegunFor d old new)
