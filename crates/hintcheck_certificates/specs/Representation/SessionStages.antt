-- What a session keeps of a font's programs. (Representation: no public clause cites it.)
use Rattle.std.specs.Prelude.{◌≡◌, ℕ, ◌+◌, ◌≤◌, List, [], ◌++◌, Option, Some, None, length, Result, Ok, slice_get}
use Rattle.tt_code.specs.Cut.{Instruction}
use Rattle.tt_cert.specs.Answers.{input_at}
use Rattle.tt_cert.specs.Reading.{header_at}
use Rattle.tt_cert.specs.declared.form.Form.{Form}
use Rattle.tt_cert.specs.declared.form.Form.TheVariants.{Four}
use Rattle.tt_font.specs.Reading.{FontData, GlyphData}
use Rattle.hintcheck_certificates.specs.CertificateTexts.{IsEndedText, IsGlyphText, IsReadableListing}
use Rattle.hintcheck_certificates.specs.CheckedFonts.{Finds, IsTold}
use Rattle.hintcheck_programs.specs.GoodPrograms.{IsGoodAtEnd}
use Rattle.hintcheck_certificates.specs.FailedReads.{EndsInSection, HasRead}
use Rattle.hintcheck_certificates.specs.FindingSessions.{AreFirstSections}
use Rattle.hintcheck_programs.specs.FontPrograms.{cvt_subject, font_of, font_subject, glyph_subject}
use Rattle.hintcheck_programs.specs.Representation.ProgramOrder.{stage_of}
use Rattle.hintcheck_certificates.specs.Representation.ReadProgress.{input_from}
use Rattle.hintcheck_certificates.specs.Sessions.{AnswersAt, IsFaultAt, Standing, standing_at}
use Rattle.hintcheck_programs.specs.Stages.{Stage, after_font, at_glyph, at_start, over}
use Rattle.hintcheck_programs.specs.declared.programs.Programs.{Programs}
use Rattle.hintcheck_report.specs.declared.answer_fault.AnswerFault.{AnswerFault}
use Rattle.hintcheck_certificates.specs.declared.sections.Progress.{Progress}
use Rattle.hintcheck_programs.specs.declared.report.Outcome.{Outcome}
use Rattle.hintcheck_programs.specs.Representation.FontVerdicts.{KeepsKnown}

-- the form and the place, once the header was read
abbrev pub read_of : Option Progress → Option (Form × ℕ)
read_of None = None
read_of (Some p) = Some (p.form, p.place)

-- a session without a fault over these programs
abbrev pub standing_of : Programs (ℕ × ℕ) → Option Progress → Standing
standing_of p read = standing_at p.font.now (stage_of p) (read_of read)

-- What is kept of accepted programs is what is known where their good families end, and the next
-- glyph's number is at most the count of glyphs.
abbrev pub KeepsGood : FontData → Stage → Type 0
KeepsGood d at_start = Unit {0}
KeepsGood d (after_font f functions) = IsGoodAtEnd (font_subject d) f functions
KeepsGood d (at_glyph f p known id) =
    ((functions : List (ℕ × ℕ)) × IsGoodAtEnd (font_subject d) f functions
    × IsGoodAtEnd (cvt_subject d f functions) p known) × (id ≤ length d.glyphs)
KeepsGood d over = Unit {0}

-- what a session that has read no certificate keeps
abbrev pub KeepsFound : Option (Form × ℕ) → FontData → Stage → Type 0
KeepsFound None d stage = KeepsKnown d stage
KeepsFound (Some read) d stage = Unit {0}

-- The header was read, of this form and with as many sections as the font has programs.
abbrev pub HasHeader : FontData → Form → Option (List ℕ) → Option (List ℕ) → Type 0
HasHeader d form old new =
    (place : ℕ) × (header_at (input_at 0 old) ≡ Ok ((form, length d.glyphs + 2), input_at place new))

-- The sections of the programs from a stage on.
pub data AreSectionsFrom (d : FontData) : Stage → List ℕ → Type 0 where
  all_there : (f p : List Instruction) (known : List (ℕ × ℕ)) (id : ℕ) → id ≡ length d.glyphs
      → AreSectionsFrom d (at_glyph f p known id) []
  font_first : (f : List Instruction) (functions : List (ℕ × ℕ)) (text rest : List ℕ)
      → IsEndedText IsReadableListing Four (font_subject d) f text functions
      → AreSectionsFrom d (after_font f functions) rest → AreSectionsFrom d at_start (text ++ rest)
  cvt_next : (f p : List Instruction) (functions known : List (ℕ × ℕ)) (text rest : List ℕ)
      → IsEndedText IsReadableListing Four (cvt_subject d f functions) p text known
      → AreSectionsFrom d (at_glyph f p known 0) rest
      → AreSectionsFrom d (after_font f functions) (text ++ rest)
  glyph_next : (f p : List Instruction) (known : List (ℕ × ℕ)) (id : ℕ) (g : GlyphData)
      (text rest : List ℕ) → slice_get d.glyphs id ≡ Some g
      → IsGlyphText IsReadableListing Four (glyph_subject (font_of d f p) known id g) text
      → AreSectionsFrom d (at_glyph f p known (id + 1)) rest
      → AreSectionsFrom d (at_glyph f p known id) (text ++ rest)

-- those of some programs, from the font program on
abbrev pub AreSomeSections : FontData → List ℕ → Type 0
AreSomeSections d text = (stage : Stage) × AreFirstSections d stage text

-- The answer is what the next section comes to, with the stage afterwards: `from` and `old` are the
-- place and the bytes before the section, `to` and `new` those after it.
abbrev pub AnswersBySection : FontData → Stage → Progress → Option (List ℕ) → Progress
    → Option (List ℕ) → Option Outcome → Stage → Type 0
AnswersBySection d stage from old to new answer stage' =
    IsTold new × AnswersAt d from.form stage (input_from from old) answer stage' (input_from to new)

-- the place of a fault of form there
abbrev pub IsFaultInSection : FontData → Stage → Progress → Option (List ℕ) → ℕ → Type 0
IsFaultInSection d stage from old place = IsFaultAt d from.form (input_from from old) stage place

-- So it is where the source tells its bytes.
abbrev pub StepsBySection : FontData → Stage → Progress → Option (List ℕ) → Progress
    → Option (List ℕ) → Stage → Result (Option Outcome) AnswerFault → Type 0
StepsBySection d stage from old to new stage' result = IsTold old → Finds result
    (λ answer. AnswersBySection d stage from old to new answer stage')
    (IsFaultInSection d stage from old)

-- Where the fault is a failed read, what was read is at fault nowhere but at its end, if at all.
abbrev pub StopsInSection : FontData → Stage → Progress → Option (List ℕ) → Option (List ℕ)
    → AnswerFault → Type 0
StopsInSection d stage from old new fault =
    HasRead old new (λ front. EndsInSection d from.form stage (input_from from (Some front))) fault
