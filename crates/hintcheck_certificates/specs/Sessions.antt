-- A session takes the programs of a font one by one: where it is, and what its calls return.
use Rattle.std.specs.Prelude.{◌≡◌, ◌≢◌, ℕ, ◌+◌, ◌<◌, List, [], Option, Some, None, Ok, Err, length, slice_get}
use Rattle.tt_code.specs.Cut.{Instruction}
use Rattle.tt_family.specs.Contents.{Contents}
use Rattle.tt_cert.specs.Answers.{input_at}
use Rattle.tt_cert.specs.declared.form.Form.{Form}
use Rattle.tt_setting.specs.declared.name.Name.TheVariants as name
use Rattle.tt_cert.specs.Readers.{Input}
use Rattle.tt_cert.specs.Reading.{header_at}
use Rattle.tt_font.specs.Reading.{FontData, GlyphData}
use Rattle.hintcheck_certificates.specs.Certificates.{HasNoSection, IsCheckRefusal, IsSectionOf, Passes, PassesToEnd, after_header}
use Rattle.hintcheck_programs.specs.GoodPrograms.{IsGoodAtEnd}
use Rattle.hintcheck_programs.specs.FontPrograms.{cvt_subject, font_of, font_subject, glyph_subject}
use Rattle.hintcheck_programs.specs.Programs.{HasGoodFamily}
use Rattle.hintcheck_report.specs.declared.answer_fault.AnswerFault.{AnswerFault}
use Rattle.hintcheck_report.specs.declared.refused.Refused.{Refused}
use Rattle.hintcheck_programs.specs.declared.report.Outcome.{Outcome}
use Rattle.hintcheck_programs.specs.Stages.{Stage, accepted_as, refused_as, at_start, after_font, at_glyph, over}

-- What a session keeps from one call to the next, as contracts see it: its font, which program is
-- next, how far a certificate was read, and a fault.
pub record Standing : Type 0 where
  pub font : FontData
  pub stage : Stage
  -- the certificate's form, and how many of its bytes were read, once its header was
  pub read : Option (Form × ℕ)
  -- the fault of an earlier call, which each later call returns
  pub fault : Option AnswerFault

-- a session without a fault
abbrev pub standing_at : FontData → Stage → Option (Form × ℕ) → Standing
standing_at d stage read = record { font = d; stage = stage; read = read; fault = None }

-- a session before its first call
abbrev pub new_standing : FontData → Standing
new_standing d = standing_at d at_start None

-- a session that was used for no other calls than those that check by a certificate: the first of
-- them reads the header, so that without a header and without a fault the session is at the start
abbrev pub IsForChecking : Standing → Type 0
IsForChecking s = s.fault ≡ None → s.read ≡ None → s.stage ≡ at_start

-- The outcome of the next program by its section, and which one is next afterwards. The functions
-- that are known at the end of an accepted font program are kept for the CVT program, and those
-- that are known at the end of an accepted CVT program for the glyph programs. A refused font
-- program or CVT program is the last one.
pub data IsOutcomeBySection (d : FontData) (form : Form) (i after : Input) : Stage → Outcome → Stage
    → Type 0 where
  font_passes : (family : Contents) (f : List Instruction) (functions : List (ℕ × ℕ))
      → IsSectionOf form i name.Font family after
      → PassesToEnd form (font_subject d) f family functions
      → IsOutcomeBySection d form i after at_start (accepted_as name.Font) (after_font f functions)
  font_fails : (family : Contents) (r : Refused) → IsSectionOf form i name.Font family after
      → IsCheckRefusal form (font_subject d) family r
      → IsOutcomeBySection d form i after at_start (refused_as name.Font r) over
  cvt_passes : (f p : List Instruction) (functions known : List (ℕ × ℕ)) (family : Contents)
      → IsSectionOf form i name.Cvt family after
      → PassesToEnd form (cvt_subject d f functions) p family known
      → IsOutcomeBySection d form i after (after_font f functions) (accepted_as name.Cvt)
      (at_glyph f p known 0)
  cvt_fails : (f : List Instruction) (functions : List (ℕ × ℕ)) (family : Contents) (r : Refused)
      → IsSectionOf form i name.Cvt family after
      → IsCheckRefusal form (cvt_subject d f functions) family r
      → IsOutcomeBySection d form i after (after_font f functions) (refused_as name.Cvt r) over
  glyph_passes : (f p : List Instruction) (known : List (ℕ × ℕ)) (id : ℕ) (g : GlyphData)
      (family : Contents) (instructions : List Instruction)
      → slice_get d.glyphs id ≡ Some g → IsSectionOf form i (name.Glyph id) family after
      → Passes form (glyph_subject (font_of d f p) known id g) instructions family
      → IsOutcomeBySection d form i after (at_glyph f p known id) (accepted_as (name.Glyph id))
      (at_glyph f p known (id + 1))
  glyph_fails : (f p : List Instruction) (known : List (ℕ × ℕ)) (id : ℕ) (g : GlyphData)
      (family : Contents) (r : Refused)
      → slice_get d.glyphs id ≡ Some g → IsSectionOf form i (name.Glyph id) family after
      → IsCheckRefusal form (glyph_subject (font_of d f p) known id g) family r
      → IsOutcomeBySection d form i after (at_glyph f p known id) (refused_as (name.Glyph id) r)
      (at_glyph f p known (id + 1))

-- There is no further program: none was left, or all sections were read and nothing follows.
pub data IsNothingLeft (d : FontData) (i : Input) : Stage → Type 0 where
  already_over : IsNothingLeft d i over
  all_read : (f p : List Instruction) (known : List (ℕ × ℕ)) (id : ℕ) → id ≡ length d.glyphs
      → i.bytes ≡ [] → IsNothingLeft d i (at_glyph f p known id)

-- The place at which the bytes are no certificate for the font: there is no section of the next
-- program, or something follows the last section.
pub data IsFaultAt (d : FontData) (form : Form) (i : Input) : Stage → ℕ → Type 0 where
  no_font : (place : ℕ) → HasNoSection form i name.Font place → IsFaultAt d form i at_start place
  no_cvt : (f : List Instruction) (functions : List (ℕ × ℕ)) (place : ℕ)
      → HasNoSection form i name.Cvt place → IsFaultAt d form i (after_font f functions) place
  no_glyph : (f p : List Instruction) (known : List (ℕ × ℕ)) (id : ℕ) (g : GlyphData) (place : ℕ)
      → slice_get d.glyphs id ≡ Some g
      → HasNoSection form i (name.Glyph id) place → IsFaultAt d form i (at_glyph f p known id) place
  more_follows : (f p : List Instruction) (known : List (ℕ × ℕ)) (id : ℕ) → id ≡ length d.glyphs
      → i.bytes ≢ [] → IsFaultAt d form i (at_glyph f p known id) i.place

-- what a call comes to at a stage: an outcome, or that there is no further program
abbrev pub AnswersAt : FontData → Form → Stage → Input → Option Outcome → Stage → Input → Type 0
AnswersAt d form stage i (Some o) stage' after = IsOutcomeBySection d form i after stage o stage'
AnswersAt d form stage i None stage' after = IsNothingLeft d i stage × (stage' ≡ over)

-- Where a session reads on: where the call before ended, or after the header, which it reads first.
pub data ReadsOn (s : Standing) (bytes : Option (List ℕ)) : Form → Input → Type 0 where
  where_it_was : (form : Form) (place : ℕ) → s.read ≡ Some (form, place)
      → ReadsOn s bytes form (input_at place bytes)
  at_header : (form : Form) (i : Input) → s.read ≡ None
      → header_at (input_at 0 bytes) ≡ Ok ((form, length s.font.glyphs + 2), i)
      → ReadsOn s bytes form (after_header i.bytes)

-- The answer of a call of a session to which a source tells its bytes, and where the session is
-- then.
pub record AnswersNext (s : Standing) (bytes : Option (List ℕ)) (answer : Option Outcome)
    (t : Standing) (left : Option (List ℕ)) : Type 0 where
  pub form : Form
  pub from : Input
  pub reads_on : ReadsOn s bytes form from
  pub place : ℕ
  pub read_is : t.read ≡ Some (form, place)
  pub answers : AnswersAt s.font form s.stage from answer t.stage (input_at place left)

-- The place at which the bytes have no header of the font's certificate: that of the header's
-- fault; or of the number of sections, if that is wrong.
pub data IsHeaderFault (d : FontData) (bytes : Option (List ℕ)) : ℕ → Type 0 where
  no_header_read : (place : ℕ) → header_at (input_at 0 bytes) ≡ Err place
      → IsHeaderFault d bytes place
  another_number : (form : Form) (sections : ℕ) (i : Input)
      → header_at (input_at 0 bytes) ≡ Ok ((form, sections), i)
      → sections ≢ length d.glyphs + 2 → IsHeaderFault d bytes 6

-- The place of a fault of form that a call of a session returns: in the header, where no call has
-- read that yet; or at the next section, or after the last one.
pub data IsNextFault (s : Standing) (bytes : Option (List ℕ)) : ℕ → Type 0 where
  in_header : (place : ℕ) → s.read ≡ None → IsHeaderFault s.font bytes place
      → IsNextFault s bytes place
  at_section : (form : Form) (from : Input) (place : ℕ) → ReadsOn s bytes form from
      → IsFaultAt s.font form from s.stage place → IsNextFault s bytes place

-- The outcome is that of the next program, whatever the source tells: an accepted one has a good
-- family, and the functions that are known where it ends are kept.
pub data IsSoundOutcome (d : FontData) : Stage → Outcome → Stage → Type 0 where
  good_font : (f : List Instruction) (functions : List (ℕ × ℕ))
      → IsGoodAtEnd (font_subject d) f functions
      → IsSoundOutcome d at_start (accepted_as name.Font) (after_font f functions)
  font_ends : (r : Refused) → IsSoundOutcome d at_start (refused_as name.Font r) over
  good_cvt : (f p : List Instruction) (functions known : List (ℕ × ℕ))
      → IsGoodAtEnd (cvt_subject d f functions) p known
      → IsSoundOutcome d (after_font f functions) (accepted_as name.Cvt) (at_glyph f p known 0)
  cvt_ends : (f : List Instruction) (functions : List (ℕ × ℕ)) (r : Refused)
      → IsSoundOutcome d (after_font f functions) (refused_as name.Cvt r) over
  good_glyph : (f p : List Instruction) (known : List (ℕ × ℕ)) (id : ℕ) (g : GlyphData)
      → slice_get d.glyphs id ≡ Some g
      → HasGoodFamily (glyph_subject (font_of d f p) known id g)
      → IsSoundOutcome d (at_glyph f p known id) (accepted_as (name.Glyph id))
      (at_glyph f p known (id + 1))
  glyph_goes_on : (f p : List Instruction) (known : List (ℕ × ℕ)) (id : ℕ) (r : Refused)
      → id < length d.glyphs
      → IsSoundOutcome d (at_glyph f p known id) (refused_as (name.Glyph id) r)
      (at_glyph f p known (id + 1))

-- No program is left: the session is over, or past all glyph programs.
pub data IsLast (d : FontData) : Stage → Type 0 where
  none_is_left : IsLast d over
  last_glyph : (f p : List Instruction) (known : List (ℕ × ℕ)) (id : ℕ) → id ≡ length d.glyphs
      → IsLast d (at_glyph f p known id)

-- the answer is a sound outcome; or it is none, and no program is left
abbrev pub IsSoundAnswer : FontData → Stage → Option Outcome → Stage → Type 0
IsSoundAnswer d stage (Some o) stage' = IsSoundOutcome d stage o stage'
IsSoundAnswer d stage None stage' = IsLast d stage × (stage' ≡ over)
