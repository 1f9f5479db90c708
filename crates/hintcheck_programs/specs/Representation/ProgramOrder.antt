-- The programs of a font in their order, and what comes of each where a judge decides on it.
-- (Representation: no public clause cites it.)
use Rattle.std.specs.Prelude.{◌≡◌, ℕ, ◌+◌, ◌<◌, ◌^◌, List, [], ◌∷◌, Option, Some, None, Result, Ok, Err, option_map, length, slice_get}
use Rattle.tt_setting.specs.declared.exhausted.Exhausted.{Exhausted}
use Rattle.tt_code.specs.Cut.{Instruction}
use Rattle.tt_setting.specs.declared.refusal.Refusal.{Refusal}
use Rattle.tt_setting.specs.declared.refusal.Refusal.TheVariants as fault
use Rattle.tt_setting.specs.declared.setting.Kind.{Kind}
use Rattle.tt_setting.specs.Refusals.{reason_of}
use Rattle.tt_setting.specs.Settings.{kind_of, setting_of}
use Rattle.tt_setting.specs.declared.setting.Setting.{Setting}
use Rattle.tt_setting.specs.declared.name.Name.{Name}
use Rattle.tt_setting.specs.declared.name.Name.TheVariants as name
use Rattle.tt_font.specs.Reading.{FontData, GlyphData}
use Rattle.hintcheck_programs.specs.FontPrograms.{cvt_subject, font_of, font_subject, glyph_subject}
use Rattle.hintcheck_report.specs.Places.{reported_at}
use Rattle.hintcheck_programs.specs.Programs.{Subject}
use Rattle.hintcheck_programs.specs.Stages.{StageOf, accepted_as, after_font, at_glyph, at_start, over, refused_as}
use Rattle.hintcheck_programs.specs.declared.programs.Before.{Before}
use Rattle.hintcheck_programs.specs.declared.programs.Before.TheVariants as before
use Rattle.hintcheck_programs.specs.declared.programs.Ended.{Ended}
use Rattle.hintcheck_programs.specs.declared.programs.Next.{Next}
use Rattle.hintcheck_programs.specs.declared.programs.Programs.{Programs}
use Rattle.hintcheck_report.specs.declared.refused.Refused.{Refused}
use Rattle.hintcheck_programs.specs.declared.report.Outcome.{Outcome}

-- the program that is next at a stage, without the functions with which it starts
abbrev pub next_program : {K : Type 0} → FontData → StageOf K → Option Subject
next_program d at_start = Some (font_subject d)
next_program d (after_font f known) = Some (cvt_subject d f [])
next_program d (at_glyph f p known id) =
    option_map (λ g. glyph_subject (font_of d f p) [] id g) (slice_get d.glyphs id)
next_program d over = None

-- what it starts with
abbrev pub start_at : {K : Type 0} → StageOf K → List K
start_at at_start = []
start_at (after_font f known) = known
start_at (at_glyph f p known id) = known
start_at over = []

-- which program is next, after which one comes the glyph of this number
abbrev pub stage_in : {K : Type 0} → Before K → ℕ → StageOf K
stage_in before.Nothing id = at_start
stage_in (before.Font fpgm) id = after_font fpgm.program fpgm.known.items
stage_in (before.Both f prep) id = at_glyph f prep.program prep.known.items id
stage_in before.Over id = over

abbrev pub stage_of : {K : Type 0} → Programs K → StageOf K
stage_of p = stage_in p.before p.glyph

-- the stage after a program: what is known at the end of an accepted font program or CVT program
-- is kept, and where there is nothing to keep, none is next
abbrev pub stage_after : {K : Type 0} → StageOf K → Option (Ended K) → StageOf K
stage_after at_start (Some e) = after_font e.program e.known.items
stage_after at_start None = over
stage_after (after_font f known) (Some e) = at_glyph f e.program e.known.items 0
stage_after (after_font f known) None = over
stage_after (at_glyph f p known id) e = at_glyph f p known (id + 1)
stage_after over e = over

-- a glyph program is next, if the font has one of that number
abbrev pub IsGlyphNext : {K : Type 0} → StageOf K → Type 0
IsGlyphNext (at_glyph f p known id) = Unit {0}
IsGlyphNext stage = ⊥

-- a program like that of this name is next: for a glyph's, any glyph's
abbrev pub IsOfKindNext : {K : Type 0} → Name → StageOf K → Type 0
IsOfKindNext name.Font at_start = Unit {0}
IsOfKindNext name.Cvt (after_font f known) = Unit {0}
IsOfKindNext (name.Glyph called) (at_glyph f p known id) = Unit {0}
IsOfKindNext called stage = ⊥

-- the stage at which the glyph program of this name is next, where one is next
abbrev pub skipped_to : {K : Type 0} → Name → StageOf K → StageOf K
skipped_to (name.Glyph called) (at_glyph f p known id) = at_glyph f p known called
skipped_to called stage = stage

-- where a program is left, this holds of what it starts with
abbrev pub CanGoOn : {K : Type 0} → (List K → Type 0) → StageOf K → Type 0
CanGoOn CanStart at_start = CanStart []
CanGoOn CanStart (after_font f known) = CanStart known
CanGoOn CanStart (at_glyph f p known id) = CanStart known
CanGoOn CanStart over = Unit {0}

-- the code's name, bytes and kind of the program that is next
pub record IsTold (x : Subject) (n : Next) : Type 0 where
  pub name : n.name ≡ x.name
  pub bytes : x.bytes ≡ n.bytes.now
  pub kind : (is : List Instruction) → (x.setting is).kind ≡ kind_of n.kind
  pub few : length n.bytes.now < 2 ^ 31

abbrev pub IsNext : {K : Type 0} → FontData → StageOf K → Next → Type 0
IsNext d stage n = (x : Subject) × (next_program d stage ≡ Some x) × IsTold x n

-- the setting is that of the next program with these instructions, if it is of this kind
abbrev pub IsSettingOf : {K : Type 0} → FontData → StageOf K → Kind → List Instruction → Setting
    → Type 0
IsSettingOf d stage kind is s = (x : Subject) → next_program d stage ≡ Some x
    → (x.setting is).kind ≡ kind_of kind → x.setting is ≡ setting_of s

-- the answer is the outcome of a program of this name that the fault refuses; or what ended the work
-- without one
abbrev pub TellsOutcome : Name → Refusal → Result Outcome Exhausted → Type 0
TellsOutcome called (fault.Refused spot offset failed) answer =
    answer ≡ Ok (refused_as called (reported_at called spot offset (reason_of failed)))
TellsOutcome called (fault.Exhausted by) answer = answer ≡ Err by

-- an accepted program: what is known at its end, where a next one starts with that
abbrev pub IsAcceptedTo : {K : Type 0} → (List Instruction → Type 0)
    → (List Instruction → List K → Type 0) → StageOf K → Option (Ended K) → Type 0
IsAcceptedTo Accepts Ends at_start (Some e) = Ends e.program e.known.items
IsAcceptedTo Accepts Ends (after_font f known) (Some e) = Ends e.program e.known.items
IsAcceptedTo Accepts Ends (at_glyph f p known id) None = (is : List Instruction) × Accepts is
IsAcceptedTo Accepts Ends stage e = ⊥

-- What comes of the next program, and which one is next then, as a judge decides: it accepts a
-- program that starts with a list, it says what is known at the end of one, and it refuses one.
pub data IsOutcomeBy {K : Type 0} (d : FontData)
    (Accepts : Subject → List K → List Instruction → Type 0)
    (Ends : Subject → List K → List Instruction → List K → Type 0)
    (Refuses : Subject → List K → Refused → Type 0) : StageOf K → Outcome → StageOf K → Type 0 where
  font_done : (f : List Instruction) (known : List K) → Ends (font_subject d) [] f known
      → IsOutcomeBy d Accepts Ends Refuses at_start (accepted_as name.Font) (after_font f known)
  font_stops : (r : Refused) → Refuses (font_subject d) [] r
      → IsOutcomeBy d Accepts Ends Refuses at_start (refused_as name.Font r) over
  cvt_done : (f p : List Instruction) (start known : List K)
      → Ends (cvt_subject d f []) start p known
      → IsOutcomeBy d Accepts Ends Refuses (after_font f start) (accepted_as name.Cvt)
      (at_glyph f p known 0)
  cvt_stops : (f : List Instruction) (start : List K) (r : Refused)
      → Refuses (cvt_subject d f []) start r
      → IsOutcomeBy d Accepts Ends Refuses (after_font f start) (refused_as name.Cvt r) over
  glyph_done : (f p : List Instruction) (known : List K) (id : ℕ) (g : GlyphData)
      (is : List Instruction) → slice_get d.glyphs id ≡ Some g
      → Accepts (glyph_subject (font_of d f p) [] id g) known is
      → IsOutcomeBy d Accepts Ends Refuses (at_glyph f p known id) (accepted_as (name.Glyph id))
      (at_glyph f p known (id + 1))
  glyph_stops : (f p : List Instruction) (known : List K) (id : ℕ) (g : GlyphData) (r : Refused)
      → slice_get d.glyphs id ≡ Some g
      → Refuses (glyph_subject (font_of d f p) [] id g) known r
      → IsOutcomeBy d Accepts Ends Refuses (at_glyph f p known id) (refused_as (name.Glyph id) r)
      (at_glyph f p known (id + 1))

-- the same for an answer, which is none where no program is left
abbrev pub IsAnswerBy : {K : Type 0} → FontData → (Subject → List K → List Instruction → Type 0)
    → (Subject → List K → List Instruction → List K → Type 0)
    → (Subject → List K → Refused → Type 0) → StageOf K → Option Outcome → StageOf K → Type 0
IsAnswerBy d Accepts Ends Refuses stage (Some o) stage' =
    IsOutcomeBy d Accepts Ends Refuses stage o stage'
IsAnswerBy d Accepts Ends Refuses stage None stage' =
    (next_program d stage ≡ None) × (stage' ≡ over)

-- These are the refused ones of a program alone: none, and it is accepted; or this one.
abbrev pub IsJudgedBy : (List Instruction → Type 0) → (Refused → Type 0) → List Refused → Type 0
IsJudgedBy Accepts Refuses [] = (is : List Instruction) × Accepts is
IsJudgedBy Accepts Refuses (r ∷ []) = Refuses r
IsJudgedBy Accepts Refuses (r ∷ q ∷ rs) = ⊥
