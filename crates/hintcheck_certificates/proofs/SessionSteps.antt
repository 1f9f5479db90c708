-- The outcomes of a session's programs, one by one.
use Rattle.std.proofs.Common.{◌≡◌, ◌≢◌, ℕ, ◌+◌, List, [], ◌∷◌, length, Option, Some, None, Result, Ok, Err, refl, sym, ◌∙◌, ap, subst, arith, ◌-◌, ◌≤◌, ◌<◌, inl, inr}
use Rattle.std.specs.Prelude.{option_map, slice_get}
use Rattle.std.specs.Io.KnownBytes.{IsAtEnd}
use Rattle.std.proofs.lemmas.Option.{slice_get_within, slice_get-get_or}
use Rattle.tt_code.specs.Cut.{Instruction}
use Rattle.tt_family.specs.Contents.{Contents}
use Rattle.tt_cert.specs.Answers.{GivesHeader, IsMore, input_at}
use Rattle.tt_setting.specs.declared.cert_fault.CertFault.{CertFault}
use Rattle.tt_setting.specs.declared.cert_fault.CertFault.TheVariants as cert
use Rattle.tt_cert.specs.declared.form.Form.{Form}
use Rattle.tt_setting.specs.declared.name.Name.{Name}
use Rattle.tt_cert.specs.Readers.{Input}
use Rattle.tt_cert.specs.Reading.{header_at}
use Rattle.tt_font.specs.Reading.{FontData, GlyphData}
use Rattle.tt_stream.specs.Reads.{ConsumesBeginning}
use Rattle.hintcheck_report.specs.AnswerFaults.{fault_of_certificate}
use Rattle.hintcheck_certificates.specs.Certificates.{IsSectionOf, HasNoSection}
use Rattle.hintcheck_certificates.specs.CheckedFonts.{Finds, IsTold}
use Rattle.hintcheck_programs.specs.FontPrograms.{cvt_subject, font_of, font_subject, glyph_subject}
use Rattle.hintcheck_programs.specs.Programs.{Subject}
use Rattle.hintcheck_programs.proofs.ProgramSteps.{glyph_of}
use Rattle.hintcheck_certificates.specs.Representation.SectionJudges.{AnswersSection, IsOutcomeOfSection}
use Rattle.hintcheck_programs.specs.Representation.ProgramOrder.{IsNext, cvt_done, cvt_stops, font_done, font_stops, glyph_done, glyph_stops, next_program}
use Rattle.hintcheck_certificates.specs.Representation.SessionStages.{HasHeader, KeepsGood, read_of}
use Rattle.hintcheck_certificates.specs.Sessions.{AnswersAt, AnswersNext, IsFaultAt, IsHeaderFault, IsLast, IsNextFault, IsNothingLeft, IsOutcomeBySection, IsSoundAnswer, IsSoundOutcome, ReadsOn, Standing, all_read, already_over, another_number, at_header, cvt_ends, cvt_fails, cvt_passes, font_ends, font_fails, font_passes, glyph_fails, glyph_goes_on, glyph_passes, good_cvt, good_font, good_glyph, in_header, more_follows, no_header_read, none_is_left, standing_at, where_it_was, last_glyph, no_cvt, no_font, no_glyph}
use Rattle.hintcheck_programs.specs.Stages.{Stage, after_font, at_glyph, at_start, over}
use Rattle.hintcheck_report.specs.declared.answer_fault.AnswerFault.{AnswerFault}
use Rattle.hintcheck_report.specs.declared.answer_fault.AnswerFault.TheVariants as fault
use Rattle.hintcheck_programs.specs.declared.programs.Next.{Next}
use Rattle.hintcheck_certificates.specs.declared.section_check.SectionCheck.{SectionCheck}
use Rattle.hintcheck_certificates.specs.declared.sections.Progress.{Progress}
use Rattle.hintcheck_programs.specs.declared.report.Outcome.{Outcome}
use Rattle.tt_setting.specs.declared.exhausted.Exhausted.{Exhausted}
use Rattle.std.proofs.lemmas.Bool.{cases_lt}

-- no section of the next program is a fault there
pub no_next_section : (d : FontData) (form : Form) (s : Stage) (x : Subject) (i : Input) (place : ℕ) → next_program d s ≡ Some x → HasNoSection form i x.name place → IsFaultAt d form i s place
no_next_section d form at_start x i place next none =
    let same : x ≡ font_subject d = cc in
    no_font place (subst (λ (y : Subject). HasNoSection form i y.name place) same none)
no_next_section d form (after_font f functions) x i place next none =
    let same : x ≡ cvt_subject d f [] = cc in
    no_cvt f functions place (subst (λ (y : Subject). HasNoSection form i y.name place) same none)
no_next_section d form (at_glyph f p known id) x i place next none =
    let (g, there, same) = glyph_of (λ g. glyph_subject (font_of d f p) [] id g) (slice_get d.glyphs id) x next in
    no_glyph f p known id g place there (subst (λ (y : Subject). HasNoSection form i y.name place) (sym same) none)
no_next_section d form over x i place next none = absurd cc

-- the same as the code tells the name
pub no_section_next : (d : FontData) (form : Form) (s : Stage) (n : Next) (i : Input) (place : ℕ) → IsNext d s n → HasNoSection form i n.name place → IsFaultAt d form i s place
no_section_next d form s n i place (x, next, told) none =
    no_next_section d form s x i place next (subst (λ (called : Name). HasNoSection form i called place) told.name none)

-- where no program is next, none is left

none_there : {Y : Type 0} (f : GlyphData → Y) (glyphs : List GlyphData) (id : ℕ) → option_map f (slice_get glyphs id) ≡ None → id < length glyphs → ⊥
none_there f glyphs id none lt =
    let at = slice_get-get_or glyphs id (record { points = 0; contours = 0; program = [] }) lt in
    let e = ap (option_map f) at in cc

pub last_there : (d : FontData) (f p : List Instruction) (known : List (ℕ × ℕ)) (id : ℕ) → next_program d (at_glyph f p known id) ≡ None → id ≤ length d.glyphs → id ≡ length d.glyphs
last_there d f p known id none le = elim (cases_lt id (length d.glyphs)) [
  | inl lt ↦ absurd (none_there (λ g. glyph_subject (font_of d f p) [] id g) d.glyphs id none lt)
  | inr ge ↦ omega arith
]

pub is_last : (d : FontData) (s : Stage) → next_program d s ≡ None → KeepsGood d s → IsLast d s
is_last d at_start none kept = absurd cc
is_last d (after_font f functions) none kept = absurd cc
is_last d (at_glyph f p known id) none kept = last_glyph f p known id (last_there d f p known id none kept.1)
is_last d over none kept = none_is_left

-- the header

pub header_fault : {T : Type 0} (Is : T → Type 0) (d : FontData) (old new : Option (List ℕ)) (e : CertFault) → GivesHeader old new (Err e) (header_at (input_at 0 old))
    → IsTold old → Finds {T = T} (Err (fault_of_certificate e)) Is (IsHeaderFault d old)
header_fault Is d old new (cert.Form p) gives told = no_header_read p (gives told)
header_fault Is d old new cert.Read gives told = tt
header_fault Is d old new cert.Write gives told = tt
header_fault Is d old new (cert.OutOfMemory e) gives told = tt

pub other_number_read : (d : FontData) (old new : Option (List ℕ)) (form : Form) (sections : ℕ) → GivesHeader old new (Ok (form, sections)) (header_at (input_at 0 old))
    → sections ≢ length d.glyphs + 2 → IsTold old → IsHeaderFault d old 6
other_number_read d old new form sections gives differs told =
    let read = gives told in
    another_number form sections (input_at read.1.0 new) read.1.1 differs

-- The outcome of the next program, which the check of its section decides.

pub sound_of_section : (d : FontData) (j : SectionCheck) (s t : Stage) (o : Outcome) → IsOutcomeOfSection d j s o t → IsSoundOutcome d s o t
sound_of_section d j s t o (font_done f known ends) = good_font f known ends.known
sound_of_section d j s t o (font_stops r is) = font_ends r
sound_of_section d j s t o (cvt_done f p start known ends) = good_cvt f p start known ends.known
sound_of_section d j s t o (cvt_stops f start r is) = cvt_ends f start r
sound_of_section d j s t o (glyph_done f p known id g is there accepts) = good_glyph f p known id g there (record {
  instructions = is;
  cut = accepts.passes.cut;
  family = accepts.filled.0;
  good = accepts.filled.2;
})
sound_of_section d j s t o (glyph_stops f p known id g r there is) = glyph_goes_on f p known id r (slice_get_within d.glyphs id g there)

-- the section of the next program is there
abbrev pub HasNextSection : FontData → Stage → Form → Input → Input → Contents → Type 0
HasNextSection d s form i after family = (x : Subject) → next_program d s ≡ Some x → IsSectionOf form i x.name family after

pub next_section_read : (d : FontData) (s : Stage) (n : Next) (form : Form) (i after : Input) (family : Contents) → IsNext d s n → IsSectionOf form i n.name family after
    → HasNextSection d s form i after family
next_section_read d s n form i after family (y, next, told) section x is =
    let same : y ≡ x = cc in
    let S : Name → Type 0 = λ called. IsSectionOf form i called family after in
    subst S (told.name ∙ ap (λ (z : Subject). z.name) same) section

pub outcome_of_section : (d : FontData) (i after : Input) (j : SectionCheck) (s t : Stage) (o : Outcome) → HasNextSection d s j.form i after j.certificate.now
    → IsOutcomeOfSection d j s o t → IsOutcomeBySection d j.form i after s o t
outcome_of_section d i after j s t o section (font_done f known ends) = font_passes j.certificate.now f known (section (font_subject d) refl) ends.passes
outcome_of_section d i after j s t o section (font_stops r is) = font_fails j.certificate.now r (section (font_subject d) refl) is
outcome_of_section d i after j s t o section (cvt_done f p start known ends) = cvt_passes f p start known j.certificate.now (section (cvt_subject d f []) refl) ends.passes
outcome_of_section d i after j s t o section (cvt_stops f start r is) = cvt_fails f start j.certificate.now r (section (cvt_subject d f []) refl) is
outcome_of_section d i after j s t o section (glyph_done f p known id g is there accepts) =
    let subject = glyph_subject (font_of d f p) [] id g in
    glyph_passes f p known id g j.certificate.now is there (section subject (ap (option_map (λ h. glyph_subject (font_of d f p) [] id h)) there)) accepts.passes
outcome_of_section d i after j s t o section (glyph_stops f p known id g r there is) =
    let subject = glyph_subject (font_of d f p) [] id g in
    glyph_fails f p known id g j.certificate.now r there (section subject (ap (option_map (λ h. glyph_subject (font_of d f p) [] id h)) there)) is

-- the same of an answer

pub sound_answer : (d : FontData) (j : SectionCheck) (s t : Stage) (answer : Option Outcome) → KeepsGood d s → AnswersSection d j s answer t → IsSoundAnswer d s answer t
sound_answer d j s t (Some o) kept is = sound_of_section d j s t o is
sound_answer d j s t None kept is = (is_last d s is.0 kept, is.1)

pub answer_of_section : (d : FontData) (form : Form) (i after : Input) (family : Contents) (j : SectionCheck) (s t : Stage) (n : Next) (answer : Option Outcome) → j.form ≡ form
    → j.certificate.now ≡ family → IsNext d s n → IsSectionOf form i n.name family after → AnswersSection d j s answer t → AnswersAt d form s i answer t after
answer_of_section d form i after family j s t n (Some o) same_form same_family next section is =
    let F : Form → Type 0 = λ f. IsSectionOf f i n.name j.certificate.now after in
    let C : Contents → Type 0 = λ v. IsSectionOf form i n.name v after in
    let here : IsSectionOf j.form i n.name j.certificate.now after = subst F (sym same_form) (subst C (sym same_family) section) in
    let O : Form → Type 0 = λ f. IsOutcomeBySection d f i after s o t in
    subst O same_form (outcome_of_section d i after j s t o (next_section_read d s n j.form i after j.certificate.now next here) is)
answer_of_section d form i after family j s t n None same_form same_family (x, next, told) section is = absurd (let no : Some x ≡ None = sym next ∙ is.0 in cc)

-- the end of the certificate

pub nothing_follows : (d : FontData) (f p : List Instruction) (known : List (ℕ × ℕ)) (id place : ℕ) (left : Option (List ℕ)) → id ≡ length d.glyphs → IsTold left → IsAtEnd left
    → IsNothingLeft d (input_at place left) (at_glyph f p known id)
nothing_follows d f p known id place None last told at = absurd cc
nothing_follows d f p known id place (Some xs) last told at = all_read f p known id last at

follows : (d : FontData) (form : Form) (f p : List Instruction) (known : List (ℕ × ℕ)) (id place : ℕ) (left : Option (List ℕ)) → id ≡ length d.glyphs → IsTold left → IsMore left
    → IsFaultAt d form (input_at place left) (at_glyph f p known id) place
follows d form f p known id place None last told more = absurd cc
follows d form f p known id place (Some []) last told more = absurd (omega arith)
follows d form f p known id place (Some (x ∷ xs)) last told more = more_follows f p known id last (λ e. absurd cc)

pub fault_at_end : {T : Type 0} (Is : T → Type 0) (e : CertFault) (d : FontData) (form : Form) (f p : List Instruction) (known : List (ℕ × ℕ)) (id at : ℕ) (left : Option (List ℕ))
    → ((place : ℕ) → e ≡ cert.Form place → (place ≡ at) × IsMore left) → id ≡ length d.glyphs → IsTold left
    → Finds {T = T} (Err (fault_of_certificate e)) Is (IsFaultAt d form (input_at at left) (at_glyph f p known id))
fault_at_end Is (cert.Form place) d form f p known id at left named last told =
    let both = named place refl in
    let F : ℕ → Type 0 = λ n. IsFaultAt d form (input_at at left) (at_glyph f p known id) n in
    subst F (sym both.0) (follows d form f p known id at left last told both.1)
fault_at_end Is cert.Read d form f p known id at left named last told = tt
fault_at_end Is cert.Write d form f p known id at left named last told = tt
fault_at_end Is (cert.OutOfMemory error) d form f p known id at left named last told = tt

-- the same at a stage where no program is next

pub ends_there : (d : FontData) (s : Stage) (place : ℕ) (left : Option (List ℕ)) → next_program d s ≡ None → s ≢ over → KeepsGood d s → IsTold left → IsAtEnd left
    → IsNothingLeft d (input_at place left) s
ends_there d at_start place left none going kept told at = absurd cc
ends_there d (after_font f functions) place left none going kept told at = absurd cc
ends_there d (at_glyph f p known id) place left none going kept told at = nothing_follows d f p known id place left (last_there d f p known id none kept.1) told at
ends_there d over place left none going kept told at = absurd (going refl)

pub more_there : {T : Type 0} (Is : T → Type 0) (e : CertFault) (d : FontData) (form : Form) (s : Stage) (at : ℕ) (left : Option (List ℕ)) → next_program d s ≡ None → s ≢ over → KeepsGood d s
    → ((place : ℕ) → e ≡ cert.Form place → (place ≡ at) × IsMore left) → IsTold left → Finds {T = T} (Err (fault_of_certificate e)) Is (IsFaultAt d form (input_at at left) s)
more_there Is e d form at_start at left none going kept named told = absurd cc
more_there Is e d form (after_font f functions) at left none going kept named told = absurd cc
more_there Is e d form (at_glyph f p known id) at left none going kept named told =
    fault_at_end Is e d form f p known id at left named (last_there d f p known id none kept.1) told
more_there Is e d form over at left none going kept named told = absurd (going refl)

-- what a call comes to after the header, from before it

pub reads_on : (d : FontData) (stage : Stage) (known : Option Progress) (bytes : Option (List ℕ)) (p : Progress) → known ≡ Some p
    → ReadsOn (standing_at d stage (read_of known)) bytes p.form (input_at p.place bytes)
reads_on d stage None bytes p is = absurd cc
reads_on d stage (Some q) bytes p is =
    let same : q ≡ p = cc in
    let R : Progress → Type 0 = λ t. ReadsOn (standing_at d stage (Some (q.form, q.place))) bytes t.form (input_at t.place bytes) in
    subst R same (where_it_was q.form q.place refl)

pub reads_after_header : (d : FontData) (stage : Stage) (known : Option Progress) (old new : Option (List ℕ)) (p : Progress) → known ≡ None → p.place ≡ 10 → HasHeader d p.form old new
    → ReadsOn (standing_at d stage (read_of known)) old p.form (input_at p.place new)
reads_after_header d stage (Some q) old new p none at header = absurd cc
reads_after_header d stage None old new p none at header =
    let R : ℕ → Type 0 = λ n. ReadsOn (standing_at d stage None) old p.form (input_at n new) in
    subst R (sym at) (at_header p.form (input_at header.0 new) refl header.1)

pub no_header_next : (d : FontData) (stage : Stage) (known : Option Progress) (bytes : Option (List ℕ)) (place : ℕ) → known ≡ None → IsHeaderFault d bytes place
    → IsNextFault (standing_at d stage (read_of known)) bytes place
no_header_next d stage (Some q) bytes place none fault = absurd cc
no_header_next d stage None bytes place none fault = in_header place refl fault

pub finds_weaker : {T : Type 0} (r : Result T AnswerFault) (Is Is' : T → Type 0) (At At' : ℕ → Type 0) → Finds r Is At → ((x : T) → Is x → Is' x)
    → ((place : ℕ) → At place → At' place) → Finds r Is' At'
finds_weaker (Ok x) Is Is' At At' h f k = f x h
finds_weaker (Err (fault.Form place)) Is Is' At At' h f k = k place h
finds_weaker (Err fault.Read) Is Is' At At' h f k = tt
finds_weaker (Err (fault.Font e)) Is Is' At At' h f k = tt
finds_weaker (Err fault.Write) Is Is' At At' h f k = tt
finds_weaker (Err (fault.Print e)) Is Is' At At' h f k = tt
finds_weaker (Err (fault.Exhausted by)) Is Is' At At' h f k = tt

-- a source that tells its bytes still does where a beginning of them was read
pub still_told : (old new : Option (List ℕ)) → ConsumesBeginning old new → IsTold old → IsTold new
still_told None new read told = absurd cc
still_told (Some xs) None read told = absurd read.consumed
still_told (Some xs) (Some ys) read told = refl

-- what is kept stays good

good_on : (d : FontData) (s t : Stage) (o : Outcome) → IsSoundOutcome d s o t → KeepsGood d s → KeepsGood d t
good_on d s t o (good_font f functions good) kept = good
good_on d s t o (font_ends r) kept = tt
good_on d s t o (good_cvt f p functions known good) kept = ((functions, kept, good), omega arith)
good_on d s t o (cvt_ends f functions r) kept = tt
good_on d s t o (good_glyph f p known id g there good) kept = (kept.0, let lt = slice_get_within d.glyphs id g there in omega arith)
good_on d s t o (glyph_goes_on f p known id r lt) kept = (kept.0, omega arith)

pub stays_good : (d : FontData) (s t : Stage) (o : Option Outcome) → IsSoundAnswer d s o t → KeepsGood d s → KeepsGood d t
stays_good d s t (Some o) sound kept = good_on d s t o sound kept
stays_good d s t None sound kept = let K : Stage → Type 0 = λ x. KeepsGood d x in subst K (sym sound.1) tt

pub over_is_last : (d : FontData) (s : Stage) → s ≡ over → IsSoundAnswer d s None s
over_is_last d s is = let L : Stage → Type 0 = λ x. IsLast d x in (subst L (sym is) none_is_left, is)

pub over_answers : (s : Standing) (bytes : Option (List ℕ)) → s.stage ≡ over → (s.read ≡ None → s.stage ≡ at_start) → AnswersNext s bytes None s bytes
over_answers s bytes is starts = go s.read refl
  where
    go : (r : Option (Form × ℕ)) → s.read ≡ r → AnswersNext s bytes None s bytes
    go None none = absurd (let no : ◌≡◌ {A = Stage} over at_start = sym is ∙ starts none in cc)
    go (Some x) read =
        let L : Stage → Type 0 = λ t. IsNothingLeft s.font (input_at x.1 bytes) t in
        record {
          form = x.0;
          from = input_at x.1 bytes;
          reads_on = where_it_was x.0 x.1 read;
          place = x.1;
          read_is = read;
          answers = (subst L (sym is) already_over, is);
        }
