-- What is told of a program that is explained, and of the faults.
use Rattle.std.proofs.Common.{◌≡◌, ◌∙◌, ℕ, IsErrAnd, List, [], Some, Result, Ok, Err, arith, inl, inr, sym, ap, subst}
use Rattle.std.specs.Prelude.{slice_get}
use Rattle.tt_code.specs.Cut.{Instruction}
use Rattle.tt_font.specs.Reading.{FontData, GlyphData, Reads}
use Rattle.tt_setting.specs.declared.name.Name.{Name}
use Rattle.tt_setting.specs.declared.name.Name.TheVariants as name
use Rattle.hintcheck_explain.specs.Faults.{IsAnsweredFor, TellsFailure as TellsExplained}
use Rattle.hintcheck_report.specs.declared.answer_fault.AnswerFault.{AnswerFault}
use Rattle.tt_setting.specs.declared.exhausted.Exhausted.TheVariants.{Memory, Budget as Points}
use Rattle.hintcheck_report.specs.declared.answer_fault.AnswerFault.TheVariants as answer
use Rattle.tt_stream.specs.declared.text.PrintFailed.TheVariants as failed
use Rattle.hintcheck.specs.Commands.{TellsFailure, fault_of_answer}
use Rattle.hintcheck.specs.Representation.Answers.{IsExplained}
use Rattle.hintcheck.specs.Explanations.{IsAnswered, IsReportOf, TellsProgram, cvt_accepted, cvt_refused, font_accepted, font_refused, glyph_accepted, glyph_refused, HoldExplained, status_of_explained}
use Rattle.hintcheck_programs.specs.FontPrograms.{cvt_subject, font_of, font_subject, glyph_subject}
use Rattle.tt_setting.specs.Refusals.{reason_of}
use Rattle.tt_setting.specs.declared.refusal.Refusal.{Refusal}
use Rattle.tt_setting.specs.declared.refusal.Refusal.TheVariants as fault
use Rattle.tt_setting.specs.declared.setting.Setting.{Setting as AnySetting}
use Rattle.tt_setting.specs.Settings.{setting_of}
use Rattle.tt_family.specs.Contents.{family_of}
use Rattle.hintcheck_explain.specs.declared.asked.Explained.{Explained}
use Rattle.hintcheck_explain.specs.declared.asked.Explained.TheVariants as explained
use Rattle.hintcheck_programs.specs.ProgramVerdicts.{IfRefused, IsSubjectOf, with_start}
use Rattle.hintcheck_report.specs.Places.{reported_at}
use Rattle.hintcheck_report.specs.declared.refused.Refused.{Refused}
use Rattle.hintcheck_programs.specs.Programs.{EndsWith, IsRefusal, Subject}
use Rattle.hintcheck_programs.specs.Representation.Judges.{IsRefusedFor}
use Rattle.hintcheck_programs.specs.Representation.ProgramOrder.{IsNext, next_program, start_at}
use Rattle.hintcheck_programs.specs.Representation.FontVerdicts.{KeepsKnown}
use Rattle.hintcheck_programs.specs.Stages.{Stage, after_font, at_glyph, at_start, over}
use Rattle.hintcheck_programs.specs.declared.programs.Next.{Next}
use Rattle.hintcheck_programs.proofs.FontEnds.{least_of}
use Rattle.hintcheck_programs.proofs.ProgramSteps.{glyph_of}
use Rattle.hintcheck_programs.proofs.ProgramVerdictLemmas.{HasFlow, accepted_found, found_refusal}
use Rattle.hintcheck.specs.Listing.{Calls}
use Rattle.hintcheck.specs.MeansSafe.{HoldAcceptedBy, HoldExplainedBy, HoldUnacceptedBy, IsRequestOf}
use Rattle.hintcheck_fonts.specs.declared.request.Request.{Request}
use Rattle.hintcheck_fonts.specs.declared.request.Request.TheVariants as request
use Rattle.hintcheck_words.specs.declared.words.Profile.{Profile}
use Rattle.hintcheck_words.specs.declared.words.Profile.TheVariants.{Both, Strict, Symbolic}
use Rattle.hintcheck.specs.declared.commands.faults.CommandFault.{CommandFault}

-- a failed write of an explanation
pub failed_text : (S : Type 0) {T : Type 0} (e : AnswerFault) (r : Result T CommandFault) (old new : ℕ) → TellsExplained {T = S} (Err e) old new → IsErrAnd r (λ told. told ≡ fault_of_answer e) → TellsFailure r old new
failed_text S e (Ok x) old new tells is = absurd is
failed_text S (answer.Print failed.Write) (Err told) old new tells is = rw is tells
failed_text S (answer.Print failed.Format) (Err told) old new tells is = rw is tells
failed_text S (answer.Exhausted Memory) (Err told) old new tells is = rw is tells
failed_text S (answer.Exhausted Points) (Err told) old new tells is = rw is tells
failed_text S (answer.Font font) (Err told) old new tells is = absurd tells
failed_text S (answer.Form place) (Err told) old new tells is = absurd tells
failed_text S answer.Read (Err told) old new tells is = absurd tells
failed_text S answer.Write (Err told) old new tells is = absurd tells

-- what was explained of a program, whatever it was searched for by
pub answered : (x : Subject) (s : AnySetting) (called : Name) (e : Explained) → IsSubjectOf x s → x.name ≡ called → HasFlow (setting_of s) s.start.now → IsAnsweredFor s called e → IsAnswered x e
answered x s called explained.Accepted subject same h (found, least) =
    least_of x s.main.now (family_of found.certificate)
    (accepted_found x s.main.now (setting_of s) s.start.now found.updates found.certificate subject.cut subject.setting subject.functions h least)
answered x s called (explained.Refused r) subject same h why =
    let refusal = found_refusal x s.main.now (setting_of s) s.start.now (fault.Refused why.spot why.offset why.failed) subject.cut subject.setting subject.functions h why.justified why.none_good in
    subst (IsRefusal x) (sym (why.reported ∙ ap (λ (n : Name). reported_at n why.spot why.offset (reason_of why.failed)) (sym same))) refusal

-- a program that can't be cut is refused
pub uncut_answered : (x : Subject) (called : Name) (f : Refusal) (r : Refused) → x.name ≡ called → IsReportOf called f r → IfRefused x.name f (IsRefusedFor x) → IsAnswered x (explained.Refused r)
uncut_answered x called (fault.Refused spot offset test) r same reported refused =
    subst (IsRefusal x) (sym (reported ∙ ap (λ (n : Name). reported_at n spot offset (reason_of test)) (sym same))) refused.refusal
uncut_answered x called (fault.Exhausted by) r same reported refused = absurd reported

-- the next program has the name that is told of it
pub next_name : (d : FontData) (s : Stage) (x : Subject) (n : Next) → next_program d s ≡ Some x → IsNext d s n → x.name ≡ n.name
next_name d s x n next (y, is_next, told) =
    let same : y ≡ x = cc in
    sym (told.name ∙ ap (λ (z : Subject). z.name) same)

-- what is answered of a program that was explained
pub font_told : (d : FontData) (e : Explained) → IsAnswered (font_subject d) e → TellsProgram d name.Font e
font_told d explained.Accepted judged = font_accepted judged
font_told d (explained.Refused r) judged = font_refused name.Font r judged

pub cvt_told : (d : FontData) (f : List Instruction) (functions : List (ℕ × ℕ)) (e : Explained) → EndsWith (font_subject d) f functions → IsAnswered (cvt_subject d f functions) e → TellsProgram d name.Cvt e
cvt_told d f functions explained.Accepted ends judged = cvt_accepted f functions ends judged
cvt_told d f functions (explained.Refused r) ends judged = cvt_refused name.Cvt f functions r (λ same. cc) ends judged

pub glyph_told : (d : FontData) (f p : List Instruction) (functions known : List (ℕ × ℕ)) (id : ℕ) (g : GlyphData) (e : Explained)
    → EndsWith (font_subject d) f functions → EndsWith (cvt_subject d f functions) p known → slice_get d.glyphs id ≡ Some g
    → IsAnswered (glyph_subject (font_of d f p) known id g) e → TellsProgram d (name.Glyph id) e
glyph_told d f p functions known id g explained.Accepted ends cvt_ends there judged = glyph_accepted f p functions known id g ends cvt_ends there judged
glyph_told d f p functions known id g (explained.Refused r) ends cvt_ends there judged = glyph_refused f p functions known id g r ends cvt_ends there judged

-- the same of the program that is next
pub next_told : (d : FontData) (called : Name) (s : Stage) (x : Subject) (e : Explained) → next_program d s ≡ Some x → x.name ≡ called → KeepsKnown d s
    → IsAnswered (with_start x (start_at s)) e → TellsProgram d called e
next_told d called at_start x e next name kept judged =
    let same : x ≡ font_subject d = cc in
    let J : Subject → Type 0 = λ y. IsAnswered (with_start y []) e in
    let T : Name → Type 0 = λ n. TellsProgram d n e in
    subst T (sym (ap (λ (y : Subject). y.name) same) ∙ name) (font_told d e (subst J same judged))
next_told d called (after_font f functions) x e next name kept judged =
    let same : x ≡ cvt_subject d f [] = cc in
    let J : Subject → Type 0 = λ y. IsAnswered (with_start y functions) e in
    let T : Name → Type 0 = λ n. TellsProgram d n e in
    subst T (sym (ap (λ (y : Subject). y.name) same) ∙ name) (cvt_told d f functions e kept.ends (subst J same judged))
next_told d called (at_glyph f p known id) x e next name ((functions, font, cvt), le) judged =
    let (g, there, same) = glyph_of (λ g. glyph_subject (font_of d f p) [] id g) (slice_get d.glyphs id) x next in
    let J : Subject → Type 0 = λ y. IsAnswered (with_start y known) e in
    let T : Name → Type 0 = λ n. TellsProgram d n e in
    subst T (ap (λ (y : Subject). y.name) same ∙ name) (glyph_told d f p functions known id g e font.ends cvt.ends there (subst J (sym same) judged))
next_told d called over x e next name kept judged = absurd cc

-- the same of the program that a word names
pub word_told : (bytes word : List ℕ) (d : FontData) (called : Name) (e : Explained) → Reads bytes d → Calls bytes word called → TellsProgram d called e → HoldExplained bytes word e
word_told bytes word d called explained.Accepted reads text tells = record { font = d; reads = reads; name = called; text = text; accepted = tells }
word_told bytes word d called (explained.Refused r) reads text tells = record { font = d; reads = reads; name = called; text = text; refused = tells }

-- what is answered of an accepted program, or of one that isn't, by the profile of a request
accepted_by : (profile : Profile) (by : Request) (bytes word : List ℕ) → IsRequestOf profile by → HoldExplainedBy by bytes word explained.Accepted → HoldAcceptedBy profile bytes word
accepted_by (Strict most) request.Strict bytes word asked holds = holds
accepted_by (Strict most) (request.Symbolic steps) bytes word asked holds = absurd asked
accepted_by (Symbolic most) request.Strict bytes word asked holds = absurd asked
accepted_by (Symbolic most) (request.Symbolic steps) bytes word asked holds = holds
accepted_by (Both most) request.Strict bytes word asked holds = inl holds
accepted_by (Both most) (request.Symbolic steps) bytes word asked holds = inr holds

unaccepted_by : (profile : Profile) (by : Request) (bytes word : List ℕ) (r : Refused) → IsRequestOf profile by → HoldExplainedBy by bytes word (explained.Refused r) → HoldUnacceptedBy profile bytes word
unaccepted_by (Strict most) request.Strict bytes word r asked holds = (r, holds)
unaccepted_by (Strict most) (request.Symbolic steps) bytes word r asked holds = absurd asked
unaccepted_by (Symbolic most) request.Strict bytes word r asked holds = absurd asked
unaccepted_by (Symbolic most) (request.Symbolic steps) bytes word r asked holds = (r, holds)
unaccepted_by (Both most) request.Strict bytes word r asked holds = inl (r, holds)
unaccepted_by (Both most) (request.Symbolic steps) bytes word r asked holds = inr (r, holds)

-- the exit status of what is answered by a profile
pub explained_by : (profile : Profile) (by : Request) (bytes word : List ℕ) (e : Explained) (status : ℕ) → IsRequestOf profile by → HoldExplainedBy by bytes word e → status ≡ status_of_explained e → IsExplained profile word status
explained_by profile by bytes word explained.Accepted status asked holds is = record { few = omega (arith, is); accepted = λ zero. (bytes, accepted_by profile by bytes word asked holds); refused = λ one. absurd (omega (arith, is, one)) }
explained_by profile by bytes word (explained.Refused r) status asked holds is = record { few = omega (arith, is); accepted = λ zero. absurd (omega (arith, is, zero)); refused = λ one. (bytes, unaccepted_by profile by bytes word r asked holds) }
