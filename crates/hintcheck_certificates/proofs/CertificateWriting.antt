-- The text of a font's certificate, as it is written section by section while a session finds the programs.
use Rattle.std.proofs.Common.{◌≡◌, true, false, ℕ, ◌+◌, ◌^◌, ◌<◌, arith, List, [], ◌++◌, length, drop, Option, Some, None, refl, sym, ◌∙◌, ap, subst, append_assoc, append-nil, Err}
use Rattle.std.specs.Prelude.{◌==◌, Err, is_some, option_map}
use Rattle.std.specs.Io.KnownBytes.{Appends}
use Rattle.std.proofs.lemmas.List.{nil_from_length}
use Rattle.tt_code.specs.Cut.{Instruction}
use Rattle.tt_family.specs.Contents.{Contents, HasContext, frames_at}
use Rattle.tt_family.specs.Ascending.{IsFinished}
use Rattle.tt_cert.specs.declared.form.Form.TheVariants.{Four}
use Rattle.tt_setting.specs.declared.cert_fault.CertFault.{CertFault}
use Rattle.tt_setting.specs.declared.cert_fault.CertFault.TheVariants as cert
use Rattle.tt_setting.specs.declared.name.Name.{Name}
use Rattle.tt_cert.specs.Answers.{CountsWrite}
use Rattle.tt_cert.specs.Rules.{AreCallsInTurn, Fits}
use Rattle.tt_cert.specs.Sections.{section_of}
use Rattle.tt_cert.specs.Text.{header_text, section_text}
use Rattle.tt_find.specs.declared.finder.Found.{Found}
use Rattle.tt_font.specs.Reading.{FontData, GlyphData}
use Rattle.tt_stream.specs.Streams.{AppendsBeginning}
use Rattle.hintcheck_report.specs.AnswerFaults.{fault_of_certificate}
use Rattle.hintcheck_certificates.specs.BudgetAnswers.{IsOutsideFont}
use Rattle.hintcheck_certificates.specs.CertificateFaults.{CountsFind}
use Rattle.hintcheck_certificates.specs.CertificateTexts.{AreGlyphTexts, IsCertificate, IsEndedText, IsPassingCertificate, IsReadableListing, IsTextOf, WritesBeginning, WritesText, no_glyphs, one_more}
use Rattle.hintcheck_certificates.specs.FindingSessions.{AreFirstSections, IsCertificateBegun, IsOutcomeByFinding, cvt_found, font_found, glyph_found, none_yet, one_program_more}
use Rattle.hintcheck_programs.specs.FoundFamilies.{IsFoundFor, IsFoundToEnd}
use Rattle.hintcheck_programs.specs.Representation.FontVerdicts.{AreAllRefused, KeepsKnown}
use Rattle.hintcheck_programs.specs.FontPrograms.{RefusesNone, cvt_subject, font_of, font_subject, glyph_subject, judgement_on}
use Rattle.hintcheck_programs.specs.ProgramVerdicts.{IsForCertificate}
use Rattle.hintcheck_programs.specs.Programs.{Subject}
use Rattle.hintcheck_programs.specs.Representation.Judges.{AnswersFinding, IsOutcomeOf}
use Rattle.hintcheck_certificates.specs.Representation.SessionStages.{AreSectionsFrom, AreSomeSections, all_there, cvt_next, font_first, glyph_next}
use Rattle.hintcheck_certificates.specs.Sessions.{IsLast, last_glyph, none_is_left}
use Rattle.hintcheck_programs.specs.Stages.{Stage, after_font, at_glyph, at_start, over}
use Rattle.hintcheck_programs.specs.declared.finding.Finding.{Finding}
use Rattle.hintcheck_report.specs.declared.refused.Refused.{Refused}
use Rattle.hintcheck_programs.specs.declared.report.Outcome.{Outcome}
use Rattle.hintcheck_programs.proofs.ProgramSteps.{all_dropped, dropped, mapped_from}
use Rattle.hintcheck_certificates.proofs.CheckedTexts.{is_passing}
use Rattle.hintcheck_certificates.proofs.FindingSteps.{found_outcome, good_of_known, unfound_outcome}
use Rattle.hintcheck_programs.proofs.VerdictSteps.{stays_known}
use Rattle.hintcheck_certificates.proofs.SessionSteps.{is_last}
use Rattle.hintcheck_certificates.proofs.SecondFindings.{AreLeastFrom, least_on, none_refused_at_start}
use Rattle.hintcheck_certificates.proofs.TextBeginnings.{begins_on, begins_whole}
use Rattle.tt_code.specs.declared.machine.Frame.{Frame}
use Rattle.tt_abs.specs.Contexts.{FramesFit}
use Rattle.tt_family.specs.Puts.{number_at}
use Rattle.tt_find.specs.Found.{refused}

-- the calls of each context that was found are in their turns, and no body runs twice in them
pub calls_in_turn : (v : Contents) → IsFinished v → ((frames : List Frame) → HasContext v.contexts frames → FramesFit frames) → AreCallsInTurn v.contexts
calls_in_turn v finished calls number lt =
    let at = number_at v number finished.0 lt in
    calls (frames_at v.contexts number) (omega arith)

-- an empty list is told to be empty
pub told_empty : {X : Type 0} (xs : List X) (n : ℕ) → length xs ≡ n → xs ≡ [] → false ≡ (n == 0) → ⊥
told_empty {X} xs n long empty told =
    absurd (let e : false ≡ true = told ∙ ap (λ (k : ℕ). k == 0) (sym long) ∙ ap (λ (l : List X). length l == 0) empty in cc)

-- a verdict that refuses an empty list of programs refuses none
pub refuses_none : (d : FontData) (rs : List Refused) (n : ℕ) → n ≡ length rs → AreAllRefused d rs → n ≡ 0 → RefusesNone d
refuses_none d rs n long all zero = (judgement_on d rs, all, nil_from_length rs (sym long ∙ zero))

-- a section that can't be written counts as the search for a certificate counts
pub counts_encoding : (e : CertFault) (a b n : ℕ) → b ≡ a → CountsWrite {T = Unit {0}} (Err e) b n → CountsFind {T = Unit {0}} (Err (fault_of_certificate e)) a n
counts_encoding cert.Write a b n same counted = counted ∙ ap (λ k. k + 1) same
counts_encoding (cert.Form place) a b n same counted = absurd counted
counts_encoding cert.Read a b n same counted = absurd counted
counts_encoding (cert.OutOfMemory error) a b n same counted = counted ∙ same

-- and that isn't the font's fault
pub encoding_no_font : (e : CertFault) → IsOutsideFont (fault_of_certificate e)
encoding_no_font cert.Write = tt
encoding_no_font (cert.Form place) = tt
encoding_no_font cert.Read = tt
encoding_no_font (cert.OutOfMemory error) = tt

-- one text after the other

appends_nothing : (w : Option (List ℕ)) → Appends w w []
appends_nothing None = tt
appends_nothing (Some xs) = sym (append-nil xs)

pub appends_both : (a b c : Option (List ℕ)) (x y : List ℕ) → Appends a b x → Appends b c y → Appends a c (x ++ y)
appends_both None b c x y h k = tt
appends_both (Some xs) None c x y h k = absurd h
appends_both (Some xs) (Some ys) None x y h k = absurd k
appends_both (Some xs) (Some ys) (Some zs) x y h k = k ∙ ap (λ (l : List ℕ). l ++ y) h ∙ append_assoc xs x y

-- they are those of a certificate

glyph_texts : (d : FontData) (f p : List Instruction) (known : List (ℕ × ℕ)) (id : ℕ) (text : List ℕ) → AreSectionsFrom d (at_glyph f p known id) text
    → AreGlyphTexts IsReadableListing Four (font_of d f p) known id (drop id d.glyphs) text
glyph_texts d f p known id text (all_there f1 p1 known1 id1 last) =
    let D : ℕ → Type 0 = λ n. drop n d.glyphs ≡ [] in
    let A : List GlyphData → Type 0 = λ gs. AreGlyphTexts IsReadableListing Four (font_of d f p) known id gs [] in
    subst A (sym (subst D (sym last) (all_dropped d.glyphs))) (no_glyphs id)
glyph_texts d f p known id text (glyph_next f1 p1 known1 id1 g one rest there is more) =
    let A : List GlyphData → Type 0 = λ gs. AreGlyphTexts IsReadableListing Four (font_of d f p) known id gs (one ++ rest) in
    subst A (sym (dropped d.glyphs id g there)) (one_more id g (drop (id + 1) d.glyphs) one rest is (glyph_texts d f p known (id + 1) rest more))

after_font_program : (d : FontData) (f : List Instruction) (functions : List (ℕ × ℕ)) (font_text text : List ℕ) → IsEndedText IsReadableListing Four (font_subject d) f font_text functions
    → AreSectionsFrom d (after_font f functions) text → IsCertificate IsReadableListing Four d (header_text Four (length d.glyphs + 2) ++ (font_text ++ text))
after_font_program d f functions font_text text font (cvt_next f1 p functions1 known cvt_text rest cvt glyphs) = record {
  font_program = f;
  functions = functions;
  font_text = font_text;
  font = font;
  cvt_program = p;
  known = known;
  cvt_text = cvt_text;
  cvt = cvt;
  glyph_texts = rest;
  glyphs = glyph_texts d f p known 0 rest glyphs;
  text_is = refl;
}

certificate_of : (d : FontData) (text : List ℕ) → AreSectionsFrom d at_start text → IsCertificate IsReadableListing Four d (header_text Four (length d.glyphs + 2) ++ text)
certificate_of d text (font_first f functions font_text rest font more) = after_font_program d f functions font_text rest font more

-- the section of a program that is found, which keeps the rules by which it is read

-- what is written of a program: its section, of the contexts in order
pub record IsSectionWritten (called : Name) (family : Contents) : Type 0 where
  pub finished : IsFinished family
  pub fits : AreCallsInTurn family.contexts → Fits Four (section_of called family)

readable : (x : Subject) (is : List Instruction) (found : Found) → IsFoundFor x is found → IsSectionWritten x.name found.certificate → IsReadableListing x is found.certificate
readable x is found is_found written =
    (is_found.listing, written.fits (calls_in_turn found.certificate written.finished is_found.contexts.calls))

text_of : (called : Name) (family : Contents) → IsSectionWritten called family → IsTextOf Four called family (section_text Four (section_of called family))
text_of called family written = record { in_order = written.finished; text_is = refl }

ended : (x : Subject) (is : List Instruction) (found : Found) (functions : List (ℕ × ℕ)) → IsFoundToEnd x is found functions → IsSectionWritten x.name found.certificate
    → IsEndedText IsReadableListing Four x is (section_text Four (section_of x.name found.certificate)) functions
ended x is found functions ends written = record {
  family = found.certificate;
  is_asked = readable x is found ends.is_found written;
  text_of = text_of x.name found.certificate written;
  end = ends.end;
  at_end = ends.at_end;
  functions_are = ends.functions_are;
}

section_next : (d : FontData) (s t : Stage) (o : Outcome) (found : Found) (rest : List ℕ) → IsOutcomeByFinding d s o (Some found) t → IsSectionWritten o.program found.certificate
    → AreSectionsFrom d t rest → AreSectionsFrom d s (section_text Four (section_of o.program found.certificate) ++ rest)
section_next d s t o found rest (font_found f functions x ends) written more =
    font_first f functions (section_text Four (section_of (font_subject d).name found.certificate)) rest (ended (font_subject d) f found functions ends written) more
section_next d s t o found rest (cvt_found f p functions known x ends) written more =
    let subject = cvt_subject d f functions in
    cvt_next f p functions known (section_text Four (section_of subject.name found.certificate)) rest (ended subject p found known ends written) more
section_next d s t o found rest (glyph_found f p known id g is x there is_found) written more =
    let subject = glyph_subject (font_of d f p) known id g in
    glyph_next f p known id g (section_text Four (section_of subject.name found.certificate)) rest there (record {
      instructions = is;
      family = found.certificate;
      is_asked = readable subject is found is_found written;
      text_of = text_of subject.name found.certificate written;
    }) more

-- the sections of the programs before a stage, which those from it on complete

abbrev pub TextsBefore : FontData → Stage → List ℕ → Type 0
TextsBefore d s text = (rest : List ℕ) → AreSectionsFrom d s rest → AreSectionsFrom d at_start (text ++ rest)

texts_next : (d : FontData) (s t : Stage) (o : Outcome) (found : Found) (first old new : Option (List ℕ)) → WritesText first old (TextsBefore d s) → IsOutcomeByFinding d s o (Some found) t
    → IsSectionWritten o.program found.certificate → Appends old new (section_text Four (section_of o.program found.certificate)) → WritesText first new (TextsBefore d t)
texts_next d s t o found first old new before is written appends =
    let (text, below, appended) = before in
    let one : List ℕ = section_text Four (section_of o.program found.certificate) in
    let B : List ℕ → Type 0 = λ x. AreSectionsFrom d at_start x in (
      text ++ one,
      (λ rest more. subst B (sym (append_assoc text one rest)) (below (one ++ rest) (section_next d s t o found rest is written more))),
      appends_both first old new text one appended appends,
    )

first_next : (d : FontData) (s t : Stage) (o : Outcome) (found : Found) (first old new : Option (List ℕ)) → WritesText first old (AreFirstSections d s)
    → IsOutcomeByFinding d s o (Some found) t → Appends old new (section_text Four (section_of o.program found.certificate)) → WritesText first new (AreFirstSections d t)
first_next d s t o found first old new (text, are, appended) is appends =
    let one : List ℕ = section_text Four (section_of o.program found.certificate) in
    (text ++ one, one_program_more s t o found text are is, appends_both first old new text one appended appends)

goes_on : (d : FontData) (s t : Stage) (o : Outcome) (found : Found) → IsOutcomeByFinding d s o (Some found) t → t ≡ over → ⊥
goes_on d s t o found (font_found f functions x ends) e = cc
goes_on d s t o found (cvt_found f p functions known x ends) e = cc
goes_on d s t o found (glyph_found f p known id g is x there is_found) e = cc

-- The programs before a stage are found, none of which is refused, and their sections are written.
pub record IsWrittenSoFar (d : FontData) (first : Option (List ℕ)) (s : Stage) (now : Option (List ℕ)) : Type 0 where
  pub known : KeepsKnown d s
  pub going : s ≡ over → ⊥
  pub written : WritesText first now (TextsBefore d s)
  pub first_ones : WritesText first now (AreFirstSections d s)
  pub least : AreLeastFrom d s

pub nothing_found : (d : FontData) (w : Option (List ℕ)) (s : Stage) → AreAllRefused d [] → s ≡ at_start → IsWrittenSoFar d w s w
nothing_found d w s all is =
    let S : Stage → Type 0 = λ t. IsWrittenSoFar d w t w in
    subst S (sym is) (record {
      known = tt;
      going = λ e. cc;
      written = ([], (λ rest more. more), appends_nothing w);
      first_ones = ([], none_yet, appends_nothing w);
      least = none_refused_at_start d all;
    })

-- no program is refused as it is found once more
pub found_once_more : (d : FontData) (j : Finding) (s t : Stage) (answer : Option Outcome) (o : Outcome) → answer ≡ Some o → IsForCertificate j.search → AnswersFinding d j s answer t
    → AreLeastFrom d s → IsOutcomeByFinding d s o j.finder.found t × (is_some j.finder.found ≡ true)
found_once_more d j s t answer o is certificate answers least =
    let A : Option Outcome → Type 0 = λ a. AnswersFinding d j s a t in
    let outcome = subst A is answers in
    go o.refused refl outcome
  where
    go : (r : Option Refused) → o.refused ≡ r → IsOutcomeOf d j s o t → IsOutcomeByFinding d s o j.finder.found t × (is_some j.finder.found ≡ true)
    go None none outcome = let found = found_outcome d j s t o certificate outcome none in (found, (least_on d s t o j.finder.found found least).0)
    go (Some r) some outcome =
        let lost = least_on d s t o None (unfound_outcome d j s t o outcome (λ none. let no : None ≡ Some r = sym none ∙ some in cc)) least in
        absurd (let no : false ≡ true = lost.0 in cc)

pub found_next : (d : FontData) (first old new : Option (List ℕ)) (j : Finding) (s t : Stage) (answer : Option Outcome) (o : Outcome) (v : Contents)
    → answer ≡ Some o → option_map (λ (y : Found). y.certificate) j.finder.found ≡ Some v → IsForCertificate j.search → IsWrittenSoFar d first s old → AnswersFinding d j s answer t
    → IsFinished v → (AreCallsInTurn v.contexts → Fits Four (section_of o.program v)) → Appends old new (section_text Four (section_of o.program v)) → IsWrittenSoFar d first t new
found_next d first old new j s t answer o v is kept certificate so_far answers finished fits appends =
    let (x, is_found, same) = mapped_from (λ (y : Found). y.certificate) j.finder.found v kept in
    let written : IsSectionWritten o.program x.certificate = subst (λ (w : Contents). IsSectionWritten o.program w) (sym same) (record { finished = finished; fits = fits }) in
    let text : Appends old new (section_text Four (section_of o.program x.certificate)) =
    subst (λ (w : Contents). Appends old new (section_text Four (section_of o.program w))) (sym same) appends in
    let found = (found_once_more d j s t answer o is certificate answers so_far.least).0 in
    let F : Option Found → Type 0 = λ y. IsOutcomeByFinding d s o y t in
    let outcome : IsOutcomeByFinding d s o (Some x) t = subst F is_found found in
    record {
      known = stays_known d j s t answer answers so_far.known;
      going = goes_on d s t o x outcome;
      written = texts_next d s t o x first old new so_far.written outcome written text;
      first_ones = first_next d s t o x first old new so_far.first_ones outcome text;
      least = (least_on d s t o (Some x) outcome so_far.least).1;
    }

-- what is written where it goes no further: the sections so far, and perhaps a beginning of the next one

pub stopped : (d : FontData) (first now : Option (List ℕ)) (s : Stage) → IsWrittenSoFar d first s now → WritesBeginning first now (AreSomeSections d)
stopped d first now s so_far =
    let (text, are, appended) = so_far.first_ones in
    (text, (s, are), begins_whole first now text appended)

pub stopped_within : (d : FontData) (first old new : Option (List ℕ)) (j : Finding) (s t : Stage) (answer : Option Outcome) (o : Outcome) (v : Contents)
    → answer ≡ Some o → option_map (λ (y : Found). y.certificate) j.finder.found ≡ Some v → IsForCertificate j.search → IsWrittenSoFar d first s old → AnswersFinding d j s answer t
    → AppendsBeginning old new (section_text Four (section_of o.program v)) → WritesBeginning first new (AreSomeSections d)
stopped_within d first old new j s t answer o v is kept certificate so_far answers begun =
    let (x, is_found, same) = mapped_from (λ (y : Found). y.certificate) j.finder.found v kept in
    let part : AppendsBeginning old new (section_text Four (section_of o.program x.certificate)) =
    subst (λ (w : Contents). AppendsBeginning old new (section_text Four (section_of o.program w))) (sym same) begun in
    let (text, are, appended) = so_far.first_ones in
    let F : Option Found → Type 0 = λ y. IsOutcomeByFinding d s o y t in
    let outcome : IsOutcomeByFinding d s o (Some x) t = subst F is_found (found_once_more d j s t answer o is certificate answers so_far.least).0 in
    let one : List ℕ = section_text Four (section_of o.program x.certificate) in
    (text ++ one, (t, one_program_more s t o x text are outcome), begins_on first old new text one appended part)

pub header_begun : (d : FontData) (n : ℕ) (old new : Option (List ℕ)) → n ≡ length d.glyphs + 2 → AppendsBeginning old new (header_text Four n) → WritesBeginning old new (IsCertificateBegun d)
header_begun d n old new sections part =
    let H : ℕ → Type 0 = λ k. AppendsBeginning old new (header_text Four k) in
    let header : List ℕ = header_text Four (length d.glyphs + 2) in
    (header, record { stage = at_start; sections = []; first = none_yet; text_is = sym (append-nil header) }, subst H sections part)

pub sections_begun : (d : FontData) (n : ℕ) (start first now : Option (List ℕ)) → n ≡ length d.glyphs + 2 → Appends start first (header_text Four n) → WritesBeginning first now (AreSomeSections d)
    → WritesBeginning start now (IsCertificateBegun d)
sections_begun d n start first now sections header (text, (stage, are), part) =
    let H : ℕ → Type 0 = λ k. Appends start first (header_text Four k) in
    let whole : List ℕ = header_text Four (length d.glyphs + 2) in
    (whole ++ text, record { stage = stage; sections = text; first = are; text_is = refl }, begins_on start first now whole text (subst H sections header) part)

-- all of them, and the whole certificate

last_section : (d : FontData) (s : Stage) → IsLast d s → (s ≡ over → ⊥) → AreSectionsFrom d s []
last_section d s none_is_left going = absurd (going refl)
last_section d s (last_glyph f p known id last) going = all_there f p known id last

pub sections_written : (d : FontData) (first now : Option (List ℕ)) (j : Finding) (s t : Stage) (answer : Option Outcome) → answer ≡ None
    → IsWrittenSoFar d first s now → AnswersFinding d j s answer t → WritesText first now (AreSectionsFrom d at_start)
sections_written d first now j s t answer is so_far answers =
    let A : Option Outcome → Type 0 = λ a. AnswersFinding d j s a t in
    let last = is_last d s (subst A is answers).0 (good_of_known d s so_far.known) in
    let (text, below, appended) = so_far.written in
    let B : List ℕ → Type 0 = λ x. AreSectionsFrom d at_start x in
    (text, subst B (append-nil text) (below [] (last_section d s last so_far.going)), appended)

pub certificate_written : (d : FontData) (n : ℕ) (start first now : Option (List ℕ)) → Appends start first (header_text Four n) → n ≡ length d.glyphs + 2 → n < 2 ^ 32
    → WritesText first now (AreSectionsFrom d at_start) → WritesText start now (IsPassingCertificate d)
certificate_written d n start first now header sections few (text, all, appended) =
    let H : ℕ → Type 0 = λ k. Appends start first (header_text Four k) in
    let whole : List ℕ = header_text Four (length d.glyphs + 2) ++ text in
    (whole, is_passing d whole (omega arith) (certificate_of d text all), appends_both start first now (header_text Four (length d.glyphs + 2)) text (subst H sections header) appended)
