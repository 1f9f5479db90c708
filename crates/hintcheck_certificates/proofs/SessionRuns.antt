-- What the calls of a session come to, one after the other.
use Rattle.std.proofs.Common.{◌≡◌, inl, inr, ℕ, ◌+◌, ◌<◌, List, [], ◌∷◌, ◌++◌, length, drop, Option, Some, None, Ok, Err, refl, sym, ◌∙◌, ap, subst, arith, append-nil, append_assoc, zero-add}
use Rattle.std.specs.Prelude.{slice_get}
use Rattle.std.specs.Io.KnownBytes.{Consumes}
use Rattle.std.proofs.KnownBytes.{Consumes-nil, Consumes-trans}
use Rattle.std.proofs.lemmas.Bool.{cases_lt}
use Rattle.std.proofs.lemmas.List.{length-append}
use Rattle.std.proofs.lemmas.Option.{slice_get_within}
use Rattle.tt_code.specs.Cut.{Instruction}
use Rattle.tt_family.specs.Contents.{Contents}
use Rattle.tt_cert.specs.Answers.{input_at}
use Rattle.tt_cert.specs.declared.form.Form.{Form}
use Rattle.tt_setting.specs.declared.name.Name.TheVariants as name
use Rattle.tt_cert.specs.Readers.{Input, place_after}
use Rattle.tt_font.specs.Reading.{FontData, GlyphData}
use Rattle.hintcheck_certificates.specs.Certificates.{AreChecked, AreSectionsChecked, Finding, IsChecked, IsSectionOf, PassesToEnd, at_end, both_passed, cvt_refused, followed, font_refused, no_cvt_section, no_font_section, no_section, passed, refused, refused_before, sections_checked, no_header, other_number}
use Rattle.hintcheck_programs.specs.GoodPrograms.{EndsGood, HasGoodFamilies}
use Rattle.hintcheck_certificates.specs.CheckedFonts.{IsTold, all_refused, bytes_in}
use Rattle.hintcheck_programs.specs.FontPrograms.{cvt_subject, font_of, font_subject, glyph_subject}
use Rattle.hintcheck_certificates.specs.FailedReads.{EndsInCall, HasRead, IsUnbroken, after_all, in_section, in_sections}
use Rattle.hintcheck_certificates.specs.FailedReads as cut
use Rattle.hintcheck_programs.specs.Programs.{HasGoodFamily}
use Rattle.hintcheck_programs.specs.Representation.FontVerdicts.{ListsOutcome}
use Rattle.hintcheck_certificates.specs.Sessions.{AnswersNext, IsFaultAt, IsLast, IsNextFault, IsNothingLeft, IsOutcomeBySection, IsSoundAnswer, IsSoundOutcome, ReadsOn, Standing, all_read, already_over, another_number, at_header, at_section, cvt_ends, cvt_fails, cvt_passes, font_ends, font_fails, font_passes, glyph_fails, glyph_goes_on, glyph_passes, good_cvt, good_font, good_glyph, in_header, last_glyph, more_follows, new_standing, no_cvt, no_font, no_glyph, no_header_read, none_is_left, where_it_was}
use Rattle.hintcheck_programs.specs.Stages.{Stage, after_font, at_glyph, at_start, over}
use Rattle.hintcheck_report.specs.declared.answer_fault.AnswerFault.{AnswerFault}
use Rattle.hintcheck_report.specs.declared.answer_fault.AnswerFault.TheVariants as fault
use Rattle.hintcheck_report.specs.declared.refused.Refused.{Refused}
use Rattle.hintcheck_programs.specs.declared.report.Outcome.{Outcome}
use Rattle.hintcheck_programs.proofs.ProgramSteps.{all_dropped, dropped, calls_left}
use Rattle.hintcheck_certificates.proofs.CheckedSections.{one_more}
use Rattle.hintcheck_certificates.proofs.FailedReads.{ends_there, next_always, place_so_far}

-- the finding after a program is refused, or none is
abbrev pub before : Option Refused → Finding → Finding
before None finding = finding
before (Some r) finding = refused_before r finding

-- The calls of a session at this stage, which reads on here, come to this finding.
pub data ComesTo (d : FontData) (form : Form) : Stage → Input → Finding → Type 0 where
  goes_on : (s t : Stage) (i after : Input) (o : Outcome) (finding : Finding) → IsOutcomeBySection d form i after s o t → ComesTo d form t after finding
      → ComesTo d form s i (before o.refused finding)
  comes_to_end : (s : Stage) (i : Input) → IsNothingLeft d i s → ComesTo d form s i (Ok [])
  fails_at : (s : Stage) (i : Input) (place : ℕ) → IsFaultAt d form i s place → ComesTo d form s i (Err place)

-- so do the sections of the certificate

over_comes : (d : FontData) (form : Form) (i : Input) (finding : Finding) → ComesTo d form over i finding → finding ≡ Ok []
over_comes d form i finding (goes_on s t j after o rest is more) = elim is [ ]
over_comes d form i finding (comes_to_end s j left) = refl
over_comes d form i finding (fails_at s j place fault) = elim fault [ ]

glyphs_come : (d : FontData) (form : Form) (f p : List Instruction) (known : List (ℕ × ℕ)) (id : ℕ) (i : Input) (finding : Finding) → ComesTo d form (at_glyph f p known id) i finding
    → AreChecked form (font_of d f p) known id (drop id d.glyphs) i finding
glyphs_come d form f p known id i finding (goes_on s t j after o rest (glyph_passes f1 p1 known1 id1 g family instructions there section passes) more) =
    let A : List GlyphData → Type 0 = λ gs. AreChecked form (font_of d f p) known id gs i rest in
    subst A (sym (dropped d.glyphs id g there))
    (passed id g (drop (id + 1) d.glyphs) i after family instructions rest section passes (glyphs_come d form f p known (id + 1) after rest more))
glyphs_come d form f p known id i finding (goes_on s t j after o rest (glyph_fails f1 p1 known1 id1 g family r there section is) more) =
    let A : List GlyphData → Type 0 = λ gs. AreChecked form (font_of d f p) known id gs i (refused_before r rest) in
    subst A (sym (dropped d.glyphs id g there))
    (refused id g (drop (id + 1) d.glyphs) i after family r rest section is (glyphs_come d form f p known (id + 1) after rest more))
glyphs_come d form f p known id i finding (comes_to_end s j (all_read f1 p1 known1 id1 last empty)) =
    let D : ℕ → Type 0 = λ n. drop n d.glyphs ≡ [] in
    let A : List GlyphData → Type 0 = λ gs. AreChecked form (font_of d f p) known id gs i (Ok []) in
    subst A (sym (subst D (sym last) (all_dropped d.glyphs))) (at_end id i empty)
glyphs_come d form f p known id i finding (fails_at s j place (no_glyph f1 p1 known1 id1 g place1 there none)) =
    let A : List GlyphData → Type 0 = λ gs. AreChecked form (font_of d f p) known id gs i (Err place) in
    subst A (sym (dropped d.glyphs id g there)) (no_section id g (drop (id + 1) d.glyphs) i place none)
glyphs_come d form f p known id i finding (fails_at s j place (more_follows f1 p1 known1 id1 last more)) =
    let D : ℕ → Type 0 = λ n. drop n d.glyphs ≡ [] in
    let A : List GlyphData → Type 0 = λ gs. AreChecked form (font_of d f p) known id gs i (Err i.place) in
    subst A (sym (subst D (sym last) (all_dropped d.glyphs))) (followed id i more)

cvt_comes : (d : FontData) (form : Form) (i after : Input) (family : Contents) (f : List Instruction) (functions : List (ℕ × ℕ)) (finding : Finding) → IsSectionOf form i name.Font family after
    → PassesToEnd form (font_subject d) f family functions → ComesTo d form (after_font f functions) after finding → AreSectionsChecked d form i finding
cvt_comes d form i after family f functions finding section passes (goes_on s t j end o rest (cvt_passes f1 p functions1 known other next passes_too) more) =
    both_passed family other after end f p functions known rest section passes next passes_too (glyphs_come d form f p known 0 end rest more)
cvt_comes d form i after family f functions finding section passes (goes_on s t j end o rest (cvt_fails f1 functions1 other r next is) more) =
    let A : Finding → Type 0 = λ x. AreSectionsChecked d form i (refused_before r x) in
    subst A (sym (over_comes d form end rest more)) (cvt_refused family other after end f functions r section passes next is)
cvt_comes d form i after family f functions finding section passes (comes_to_end s j left) = elim left [ ]
cvt_comes d form i after family f functions finding section passes (fails_at s j place (no_cvt f1 functions1 place1 none)) =
    no_cvt_section family after f functions place section passes none

sections_come : (d : FontData) (form : Form) (i : Input) (finding : Finding) → ComesTo d form at_start i finding → AreSectionsChecked d form i finding
sections_come d form i finding (goes_on s t j after o rest (font_passes family f functions section passes) more) =
    cvt_comes d form i after family f functions rest section passes more
sections_come d form i finding (goes_on s t j after o rest (font_fails family r section is) more) =
    let A : Finding → Type 0 = λ x. AreSectionsChecked d form i (refused_before r x) in
    subst A (sym (over_comes d form after rest more)) (font_refused family after r section is)
sections_come d form i finding (comes_to_end s j left) = elim left [ ]
sections_come d form i finding (fails_at s j place (no_font place1 none)) = no_font_section place none

-- from where a session is: before the header, or at a stage

abbrev pub ComesFrom : FontData → Stage → Option (Form × ℕ) → Option (List ℕ) → Finding → Type 0
ComesFrom d stage None bytes finding = IsChecked d (bytes_in bytes) finding
ComesFrom d stage (Some read) bytes finding = ComesTo d read.0 stage (input_at read.1 bytes) finding

comes_on : (s : Standing) (bytes : Option (List ℕ)) (form : Form) (from : Input) (finding : Finding) → (s.read ≡ None → s.stage ≡ at_start) → ReadsOn s bytes form from
    → ComesTo s.font form s.stage from finding → ComesFrom s.font s.stage s.read bytes finding
comes_on s bytes form from finding starts (where_it_was form1 place is) comes =
    let C : Option (Form × ℕ) → Type 0 = λ r. ComesFrom s.font s.stage r bytes finding in subst C (sym is) comes
comes_on s bytes form from finding starts (at_header form1 i none header) comes =
    let C : Option (Form × ℕ) → Type 0 = λ r. ComesFrom s.font s.stage r bytes finding in
    let S : Stage → Type 0 = λ x. ComesTo s.font form x from finding in
    subst C (sym none) (sections_checked form i finding header (sections_come s.font form from finding (subst S (starts none) comes)))

next_comes : (s t : Standing) (bytes left : Option (List ℕ)) (o : Outcome) (finding : Finding) → (s.read ≡ None → s.stage ≡ at_start) → t.font ≡ s.font
    → AnswersNext s bytes (Some o) t left → ComesFrom t.font t.stage t.read left finding → ComesFrom s.font s.stage s.read bytes (before o.refused finding)
next_comes s t bytes left o finding starts font answers comes =
    let F : FontData → Type 0 = λ d. ComesFrom d t.stage t.read left finding in
    let R : Option (Form × ℕ) → Type 0 = λ r. ComesFrom s.font t.stage r left finding in
    let rest = subst R answers.read_is (subst F font comes) in
    comes_on s bytes answers.form answers.from (before o.refused finding) starts answers.reads_on
    (goes_on s.stage t.stage answers.from (input_at answers.place left) o finding answers.answers rest)

none_comes : (s t : Standing) (bytes left : Option (List ℕ)) → (s.read ≡ None → s.stage ≡ at_start) → AnswersNext s bytes None t left → ComesFrom s.font s.stage s.read bytes (Ok [])
none_comes s t bytes left starts answers = comes_on s bytes answers.form answers.from (Ok []) starts answers.reads_on (comes_to_end s.stage answers.from answers.answers.0)

fault_comes : (s : Standing) (bytes : Option (List ℕ)) (place : ℕ) → (s.read ≡ None → s.stage ≡ at_start) → IsNextFault s bytes place → ComesFrom s.font s.stage s.read bytes (Err place)
fault_comes s bytes place starts (in_header place1 none (no_header_read place2 header)) =
    let C : Option (Form × ℕ) → Type 0 = λ r. ComesFrom s.font s.stage r bytes (Err place) in subst C (sym none) (no_header place header)
fault_comes s bytes place starts (in_header place1 none (another_number form sections i header differs)) =
    let C : Option (Form × ℕ) → Type 0 = λ r. ComesFrom s.font s.stage r bytes (Err 6) in subst C (sym none) (other_number form sections i header differs)
fault_comes s bytes place starts (at_section form from place1 reads fault) = comes_on s bytes form from (Err place) starts reads (fails_at s.stage from place fault)

-- the refused ones so far, and the others

refused_so_far : (rs rs' : List Refused) (o : Option Refused) (finding : Finding) → ListsOutcome rs o rs' → all_refused rs (before o finding) ≡ all_refused rs' finding
refused_so_far rs rs' None finding same = ap (λ (l : List Refused). all_refused l finding) (sym same)
refused_so_far rs rs' (Some r) finding same = one_more rs r finding ∙ ap (λ (l : List Refused). all_refused l finding) (sym same)

-- good families

fewer_left : (d : FontData) (s t : Stage) (o : Outcome) → IsSoundOutcome d s o t → calls_left d t < calls_left d s
unfolding calls_left
fewer_left d s t o (good_font f functions good) = omega arith
fewer_left d s t o (font_ends r) = omega arith
fewer_left d s t o (good_cvt f p functions known good) = omega arith
fewer_left d s t o (cvt_ends f functions r) = omega arith
fewer_left d s t o (good_glyph f p known id g there good) = let lt = slice_get_within d.glyphs id g there in omega arith
fewer_left d s t o (glyph_goes_on f p known id r lt) = omega arith

-- all programs before this stage have good families
abbrev pub AreGoodTill : FontData → Stage → Type 0
AreGoodTill d at_start = Unit {0}
AreGoodTill d (after_font f functions) = EndsGood (font_subject d) f functions
AreGoodTill d (at_glyph f p known id) =
    ((functions : List (ℕ × ℕ)) × EndsGood (font_subject d) f functions × EndsGood (cvt_subject d f functions) p known)
    × ((k : ℕ) (g : GlyphData) → k < id → slice_get d.glyphs k ≡ Some g → HasGoodFamily (glyph_subject (font_of d f p) known k g))
AreGoodTill d over = ⊥

good_glyphs_next : (d : FontData) (f p : List Instruction) (known : List (ℕ × ℕ)) (id : ℕ) (g : GlyphData) → slice_get d.glyphs id ≡ Some g
    → HasGoodFamily (glyph_subject (font_of d f p) known id g)
    → ((k : ℕ) (h : GlyphData) → k < id → slice_get d.glyphs k ≡ Some h → HasGoodFamily (glyph_subject (font_of d f p) known k h))
    → (k : ℕ) (h : GlyphData) → k < id + 1 → slice_get d.glyphs k ≡ Some h → HasGoodFamily (glyph_subject (font_of d f p) known k h)
good_glyphs_next d f p known id g there good below k h lt at = elim (cases_lt k id) [
  | inl less ↦ below k h less at
  | inr ge ↦
      let same : id ≡ k = omega arith in
      let one : Some g ≡ Some h = sym there ∙ ap (slice_get d.glyphs) same ∙ at in
      let glyph : g ≡ h = cc in
      let N : ℕ → Type 0 = λ n. HasGoodFamily (glyph_subject (font_of d f p) known n h) in
      let G : GlyphData → Type 0 = λ x. HasGoodFamily (glyph_subject (font_of d f p) known id x) in
      subst N same (subst G glyph good)
]

good_till_next : (d : FontData) (s t : Stage) (o : Outcome) → IsSoundOutcome d s o t → o.refused ≡ None → AreGoodTill d s → AreGoodTill d t
good_till_next d s t o (good_font f functions good) none till = good.ends
good_till_next d s t o (font_ends r) none till = absurd cc
good_till_next d s t o (good_cvt f p functions known good) none till = ((functions, till, good.ends), λ k g lt there. absurd (omega arith))
good_till_next d s t o (cvt_ends f functions r) none till = absurd cc
good_till_next d s t o (good_glyph f p known id g there good) none till = (till.0, good_glyphs_next d f p known id g there good till.1)
good_till_next d s t o (glyph_goes_on f p known id r lt) none till = absurd cc

all_good : (d : FontData) (s : Stage) → IsLast d s → AreGoodTill d s → HasGoodFamilies d
all_good d s none_is_left till = absurd till
all_good d s (last_glyph f p known id last) till = record {
  font_program = f;
  functions = till.0.0;
  font = till.0.1;
  cvt_program = p;
  known = known;
  cvt = till.0.2;
  glyphs = λ k g there. till.1 k g (let lt = slice_get_within d.glyphs k g there in omega arith) there;
}

-- the refused ones so far, and what is known of the programs before a stage where there is none
listed_none : (rs rs' : List Refused) (o : Option Refused) → ListsOutcome rs o rs' → rs' ≡ [] → (rs ≡ []) × (o ≡ None)
listed_none rs rs' None same none = (sym same ∙ none, refl)
listed_none rs rs' (Some r) same none = absurd (no rs (sym same ∙ none))
  where
    no : (l : List Refused) → l ++ r ∷ [] ≡ [] → ⊥
    no [] e = cc
    no (x ∷ xs) e = cc

still_good : (d : FontData) (s t : Stage) (o : Outcome) (rs rs' : List Refused) → IsSoundOutcome d s o t → ListsOutcome rs o.refused rs' → (rs ≡ [] → AreGoodTill d s)
    → rs' ≡ [] → AreGoodTill d t
still_good d s t o rs rs' sound listed till none =
    let both = listed_none rs rs' o.refused listed none in
    good_till_next d s t o sound both.1 (till both.0)

-- What it has read, and what its further calls come to is what the check comes to, whatever follows.
pub record IsReadSoFar (d : FontData) (bytes : Option (List ℕ)) (s : Standing) (left : Option (List ℕ)) (rs : List Refused) : Type 0 where
  pub front : List ℕ
  pub consumed : Consumes bytes left front
  pub further : (n : ℕ) → place_after (place_so_far s.read) n ≡ place_after 0 (length front + n)
  pub comes : (rest : List ℕ) (finding : Finding) → ComesFrom s.font s.stage s.read (Some rest) finding → IsChecked d (front ++ rest) (all_refused rs finding)

-- A session has checked the programs before its stage: these are the refused ones, and what its further calls come to is what the check comes to.
pub record IsCheckedSoFar (d : FontData) (bytes : Option (List ℕ)) (s : Standing) (left : Option (List ℕ)) (rs : List Refused) : Type 0 where
  pub font : s.font ≡ d
  pub none : s.fault ≡ None
  pub starts : s.read ≡ None → s.stage ≡ at_start
  pub good : rs ≡ [] → AreGoodTill s.font s.stage
  pub told : IsTold bytes → IsTold left
  pub comes : IsTold bytes → (finding : Finding) → ComesFrom s.font s.stage s.read left finding → IsChecked d (bytes_in bytes) (all_refused rs finding)
  pub so_far : IsTold bytes → IsReadSoFar d bytes s left rs

pub nothing_checked : (d : FontData) (bytes : Option (List ℕ)) (s : Standing) (rs : List Refused) → s ≡ new_standing d → rs ≡ [] → IsCheckedSoFar d bytes s bytes rs
nothing_checked d bytes s rs is none =
    let S : Standing → Type 0 = λ t. IsCheckedSoFar d bytes t bytes rs in
    let R : List Refused → Type 0 = λ l. IsCheckedSoFar d bytes (new_standing d) bytes l in
    subst S (sym is) (subst R (sym none) (record {
      font = refl;
      none = refl;
      starts = λ e. refl;
      good = λ e. tt;
      told = λ told. told;
      comes = λ told finding checked. same (bytes_in bytes) finding checked;
      so_far = λ told. record { front = []; consumed = Consumes-nil bytes; further = λ n. ap (place_after 0) (sym (zero-add n)); comes = λ rest finding checked. same rest finding checked };
    }))
  where
    same : (of : List ℕ) (finding : Finding) → IsChecked d of finding → IsChecked d of (all_refused [] finding)
    same of (Ok rs) checked = checked
    same of (Err place) checked = checked

sound_outcome : (d : FontData) (s t : Stage) (answer : Option Outcome) (o : Outcome) → answer ≡ Some o → IsSoundAnswer d s answer t → IsSoundOutcome d s o t
sound_outcome d s t answer o is sound = let S : Option Outcome → Type 0 = λ a. IsSoundAnswer d s a t in subst S is sound

pub fewer_after : (s t : Standing) (answer : Option Outcome) (o : Outcome) → answer ≡ Some o → t.font ≡ s.font → IsSoundAnswer s.font s.stage answer t.stage
    → calls_left t.font t.stage < calls_left s.font s.stage
fewer_after s t answer o is font sound =
    let L : FontData → Type 0 = λ d. calls_left d t.stage < calls_left s.font s.stage in
    subst L (sym font) (fewer_left s.font s.stage t.stage o (sound_outcome s.font s.stage t.stage answer o is sound))

-- one more outcome
pub checked_next : (d : FontData) (bytes : Option (List ℕ)) (s t : Standing) (left left' : Option (List ℕ)) (rs rs' : List Refused) (answer : Option Outcome) (o : Outcome)
    → answer ≡ Some o → IsCheckedSoFar d bytes s left rs → t.font ≡ s.font → t.fault ≡ None → (t.fault ≡ None → t.read ≡ None → t.stage ≡ at_start)
    → IsSoundAnswer s.font s.stage answer t.stage → ListsOutcome rs o.refused rs' → (IsTold left → IsTold left' × AnswersNext s left answer t left') → IsCheckedSoFar d bytes t left' rs'
checked_next d bytes s t left left' rs rs' answer o is so_far font none starts sounds listed answers =
    let A : Option Outcome → Type 0 = λ a. IsTold left → IsTold left' × AnswersNext s left a t left' in
    let exact = subst A is answers in
    let sound = sound_outcome s.font s.stage t.stage answer o is sounds in
    let G : FontData → Type 0 = λ x. AreGoodTill x t.stage in
    record {
      font = font ∙ so_far.font;
      none = none;
      starts = starts none;
      good = λ empty. subst G (sym font) (still_good s.font s.stage t.stage o rs rs' sound listed so_far.good empty);
      told = λ told. (exact (so_far.told told)).0;
      comes = λ told finding comes.
          let C : Finding → Type 0 = λ f. IsChecked d (bytes_in bytes) f in
          let rest = next_comes s t left left' o finding so_far.starts font (exact (so_far.told told)).1 comes in
          subst C (refused_so_far rs rs' o.refused finding listed) (so_far.comes told (before o.refused finding) rest);
      so_far = λ told.
          let known = so_far.told told in
          let w = so_far.so_far told in
          let a = next_always s t left left' o known (exact known).0 (exact known).1 in
          record {
            front = w.front ++ a.front;
            consumed = Consumes-trans bytes left left' w.front a.front w.consumed a.consumed;
            further = λ n.
                let long : length w.front + (length a.front + n) ≡ length (w.front ++ a.front) + n = omega (arith, length-append w.front a.front) in
                a.further n ∙ w.further (length a.front + n) ∙ ap (place_after 0) long;
            comes = λ rest finding comes.
                let C : Finding → Type 0 = λ f. IsChecked d ((w.front ++ a.front) ++ rest) f in
                let B : List ℕ → Type 0 = λ l. IsChecked d l (all_refused rs (before o.refused finding)) in
                let more = next_comes s t (Some (a.front ++ rest)) (Some rest) o finding so_far.starts font (a.again rest) comes in
                subst C (refused_so_far rs rs' o.refused finding listed)
                (subst B (sym (append_assoc w.front a.front rest)) (w.comes (a.front ++ rest) (before o.refused finding) more));
          };
    }

-- the last call
pub checked_all : (d : FontData) (bytes : Option (List ℕ)) (s t : Standing) (left left' : Option (List ℕ)) (rs : List Refused) (answer : Option Outcome) → answer ≡ None
    → IsCheckedSoFar d bytes s left rs → (IsTold left → IsTold left' × AnswersNext s left answer t left') → IsTold bytes → IsChecked d (bytes_in bytes) (Ok rs)
checked_all d bytes s t left left' rs answer is so_far answers told =
    let A : Option Outcome → Type 0 = λ a. IsTold left → IsTold left' × AnswersNext s left a t left' in
    let exact = subst A is answers in
    let C : List Refused → Type 0 = λ l. IsChecked d (bytes_in bytes) (Ok l) in
    subst C (append-nil rs) (so_far.comes told (Ok []) (none_comes s t left left' so_far.starts (exact (so_far.told told)).1))

pub checked_fault : (d : FontData) (bytes : Option (List ℕ)) (s : Standing) (left : Option (List ℕ)) (rs : List Refused) (place : ℕ) → IsCheckedSoFar d bytes s left rs → IsTold bytes
    → IsNextFault s left place → IsChecked d (bytes_in bytes) (Err place)
checked_fault d bytes s left rs place so_far told fault = so_far.comes told (Err place) (fault_comes s left place so_far.starts fault)

pub all_checked_good : (d : FontData) (bytes : Option (List ℕ)) (s t : Standing) (left : Option (List ℕ)) (rs : List Refused) (answer : Option Outcome) → answer ≡ None
    → IsCheckedSoFar d bytes s left rs → IsSoundAnswer s.font s.stage answer t.stage → rs ≡ [] → HasGoodFamilies d
all_checked_good d bytes s t left rs answer is so_far sound empty =
    let S : Option Outcome → Type 0 = λ a. IsSoundAnswer s.font s.stage a t.stage in
    let last = subst S is sound in
    subst HasGoodFamilies so_far.font (all_good s.font s.stage last.0 (so_far.good empty))

-- a read failed: what was read is refused nowhere but at its end

nothing_left : (d : FontData) (s : Stage) (i : Input) → IsLast d s → i.bytes ≡ [] → IsNothingLeft d i s
nothing_left d s i none_is_left empty = already_over
nothing_left d s i (last_glyph f p known id last) empty = all_read f p known id last empty

unbroken : (d : FontData) (bytes : Option (List ℕ)) (s : Standing) (left : Option (List ℕ)) (rs : List Refused) (front : List ℕ) → (s.read ≡ None → s.stage ≡ at_start)
    → (w : IsReadSoFar d bytes s left rs) → EndsInCall s front → IsUnbroken d (w.front ++ front)
unbroken d bytes s left rs front starts w (cut.in_header none at) =
    let p = place_after 0 (length front) in
    let there : p ≡ place_after 0 (length (w.front ++ front)) =
    ap (λ (r : Option (Form × ℕ)). place_after (place_so_far r) (length front)) (sym none) ∙ w.further (length front) ∙ ap (place_after 0) (sym (length-append w.front front)) in
    record { finding = Err p; is_checked = w.comes front (Err p) (fault_comes s (Some front) p starts (in_header p none (no_header_read p at))); at_end = there }
unbroken d bytes s left rs front starts w (in_sections form from reads (in_section fault)) =
    let p = place_after from.place (length from.bytes) in
    let there : p ≡ place_after 0 (length (w.front ++ front)) =
    ends_there s front form from reads ∙ w.further (length front) ∙ ap (place_after 0) (sym (length-append w.front front)) in
    record { finding = Err p; is_checked = w.comes front (Err p) (comes_on s (Some front) form from (Err p) starts reads (fails_at s.stage from p fault)); at_end = there }
unbroken d bytes s left rs front starts w (in_sections form from reads (after_all last empty)) = record {
  finding = all_refused rs (Ok []);
  is_checked = w.comes front (Ok []) (comes_on s (Some front) form from (Ok []) starts reads (comes_to_end s.stage from (nothing_left s.font s.stage from last empty)));
  at_end = tt;
}

pub read_failed : (d : FontData) (bytes : Option (List ℕ)) (s : Standing) (left new : Option (List ℕ)) (rs : List Refused) (e : AnswerFault) → IsCheckedSoFar d bytes s left rs
    → HasRead left new (EndsInCall s) e → HasRead bytes new (IsUnbroken d) e
read_failed d bytes s left new rs (fault.Form place) so_far has = tt
read_failed d bytes s left new rs (fault.Font font) so_far has = tt
read_failed d bytes s left new rs fault.Write so_far has = tt
read_failed d bytes s left new rs (fault.Print failed) so_far has = tt
read_failed d bytes s left new rs (fault.Exhausted by) so_far has = tt
read_failed d bytes s left new rs fault.Read so_far has = λ told.
    let w = so_far.so_far told in
    let (front, consumed, ends) = has (so_far.told told) in
    (w.front ++ front, Consumes-trans bytes left new w.front front w.consumed consumed, unbroken d bytes s left rs front so_far.starts w ends)
