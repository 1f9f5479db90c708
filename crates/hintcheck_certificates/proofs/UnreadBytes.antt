-- What the calls of a session leave of a certificate's bytes, one after the other.
use Rattle.std.proofs.Common.{◌≡◌, ℕ, ◌+◌, List, [], ◌∷◌, ◌++◌, length, Option, Some, None, Ok, refl, sym, ◌∙◌, ap, subst}
use Rattle.tt_code.specs.Cut.{Instruction}
use Rattle.tt_cert.specs.Answers.{input_at}
use Rattle.tt_cert.specs.declared.form.Form.{Form}
use Rattle.tt_setting.specs.declared.name.Name.{Name}
use Rattle.tt_setting.specs.declared.name.Name.TheVariants as name
use Rattle.tt_cert.specs.Readers.{Input}
use Rattle.tt_cert.specs.Reading.{header_at}
use Rattle.tt_family.specs.Contents.{Contents}
use Rattle.tt_font.specs.Reading.{FontData}
use Rattle.tt_stream.specs.Reads.{ConsumesBeginning}
use Rattle.hintcheck_certificates.specs.Certificates.{IsSectionOf, after_header}
use Rattle.hintcheck_certificates.specs.CheckedFonts.{FollowsCvt, FollowsFont, IsLeftAfter, IsLeftBy, IsTold, bytes_in}
use Rattle.hintcheck_programs.specs.Representation.FontVerdicts.{ListsOutcome}
use Rattle.hintcheck_certificates.specs.Sessions.{AnswersNext, IsNothingLeft, IsOutcomeBySection, ReadsOn, Standing, all_read, already_over, at_header, cvt_fails, cvt_passes, font_fails, font_passes, glyph_fails, glyph_passes, new_standing, where_it_was}
use Rattle.hintcheck_programs.specs.Stages.{Stage, after_font, at_glyph, at_start, over}
use Rattle.hintcheck_report.specs.declared.refused.Refused.{Refused}
use Rattle.hintcheck_programs.specs.declared.report.Outcome.{Outcome}

-- the first of the refused programs, if there is one, is a glyph's
abbrev pub BeginsWithGlyph : List Refused → Type 0
BeginsWithGlyph [] = Unit {0}
BeginsWithGlyph (r ∷ rs) = (id : ℕ) × (r.program ≡ name.Glyph id)

-- how far these bytes are read at a stage, where these programs are refused
pub data IsReadTo (bytes : List ℕ) : Stage → Option (Form × ℕ) → Option (List ℕ) → List Refused → Type 0 where
  unread : IsReadTo bytes at_start None (Some bytes) []
  past_font : (f : List Instruction) (functions : List (ℕ × ℕ)) (form : Form) (after : Input) → FollowsFont bytes form after
      → IsReadTo bytes (after_font f functions) (Some (form, after.place)) (Some after.bytes) []
  past_cvt : (f p : List Instruction) (known : List (ℕ × ℕ)) (id : ℕ) (read : Form × ℕ) (left : List ℕ) (rs : List Refused) → BeginsWithGlyph rs
      → IsReadTo bytes (at_glyph f p known id) (Some read) (Some left) rs
  ended : (read : Option (Form × ℕ)) (left : Option (List ℕ)) (rs : List Refused) → IsLeftBy bytes rs left → IsReadTo bytes over read left rs

-- where a session reads on

reads_first : (s : Standing) (known : Option (List ℕ)) (form : Form) (from : Input) → s.read ≡ None → ReadsOn s known form from
    → (i : Input) × (header_at (input_at 0 known) ≡ Ok ((form, length s.font.glyphs + 2), i)) × (from ≡ after_header i.bytes)
reads_first s known form from none (where_it_was form1 place is) = absurd cc
reads_first s known form from none (at_header form1 i none1 header) = (i, header, refl)

reads_there : (s : Standing) (known : Option (List ℕ)) (form : Form) (from : Input) (read : Form × ℕ) → s.read ≡ Some read → ReadsOn s known form from
    → (form ≡ read.0) × (from ≡ input_at read.1 known)
reads_there s known form from read there (where_it_was form1 place is) =
    let same : (form, place) ≡ read = cc in
    (ap (λ (p : Form × ℕ). p.0) same, ap (λ (p : Form × ℕ). input_at p.1 known) same)
reads_there s known form from read there (at_header form1 i none header) = absurd cc

follows_font : (s : Standing) (bytes : List ℕ) (form : Form) (from after : Input) (family : Contents) → s.read ≡ None → ReadsOn s (Some bytes) form from
    → IsSectionOf form from name.Font family after → FollowsFont bytes form after
follows_font s bytes form from after family none reads section =
    let (i, header, at) = reads_first s (Some bytes) form from none reads in
    let S : Input → Type 0 = λ x. IsSectionOf form x name.Font family after in
    record { sections = length s.font.glyphs + 2; header = i; header_is = header; family = family; section = subst S at section }

follows_cvt : (s : Standing) (bytes : List ℕ) (form form0 : Form) (from after first : Input) (family : Contents) → s.read ≡ Some (form0, first.place)
    → ReadsOn s (Some first.bytes) form from → FollowsFont bytes form0 first → IsSectionOf form from name.Cvt family after → FollowsCvt bytes form after
follows_cvt s bytes form form0 from after first family there reads follows section =
    let (same, at) = reads_there s (Some first.bytes) form from (form0, first.place) there reads in
    let F : Form → Type 0 = λ x. FollowsFont bytes x first in
    let I : Input → Type 0 = λ x. FollowsFont bytes form x in
    let here : first ≡ from = sym at in
    record { from = from; font = subst I here (subst F (sym same) follows); family = family; section = section }

begins_so : (rs : List Refused) (r : Refused) (id : ℕ) → BeginsWithGlyph rs → r.program ≡ name.Glyph id → BeginsWithGlyph (rs ++ r ∷ [])
begins_so [] r id begins is = (id, is)
begins_so (x ∷ xs) r id begins is = begins

-- one call more

reads_on : (s : Standing) (bytes : List ℕ) (stage stage' : Stage) (read : Option (Form × ℕ)) (left : Option (List ℕ)) (left' : List ℕ) (rs rs' : List Refused) (form : Form) (from : Input)
    (place : ℕ) (o : Outcome) → s.read ≡ read → IsReadTo bytes stage read left rs → ReadsOn s left form from
    → IsOutcomeBySection s.font form from (input_at place (Some left')) stage o stage' → ListsOutcome rs o.refused rs' → IsReadTo bytes stage' (Some (form, place)) (Some left') rs'
reads_on s bytes stage stage' read left left' rs rs' form from place o is unread reads (font_passes family f functions section passes) listed =
    let after : Input = input_at place (Some left') in
    let R : List Refused → Type 0 = λ l. IsReadTo bytes (after_font f functions) (Some (form, place)) (Some left') l in
    subst R (sym listed) (past_font f functions form after (follows_font s bytes form from after family is reads section))
reads_on s bytes stage stage' read left left' rs rs' form from place o is unread reads (font_fails family r section why) listed =
    let after : Input = input_at place (Some left') in
    let R : List Refused → Type 0 = λ l. IsReadTo bytes over (Some (form, place)) (Some left') l in
    let A : Name → Type 0 = λ n. IsLeftAfter bytes n (Some left') in
    subst R (sym listed) (ended (Some (form, place)) (Some left') (r ∷ []) (subst A (sym why.program) (form, after, follows_font s bytes form from after family is reads section, refl)))
reads_on s bytes stage stage' read left left' rs rs' form from place o is (past_font f functions form0 first follows) reads (cvt_passes f1 p functions1 known family section passes) listed =
    let R : List Refused → Type 0 = λ l. IsReadTo bytes (at_glyph f p known 0) (Some (form, place)) (Some left') l in
    subst R (sym listed) (past_cvt f p known 0 (form, place) left' [] tt)
reads_on s bytes stage stage' read left left' rs rs' form from place o is (past_font f functions form0 first follows) reads (cvt_fails f1 functions1 family r section why) listed =
    let after : Input = input_at place (Some left') in
    let R : List Refused → Type 0 = λ l. IsReadTo bytes over (Some (form, place)) (Some left') l in
    let A : Name → Type 0 = λ n. IsLeftAfter bytes n (Some left') in
    let cvt = follows_cvt s bytes form form0 from after first family is reads follows section in
    subst R (sym listed) (ended (Some (form, place)) (Some left') (r ∷ []) (subst A (sym why.program) (form, after, cvt, refl)))
reads_on s bytes stage stage' read left left' rs rs' form from place o is (past_cvt f p known id was old rs1 begins) reads (glyph_passes f1 p1 known1 id1 g family instructions there section passes) listed =
    let R : List Refused → Type 0 = λ l. IsReadTo bytes (at_glyph f p known (id + 1)) (Some (form, place)) (Some left') l in
    subst R (sym listed) (past_cvt f p known (id + 1) (form, place) left' rs begins)
reads_on s bytes stage stage' read left left' rs rs' form from place o is (past_cvt f p known id was old rs1 begins) reads (glyph_fails f1 p1 known1 id1 g family r there section why) listed =
    let R : List Refused → Type 0 = λ l. IsReadTo bytes (at_glyph f p known (id + 1)) (Some (form, place)) (Some left') l in
    subst R (sym listed) (past_cvt f p known (id + 1) (form, place) left' (rs ++ r ∷ []) (begins_so rs r id begins why.program))
reads_on s bytes _ stage' read left left' rs rs' form from place o is (ended _ _ _ _) reads answers listed = elim answers [ ]

-- the last call

none_of_none : (bs ys : List ℕ) → [] ≡ bs ++ ys → ys ≡ []
none_of_none [] ys same = sym same
none_of_none (b ∷ bs) ys same = absurd cc

nothing_follows : (xs : List ℕ) (left' : Option (List ℕ)) → xs ≡ [] → ConsumesBeginning (Some xs) left' → left' ≡ Some []
nothing_follows xs None empty read = absurd read.consumed
nothing_follows xs (Some ys) empty read = ap (λ (l : List ℕ). Some l) (none_of_none read.bytes ys (sym empty ∙ read.consumed))

left_by_none : (bytes : List ℕ) (rs : List Refused) → BeginsWithGlyph rs → IsLeftBy bytes rs (Some [])
left_by_none bytes [] begins = refl
left_by_none bytes (r ∷ rs) (id, is) = let A : Name → Type 0 = λ n. IsLeftAfter bytes n (Some []) in subst A (sym is) refl

reads_last : (s : Standing) (bytes : List ℕ) (stage : Stage) (read : Option (Form × ℕ)) (left left' : Option (List ℕ)) (rs : List Refused) (form : Form) (from : Input) → s.read ≡ read
    → IsReadTo bytes stage read left rs → ReadsOn s left form from → IsNothingLeft s.font from stage → (stage ≡ over → left' ≡ left) → ConsumesBeginning left left' → IsLeftBy bytes rs left'
reads_last s bytes stage read left left' rs form from is (ended read1 left1 rs1 by) reads already_over stays consumed =
    let L : Option (List ℕ) → Type 0 = λ l. IsLeftBy bytes rs l in subst L (sym (stays refl)) by
reads_last s bytes stage read left left' rs form from is (past_cvt f p known id was old rs1 begins) reads (all_read f1 p1 known1 id1 last empty) stays consumed =
    let (same, at) = reads_there s (Some old) form from was is reads in
    let none : old ≡ [] = sym (ap (λ (i : Input). i.bytes) at) ∙ empty in
    let L : Option (List ℕ) → Type 0 = λ l. IsLeftBy bytes rs l in
    subst L (sym (nothing_follows old left' none consumed)) (left_by_none bytes rs begins)
reads_last s bytes _ _ _ left' _ form from is unread reads last stays consumed = elim last [ ]
reads_last s bytes _ _ _ left' _ form from is (past_font f functions _ after _) reads last stays consumed = elim last [ ]

-- the same of a session and its answers

abbrev pub IsUnreadSoFar : Option (List ℕ) → Standing → Option (List ℕ) → List Refused → Type 0
IsUnreadSoFar bytes s left rs = IsTold bytes → IsReadTo (bytes_in bytes) s.stage s.read left rs

pub all_unread : (d : FontData) (bytes : Option (List ℕ)) (s : Standing) (rs : List Refused) → s ≡ new_standing d → rs ≡ [] → IsUnreadSoFar bytes s bytes rs
all_unread d None s rs is none told = absurd cc
all_unread d (Some xs) s rs is none told =
    let S : Standing → Type 0 = λ t. IsReadTo xs t.stage t.read (Some xs) rs in
    let R : List Refused → Type 0 = λ l. IsReadTo xs at_start None (Some xs) l in
    subst S (sym is) (subst R (sym none) unread)

pub unread_next : (bytes left left' : Option (List ℕ)) (s t : Standing) (rs rs' : List Refused) (answer : Option Outcome) (o : Outcome) → answer ≡ Some o → IsUnreadSoFar bytes s left rs
    → (IsTold bytes → IsTold left' × AnswersNext s left answer t left') → ListsOutcome rs o.refused rs' → IsUnreadSoFar bytes t left' rs'
unread_next bytes left None s t rs rs' answer o is so_far answers listed told = let none = (answers told).0 in absurd cc
unread_next bytes left (Some ys) s t rs rs' answer o is so_far answers listed told =
    let A : Option Outcome → Type 0 = λ a. AnswersNext s left a t (Some ys) in
    let next = subst A is (answers told).1 in
    let R : Option (Form × ℕ) → Type 0 = λ r. IsReadTo (bytes_in bytes) t.stage r (Some ys) rs' in
    subst R (sym next.read_is) (reads_on s (bytes_in bytes) s.stage t.stage s.read left ys rs rs' next.form next.from next.place o refl (so_far told) next.reads_on next.answers listed)

pub unread_last : (bytes left left' : Option (List ℕ)) (s t : Standing) (rs : List Refused) (answer : Option Outcome) → answer ≡ None → IsUnreadSoFar bytes s left rs
    → (IsTold bytes → IsTold left' × AnswersNext s left answer t left') → (s.stage ≡ over → left' ≡ left) → ConsumesBeginning left left' → IsTold bytes → IsLeftBy (bytes_in bytes) rs left'
unread_last bytes left left' s t rs answer is so_far answers stays consumed told =
    let A : Option Outcome → Type 0 = λ a. AnswersNext s left a t left' in
    let last = subst A is (answers told).1 in
    reads_last s (bytes_in bytes) s.stage s.read left left' rs last.form last.from refl (so_far told) last.reads_on last.answers.0 stays consumed
