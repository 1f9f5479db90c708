-- The verdict on a font's programs, as they are judged one by one.
use Rattle.std.proofs.Common.{◌≡◌, ◌⊎◌, inl, inr, ℕ, zero, suc, ◌+◌, List, [], ◌∷◌, ◌++◌, Option, Some, None, drop, refl, sym, ◌∙◌, ap, subst, append_assoc, append-nil, arith}
use Rattle.std.specs.Prelude.{option_map, slice_get}
use Rattle.tt_code.specs.Cut.{Instruction}
use Rattle.tt_setting.specs.Entries.{Ascends}
use Rattle.tt_font.specs.Reading.{FontData, GlyphData}
use Rattle.hintcheck_programs.specs.FontPrograms.{AreRefused, IsVerdict, accepted, cvt_refused, cvt_subject, font_of, font_refused, glyph_subject, judgement_on, no_glyph_left, none_ended, refused}
use Rattle.hintcheck_programs.specs.Programs.{EndsWith, IsRefusal}
use Rattle.hintcheck_programs.specs.Representation.FontVerdicts.{AreAllRefused, KeepsKnown, ListsOutcome}
use Rattle.hintcheck_programs.specs.Representation.Judges.{AnswersFinding, AreWithin, IsOutcomeOf}
use Rattle.hintcheck_programs.specs.Representation.ProgramOrder.{CanGoOn, cvt_done, cvt_stops, font_done, font_stops, glyph_done, glyph_stops, next_program}
use Rattle.hintcheck_programs.specs.Stages.{Stage, after_font, at_glyph, at_start, over}
use Rattle.hintcheck_programs.specs.declared.finding.Finding.{Finding}
use Rattle.hintcheck_report.specs.declared.refused.Refused.{Refused}
use Rattle.hintcheck_programs.specs.declared.report.Outcome.{Outcome}
use Rattle.hintcheck_programs.proofs.ProgramSteps.{dropped}
use Rattle.std.proofs.lemmas.Option.{slice_get_within}

-- what the next program starts with is what a judge asks for

pub known_can_go_on : (d : FontData) (s : Stage) → KeepsKnown d s → CanGoOn (λ fs. Ascends fs × AreWithin d.limits fs) s
known_can_go_on d at_start kept = (tt, λ n body e. absurd cc)
known_can_go_on d (after_font f functions) kept = (kept.ascends, kept.fits)
known_can_go_on d (at_glyph f p known id) kept = let ((functions, font, cvt), le) = kept in (cvt.ascends, cvt.fits)
known_can_go_on d over kept = tt

-- These are the refused ones of the programs from a stage on.
abbrev pub AreRefusedFrom : FontData → Stage → List Refused → Type 0
AreRefusedFrom d at_start rs = IsVerdict d (judgement_on d rs)
AreRefusedFrom d (after_font f functions) rs =
    ((p : List Instruction) × (known : List (ℕ × ℕ)) × EndsWith (cvt_subject d f functions) p known × AreRefused (font_of d f p) known 0 d.glyphs rs)
    ⊎ ((r : Refused) × IsRefusal (cvt_subject d f functions) r × (rs ≡ r ∷ []))
AreRefusedFrom d (at_glyph f p known id) rs = AreRefused (font_of d f p) known id (drop id d.glyphs) rs
AreRefusedFrom d over rs = rs ≡ []

-- a program's refusal, if it is refused, before the others
abbrev pub refused_first : Option Refused → List Refused → List Refused
refused_first None others = others
refused_first (Some r) others = r ∷ others

refused_from : (d : FontData) (j : Finding) (s t : Stage) (o : Outcome) (others : List Refused) → IsOutcomeOf d j s o t → AreRefusedFrom d t others
    → AreRefusedFrom d s (refused_first o.refused others)
refused_from d j s t o others (font_done f functions ends) (inl (p, known, cvt, glyphs)) = none_ended f p functions known others ends.known.ends cvt glyphs
refused_from d j s t o others (font_done f functions ends) (inr (r, is, same)) =
    let V : List Refused → Type 0 = λ rs. IsVerdict d (judgement_on d rs) in
    subst V (sym same) (cvt_refused f functions r ends.known.ends is)
refused_from d j s t o others (font_stops r is) none =
    let V : List Refused → Type 0 = λ rs. IsVerdict d (judgement_on d (r ∷ rs)) in
    subst V (sym none) (font_refused r is.refusal)
refused_from d j s t o others (cvt_done f p start known ends) glyphs = inl (p, known, ends.known.ends, glyphs)
refused_from d j s t o others (cvt_stops f start r is) none = inr (r, is.refusal, ap (λ (rs : List Refused). r ∷ rs) none)
refused_from d j s t o others (glyph_done f p known id g is there accepts) rest =
    let R : List GlyphData → Type 0 = λ gs. AreRefused (font_of d f p) known id gs others in
    subst R (sym (dropped d.glyphs id g there)) (accepted id g (drop (id + 1) d.glyphs) others accepts.least rest)
refused_from d j s t o others (glyph_stops f p known id g r there is) rest =
    let R : List GlyphData → Type 0 = λ gs. AreRefused (font_of d f p) known id gs (r ∷ others) in
    subst R (sym (dropped d.glyphs id g there)) (refused id g (drop (id + 1) d.glyphs) r others is.refusal rest)

-- With these refused ones so far, those from a stage on complete the verdict.
abbrev pub AreRefusedTill : FontData → Stage → List Refused → Type 0
AreRefusedTill d s rs = (others : List Refused) → AreRefusedFrom d s others → AreAllRefused d (rs ++ others)

pub listed_first : (rs rs' : List Refused) (o : Option Refused) (others : List Refused) → ListsOutcome rs o rs' → rs ++ refused_first o others ≡ rs' ++ others
listed_first rs rs' None others same = ap (λ (l : List Refused). l ++ others) (sym same)
listed_first rs rs' (Some r) others same = sym (append_assoc rs (r ∷ []) others) ∙ ap (λ (l : List Refused). l ++ others) (sym same)

pub refused_till : (d : FontData) (j : Finding) (s t : Stage) (answer : Option Outcome) (o : Outcome) (rs rs' : List Refused) → answer ≡ Some o → AnswersFinding d j s answer t
    → ListsOutcome rs o.refused rs' → AreRefusedTill d s rs → AreRefusedTill d t rs'
refused_till d j s t answer o rs rs' is answers listed till = λ others from.
    let A : Option Outcome → Type 0 = λ a. AnswersFinding d j s a t in
    let V : List Refused → Type 0 = λ l. AreAllRefused d l in
    subst V (listed_first rs rs' o.refused others listed) (till (refused_first o.refused others) (refused_from d j s t o others (subst A is answers) from))

pub none_refused_yet : (d : FontData) (s : Stage) (rs : List Refused) → s ≡ at_start → rs ≡ [] → KeepsKnown d s × AreRefusedTill d s rs
none_refused_yet d s rs start none =
    let S : Stage → Type 0 = λ t. KeepsKnown d t × AreRefusedTill d t rs in
    let R : List Refused → Type 0 = λ l. AreRefusedTill d at_start l in
    subst S (sym start) (tt, subst R (sym none) (λ others from. from))

-- where none is left, these are all

pub none_dropped : {Y : Type 0} (f : GlyphData → Y) (gs : List GlyphData) (id : ℕ) → option_map f (slice_get gs id) ≡ None → drop id gs ≡ []
none_dropped f [] zero none = refl
none_dropped f [] (suc id) none = refl
none_dropped f (g ∷ gs) zero none = absurd cc
none_dropped f (g ∷ gs) (suc id) none = none_dropped f gs id none

none_from : (d : FontData) (s : Stage) → next_program d s ≡ None → AreRefusedFrom d s []
none_from d at_start none = absurd cc
none_from d (after_font f functions) none = absurd cc
none_from d (at_glyph f p known id) none =
    let R : List GlyphData → Type 0 = λ gs. AreRefused (font_of d f p) known id gs [] in
    subst R (sym (none_dropped (λ g. glyph_subject (font_of d f p) [] id g) d.glyphs id none)) (no_glyph_left id)
none_from d over none = refl

pub all_refused_till : (d : FontData) (j : Finding) (s t : Stage) (answer : Option Outcome) (rs : List Refused) → answer ≡ None → AnswersFinding d j s answer t → AreRefusedTill d s rs
    → AreAllRefused d rs
all_refused_till d j s t answer rs is answers till =
    let A : Option Outcome → Type 0 = λ a. AnswersFinding d j s a t in
    let V : List Refused → Type 0 = λ l. AreAllRefused d l in
    subst V (append-nil rs) (till [] (none_from d s (subst A is answers).0))

-- what is kept

pub known_on : (d : FontData) (j : Finding) (s t : Stage) (o : Outcome) → IsOutcomeOf d j s o t → KeepsKnown d s → KeepsKnown d t
known_on d j s t o (font_done f known ends) kept = ends.known
known_on d j s t o (font_stops r is) kept = tt
known_on d j s t o (cvt_done f p start known ends) kept = ((start, kept, ends.known), omega arith)
known_on d j s t o (cvt_stops f start r is) kept = tt
known_on d j s t o (glyph_done f p known id g is there accepts) kept = (kept.0, let lt = slice_get_within d.glyphs id g there in omega arith)
known_on d j s t o (glyph_stops f p known id g r there is) kept = (kept.0, let lt = slice_get_within d.glyphs id g there in omega arith)

pub stays_known : (d : FontData) (j : Finding) (s t : Stage) (answer : Option Outcome) → AnswersFinding d j s answer t → KeepsKnown d s → KeepsKnown d t
stays_known d j s t (Some o) is kept = known_on d j s t o is kept
stays_known d j s t None is kept = let K : Stage → Type 0 = λ x. KeepsKnown d x in subst K (sym is.1) tt
