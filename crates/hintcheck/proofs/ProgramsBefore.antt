-- The programs on which one of a font depends, as they are judged one by one.
use Rattle.std.proofs.Common.{◌≡◌, ℕ, ◌<◌, List, [], Option, Some, None, true, refl, sym, ◌∙◌, ap, subst, arith}
use Rattle.std.specs.Prelude.{is_some, option_map, slice_get}
use Rattle.std.proofs.lemmas.Option.{slice_get_within}
use Rattle.tt_code.specs.Cut.{Instruction}
use Rattle.tt_font.specs.Reading.{FontData, GlyphData}
use Rattle.hintcheck.specs.Explanations.{IsRefusedIn}
use Rattle.hintcheck.specs.Explanations as told
use Rattle.hintcheck.specs.Listing.{program_in}
use Rattle.hintcheck_programs.specs.FontPrograms.{cvt_subject, font_of, font_subject, glyph_subject}
use Rattle.hintcheck_programs.specs.Representation.Judges.{AnswersFinding, IsOutcomeOf}
use Rattle.hintcheck_programs.specs.Representation.ProgramOrder.{IsOfKindNext, cvt_done, cvt_stops, font_done, font_stops, glyph_done, glyph_stops, skipped_to}
use Rattle.hintcheck_programs.specs.Representation.FontVerdicts.{IsAt, KeepsKnown}
use Rattle.hintcheck_programs.specs.Stages.{Stage, after_font, at_glyph, at_start, over}
use Rattle.hintcheck_programs.specs.declared.finding.Finding.{Finding}
use Rattle.hintcheck_report.specs.declared.refused.Refused.{Refused}
use Rattle.hintcheck_programs.specs.declared.report.Outcome.{Outcome}
use Rattle.tt_setting.specs.declared.name.Name.{Name}
use Rattle.tt_setting.specs.declared.name.Name.TheVariants as name
use Rattle.hintcheck_programs.proofs.ProgramSteps.{calls_left, fewer_left}

-- no later one than that of this name is next
abbrev pub IsOnWay : Name → Stage → Type 0
IsOnWay called at_start = Unit {0}
IsOnWay called (after_font f functions) = called ≡ name.Font → ⊥
IsOnWay called (at_glyph f p known id) = (called ≡ name.Font → ⊥) × (called ≡ name.Cvt → ⊥)
IsOnWay called over = ⊥

on_way : (d : FontData) (j : Finding) (called : Name) (s t : Stage) (o : Outcome) → IsOutcomeOf d j s o t → (IsOfKindNext called s → ⊥) → IsOnWay called s → o.refused ≡ None → IsOnWay called t
on_way d j called s t o (font_done f known ends) other way none = λ same. other (let K : Name → Type 0 = λ n. IsOfKindNext {K = ℕ × ℕ} n at_start in subst K (sym same) tt)
on_way d j called s t o (font_stops r is) other way none = cc
on_way d j called s t o (cvt_done f p start known ends) other way none = (way, λ same. other (let K : Name → Type 0 = λ n. IsOfKindNext {K = ℕ × ℕ} n (after_font f start) in subst K (sym same) tt))
on_way d j called s t o (cvt_stops f start r is) other way none = cc
on_way d j called s t o (glyph_done f p known id g is there accepts) other way none = way
on_way d j called s t o (glyph_stops f p known id g r there is) other way none = way

no_glyph_before : (called : Name) (f p : List Instruction) (known : List (ℕ × ℕ)) (id : ℕ) → (IsOfKindNext called (at_glyph f p known id) → ⊥) → IsOnWay called (at_glyph f p known id) → ⊥
no_glyph_before name.Font f p known id other way = way.0 refl
no_glyph_before name.Cvt f p known id other way = way.1 refl
no_glyph_before (name.Glyph n) f p known id other way = other tt

-- a refused one is before the one of this name
pub refused_on_way : (d : FontData) (j : Finding) (called : Name) (s t : Stage) (o : Outcome) (r : Refused) → IsOutcomeOf d j s o t → (IsOfKindNext called s → ⊥) → IsOnWay called s → KeepsKnown d s
    → o.refused ≡ Some r → IsRefusedIn d called r
refused_on_way d j called s t o r (font_done f known ends) other way kept is = absurd cc
refused_on_way d j called s t o r (font_stops r' is') other way kept is = subst (IsRefusedIn d called) (let same : r' ≡ r = cc in same) (told.font_refused called r' is'.refusal)
refused_on_way d j called s t o r (cvt_done f p start known ends) other way kept is = absurd cc
refused_on_way d j called s t o r (cvt_stops f start r' is') other way kept is = subst (IsRefusedIn d called) (let same : r' ≡ r = cc in same) (told.cvt_refused called f start r' way kept.ends is'.refusal)
refused_on_way d j called s t o r (glyph_done f p known id g is' there accepts) other way kept is = absurd cc
refused_on_way d j called s t o r (glyph_stops f p known id g r' there is') other way kept is = absurd (no_glyph_before called f p known id other way)

pub refused_answer : (d : FontData) (j : Finding) (called : Name) (s t : Stage) (answer : Option Outcome) (by : Option Refused) (r : Refused) → AnswersFinding d j s answer t
    → (answer ≡ None → by ≡ None) → ((o : Outcome) → answer ≡ Some o → by ≡ o.refused) → by ≡ Some r → (IsOfKindNext called s → ⊥) → IsOnWay called s → KeepsKnown d s → IsRefusedIn d called r
refused_answer d j called s t (Some o) by r answers none some is other way kept = refused_on_way d j called s t o r answers other way kept (sym (some o refl) ∙ is)
refused_answer d j called s t None by r answers none some is other way kept = absurd (let no = none refl in cc)

-- one more program on the way

pub still_on_way : (d : FontData) (j : Finding) (called : Name) (s t : Stage) (answer : Option Outcome) → AnswersFinding d j s answer t → (IsOfKindNext called s → ⊥) → IsOnWay called s
    → ((o : Outcome) → answer ≡ Some o → o.refused ≡ None) → IsOnWay called t
still_on_way d j called s t (Some o) answers other way none = on_way d j called s t o answers other way (none o refl)
still_on_way d j called at_start t None answers other way none = absurd (let no = answers.0 in cc)
still_on_way d j called (after_font f functions) t None answers other way none = absurd (let no = answers.0 in cc)
still_on_way d j called (at_glyph f p known id) t None answers other way none = absurd (no_glyph_before called f p known id other way)
still_on_way d j called over t None answers other way none = absurd way

pub fewer_on_way : (d : FontData) (j : Finding) (called : Name) (s t : Stage) (answer : Option Outcome) → AnswersFinding d j s answer t → (IsOfKindNext called s → ⊥) → IsOnWay called s
    → calls_left d t < calls_left d s
fewer_on_way d j called s t (Some o) answers other way = fewer_left d _ _ _ s t o answers
fewer_on_way d j called at_start t None answers other way = absurd (let no = answers.0 in cc)
fewer_on_way d j called (after_font f functions) t None answers other way = absurd (let no = answers.0 in cc)
fewer_on_way d j called (at_glyph f p known id) t None answers other way = absurd (no_glyph_before called f p known id other way)
fewer_on_way d j called over t None answers other way = absurd way

-- the one of this name is then next
pub at_named : (d : FontData) (called : Name) (s : Stage) → is_some (program_in d called) ≡ true → IsOfKindNext called s → KeepsKnown d s → IsAt d called (skipped_to called s)
at_named d name.Font at_start there here kept = (font_subject d, refl, refl, tt)
at_named d name.Font (after_font f functions) there here kept = absurd here
at_named d name.Font (at_glyph f p known id) there here kept = absurd here
at_named d name.Font over there here kept = absurd here
at_named d name.Cvt at_start there here kept = absurd here
at_named d name.Cvt (after_font f functions) there here kept = (cvt_subject d f [], refl, refl, kept)
at_named d name.Cvt (at_glyph f p known id) there here kept = absurd here
at_named d name.Cvt over there here kept = absurd here
at_named d (name.Glyph n) at_start there here kept = absurd here
at_named d (name.Glyph n) (after_font f functions) there here kept = absurd here
at_named d (name.Glyph n) (at_glyph f p known id) there here kept = go (slice_get d.glyphs n) refl there
  where
    go : (o : Option GlyphData) → slice_get d.glyphs n ≡ o → is_some (option_map (λ (g : GlyphData). g.program) o) ≡ true → IsAt d (name.Glyph n) (at_glyph f p known n)
    go None e there = absurd cc
    go (Some g) e there = (
      glyph_subject (font_of d f p) [] n g,
      ap (option_map (λ (h : GlyphData). glyph_subject (font_of d f p) [] n h)) e,
      refl,
      (kept.0, let lt = slice_get_within d.glyphs n g e in omega arith),
    )
at_named d (name.Glyph n) over there here kept = absurd here
