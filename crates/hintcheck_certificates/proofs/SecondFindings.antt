-- Where no program of a font was refused as they were found first, none is as they are found once more.
use Rattle.std.proofs.Common.{◌≡◌, true, ℕ, zero, suc, ◌+◌, arith, List, [], Option, Some, refl, sym, ◌∙◌, ap, subst}
use Rattle.std.specs.Prelude.{is_some, slice_get}
use Rattle.tt_code.specs.Cut.{Instruction, size}
use Rattle.tt_code.specs.Fonts.{Font}
use Rattle.tt_abs.specs.declared.state.State.{State}
use Rattle.tt_abs.specs.States.{state_laws, state_order}
use Rattle.tt_abs.specs.StateFlow.{Place}
use Rattle.tt_find.specs.declared.finder.Found.{Found}
use Rattle.tt_font.specs.Reading.{FontData, GlyphData}
use Rattle.hintcheck_certificates.specs.FindingSessions.{IsOutcomeByFinding, cvt_found, cvt_refused, font_found, font_refused, glyph_found, glyph_refused}
use Rattle.hintcheck_programs.specs.Representation.FontVerdicts.{AreAllRefused}
use Rattle.hintcheck_programs.specs.FontPrograms.{AreRefused, IsVerdict, accepted, no_glyph_left, cvt_subject, font_of, font_subject, glyph_subject, judgement_on, none_ended, refused}
use Rattle.hintcheck_programs.specs.FontPrograms as verdict
use Rattle.hintcheck_programs.specs.Programs.{EndsWith, HasLeastFamily, Subject}
use Rattle.hintcheck_programs.specs.Stages.{Stage, after_font, at_glyph, at_start, over}
use Rattle.hintcheck_programs.specs.Verdicts.{Judgement}
use Rattle.hintcheck_report.specs.declared.refused.Refused.{Refused}
use Rattle.hintcheck_programs.specs.declared.report.Outcome.{Outcome}
use Rattle.hintcheck_programs.proofs.FontEnds.{known_of_found}
use Rattle.hintcheck_programs.proofs.ProgramVerdictLemmas.{known_cut}

-- least families end alike

ends_there : (x : Subject) (is : List Instruction) (fs gs : List (ℕ × ℕ)) → EndsWith x is fs → EndsWith x is gs → fs ≡ gs
ends_there x is fs gs e f =
    let p : Place = ([], size is) in
    let (t, at, below) = e.least.below f.family f.good.good p e.end e.at_end in
    let (u, at', below') = f.least.below e.family e.good.good p f.end f.at_end in
    let same : t ≡ f.end = cc in
    let same' : u ≡ e.end = cc in
    let A : State → Type 0 = λ s. state_order.Below e.end s in
    let B : State → Type 0 = λ s. state_order.Below f.end s in
    let ends : e.end ≡ f.end =
    state_laws.antisymmetric e.end f.end (e.good.good.in_range p e.end e.at_end) (f.good.good.in_range p f.end f.at_end) (subst A same below) (subst B same' below') in
    sym e.functions_are ∙ ap (λ (s : State). s.functions) ends ∙ f.functions_are

end_alike : (x : Subject) (is js : List Instruction) (fs gs : List (ℕ × ℕ)) → EndsWith x is fs → EndsWith x js gs → (is ≡ js) × (fs ≡ gs)
end_alike x is js fs gs e f =
    let same : js ≡ is = known_cut x is js e.cut f.cut in
    let E : List Instruction → Type 0 = λ t. EndsWith x t gs in
    (sym same, ends_there x is fs gs e (subst E same f))

-- each program from a stage on has its least family

abbrev AreLeastGlyphs : FontData → Font → List (ℕ × ℕ) → Type 0
AreLeastGlyphs d font known = (id : ℕ) (g : GlyphData) → slice_get d.glyphs id ≡ Some g → HasLeastFamily (glyph_subject font known id g)

abbrev AreLeastAfter : FontData → List Instruction → List (ℕ × ℕ) → Type 0
AreLeastAfter d f functions = (p : List Instruction) × (known : List (ℕ × ℕ)) × EndsWith (cvt_subject d f functions) p known × AreLeastGlyphs d (font_of d f p) known

abbrev pub AreLeastFrom : FontData → Stage → Type 0
AreLeastFrom d at_start = (f : List Instruction) × (functions : List (ℕ × ℕ)) × EndsWith (font_subject d) f functions × AreLeastAfter d f functions
AreLeastFrom d (after_font f functions) = AreLeastAfter d f functions
AreLeastFrom d (at_glyph f p known id) = AreLeastGlyphs d (font_of d f p) known
AreLeastFrom d over = Unit {0}

least_of_end : (x : Subject) (is : List Instruction) (functions : List (ℕ × ℕ)) → EndsWith x is functions → HasLeastFamily x
least_of_end x is functions e = record { instructions = is; cut = e.cut; family = e.family; good = e.good; least = e.least }

-- the same where the verdict refuses none

glyphs_from : (font : Font) (known : List (ℕ × ℕ)) (n : ℕ) (gs : List GlyphData) (rs : List Refused) → AreRefused font known n gs rs → rs ≡ []
    → (k : ℕ) (g : GlyphData) → slice_get gs k ≡ Some g → HasLeastFamily (glyph_subject font known (n + k) g)
glyphs_from font known n gs rs (no_glyph_left m) e k g at = absurd cc
glyphs_from font known n gs rs (accepted m x xs qs least rest) e zero g at =
    let G : GlyphData → ℕ → Type 0 = λ y i. HasLeastFamily (glyph_subject font known i y) in
    let same : x ≡ g = cc in
    let number : n ≡ n + 0 = omega arith in
    subst (λ (i : ℕ). G g i) number (subst (λ (y : GlyphData). G y n) same least)
glyphs_from font known n gs rs (accepted m x xs qs least rest) e (suc k) g at =
    let N : ℕ → Type 0 = λ i. HasLeastFamily (glyph_subject font known i g) in
    let number : n + 1 + k ≡ n + suc k = omega arith in
    subst N number (glyphs_from font known (n + 1) xs qs rest e k g at)
glyphs_from font known n gs rs (refused m x xs r qs is rest) e k g at = absurd cc

least_from_start : (d : FontData) (v : Judgement) → IsVerdict d v → v.refused ≡ [] → AreLeastFrom d at_start
least_from_start d v (verdict.font_refused r is) e = absurd cc
least_from_start d v (verdict.cvt_refused f functions r ends is) e = absurd cc
least_from_start d v (none_ended f p functions known rs font cvt glyphs) e = (
  f,
  functions,
  font,
  (
    p,
    known,
    cvt,
    λ id g at.
        let N : ℕ → Type 0 = λ n. HasLeastFamily (glyph_subject (font_of d f p) known n g) in
        let same : 0 + id ≡ id = omega arith in
        subst N same (glyphs_from (font_of d f p) known 0 d.glyphs rs glyphs e id g at),
  ),
)

pub none_refused_at_start : (d : FontData) → AreAllRefused d [] → AreLeastFrom d at_start
none_refused_at_start d all = least_from_start d (judgement_on d []) all refl

-- and stays so

pub least_on : (d : FontData) (s t : Stage) (o : Outcome) (found : Option Found) → IsOutcomeByFinding d s o found t → AreLeastFrom d s → (is_some found ≡ true) × AreLeastFrom d t
least_on d s t o found (font_found f functions x ends) (f', functions', font, after) =
    let (cut, same) = end_alike (font_subject d) f' f functions' functions font (known_of_found (font_subject d) f x functions ends).ends in
    let A : List Instruction → Type 0 = λ i. AreLeastAfter d i functions' in
    let B : List (ℕ × ℕ) → Type 0 = λ fs. AreLeastAfter d f fs in
    (refl, subst B same (subst A cut after))
least_on d s t o found (font_refused r is) (f', functions', font, after) = absurd (is.no_least (least_of_end (font_subject d) f' functions' font))
least_on d s t o found (cvt_found f p functions known x ends) (p', known', cvt, glyphs) =
    let (cut, same) = end_alike (cvt_subject d f functions) p' p known' known cvt (known_of_found (cvt_subject d f functions) p x known ends).ends in
    let A : List Instruction → Type 0 = λ i. AreLeastGlyphs d (font_of d f i) known' in
    let B : List (ℕ × ℕ) → Type 0 = λ fs. AreLeastGlyphs d (font_of d f p) fs in
    (refl, subst B same (subst A cut glyphs))
least_on d s t o found (cvt_refused f functions r is) (p', known', cvt, glyphs) = absurd (is.no_least (least_of_end (cvt_subject d f functions) p' known' cvt))
least_on d s t o found (glyph_found f p known id g instructions x there is_found) glyphs = (refl, glyphs)
least_on d s t o found (glyph_refused f p known id g r there is) glyphs = absurd (is.no_least (glyphs id g there))
