-- The outcomes of the programs that are found, one by one.
use Rattle.std.proofs.Common.{◌≡◌, ℕ, ◌+◌, List, Option, None, refl, sym, subst, inl}
use Rattle.tt_code.specs.Cut.{Instruction}
use Rattle.tt_cert.specs.declared.form.Form.{Form}
use Rattle.tt_setting.specs.declared.name.Name.TheVariants as name
use Rattle.tt_find.specs.declared.finder.Found.{Found}
use Rattle.tt_font.specs.Reading.{FontData}
use Rattle.hintcheck_programs.specs.GoodPrograms.{IsGoodAtEnd}
use Rattle.hintcheck_certificates.specs.FindingSessions.{IsFoundAnswer, IsOutcomeByFinding, cvt_found, cvt_refused, font_found, font_refused, glyph_found, glyph_refused}
use Rattle.hintcheck_programs.specs.Representation.FontVerdicts.{IsKnownAtEnd, KeepsKnown}
use Rattle.hintcheck_programs.specs.FontPrograms.{cvt_subject, font_subject}
use Rattle.hintcheck_programs.specs.ProgramVerdicts.{IsForCertificate}
use Rattle.hintcheck_programs.specs.Programs.{Subject}
use Rattle.hintcheck_programs.specs.Representation.Judges.{IsOutcomeOf}
use Rattle.hintcheck_programs.specs.Representation.ProgramOrder.{cvt_done, cvt_stops, font_done, font_stops, glyph_done, glyph_stops, next_program}
use Rattle.hintcheck_certificates.specs.Representation.SessionStages.{KeepsFound, KeepsGood}
use Rattle.hintcheck_programs.specs.Stages.{Stage, accepted_as, after_font, at_glyph, at_start, over}
use Rattle.hintcheck_programs.specs.declared.finding.Finding.{Finding}
use Rattle.hintcheck_programs.specs.declared.report.Outcome.{Outcome}
use Rattle.hintcheck_programs.proofs.FontSafety.{good_end}
use Rattle.hintcheck_certificates.proofs.SessionSteps.{is_last}

-- what is found for a certificate, where the program is accepted
pub found_outcome : (d : FontData) (j : Finding) (s t : Stage) (o : Outcome) → IsForCertificate j.search → IsOutcomeOf d j s o t → o.refused ≡ None → IsOutcomeByFinding d s o j.finder.found t
found_outcome d j s t o certificate (font_done f known ends) none =
    let (x, kept, is) = ends.found certificate in
    let S : Option Found → Type 0 = λ y. IsOutcomeByFinding d at_start (accepted_as name.Font) y (after_font f known) in
    subst S (sym kept) (font_found f known x is)
found_outcome d j s t o certificate (cvt_done f p start known ends) none =
    let (x, kept, is) = ends.found certificate in
    let S : Option Found → Type 0 = λ y. IsOutcomeByFinding d (after_font f start) (accepted_as name.Cvt) y (at_glyph f p known 0) in
    subst S (sym kept) (cvt_found f p start known x is)
found_outcome d j s t o certificate (glyph_done f p known id g is there accepts) none =
    let here = accepts.found (inl certificate) in
    let S : Option Found → Type 0 = λ y. IsOutcomeByFinding d (at_glyph f p known id) (accepted_as (name.Glyph id)) y (at_glyph f p known (id + 1)) in
    subst S (sym here.is_kept) (glyph_found f p known id g is here.found there (here.for_certificate certificate))
found_outcome d j s t o certificate (font_stops r is) none = absurd cc
found_outcome d j s t o certificate (cvt_stops f start r is) none = absurd cc
found_outcome d j s t o certificate (glyph_stops f p known id g r there is) none = absurd cc

-- and where it is refused
pub unfound_outcome : (d : FontData) (j : Finding) (s t : Stage) (o : Outcome) → IsOutcomeOf d j s o t → (o.refused ≡ None → ⊥) → IsOutcomeByFinding d s o None t
unfound_outcome d j s t o (font_done f known ends) some = absurd (some refl)
unfound_outcome d j s t o (cvt_done f p start known ends) some = absurd (some refl)
unfound_outcome d j s t o (glyph_done f p known id g is there accepts) some = absurd (some refl)
unfound_outcome d j s t o (font_stops r is) some = font_refused r is.refusal
unfound_outcome d j s t o (cvt_stops f start r is) some = cvt_refused f start r is.refusal
unfound_outcome d j s t o (glyph_stops f p known id g r there is) some = glyph_refused f p known id g r there is.refusal

good_there : (x : Subject) (is : List Instruction) (functions : List (ℕ × ℕ)) → IsKnownAtEnd x is functions → IsGoodAtEnd x is functions
good_there x is functions known = record { ends = good_end x is functions known.ends; ascends = known.ascends }

-- what is known where least families end is known where good ones do
pub good_of_known : (d : FontData) (s : Stage) → KeepsKnown d s → KeepsGood d s
good_of_known d at_start kept = tt
good_of_known d (after_font f functions) kept = good_there (font_subject d) f functions kept
good_of_known d (at_glyph f p known id) kept =
    let ((functions, font, cvt), le) = kept in
    ((functions, good_there (font_subject d) f functions font, good_there (cvt_subject d f functions) p known cvt), le)
good_of_known d over kept = tt

-- no program is left
pub nothing_left : (d : FontData) (s t : Stage) → KeepsKnown d s → (next_program d s ≡ None) × (t ≡ over) → IsFoundAnswer d s None t
nothing_left d s t kept is = (is_last d s is.0 (good_of_known d s kept), is.1)

-- a session that has read no certificate
pub kept_unread : (d : FontData) (read : Option (Form × ℕ)) (s : Stage) → read ≡ None → KeepsFound read d s → KeepsKnown d s
kept_unread d read s is kept = let K : Option (Form × ℕ) → Type 0 = λ r. KeepsFound r d s in subst K is kept
