-- The bytes of a font file hold one font, except for how often its components were read; and its check by a certificate is the same.
use Rattle.std.proofs.Common.{◌≡◌, ◌≢◌, inl, inr, ℕ, suc, ◌+◌, ◌<◌, List, [], ◌∷◌, length, Some, Result, Ok, Err, refl, sym, ap, subst, ◌∙◌, arith}
use Rattle.std.specs.List.{sum_by}
use Rattle.std.proofs.lemmas.List.Sums.{sum_by-cons}
use Rattle.tt_font.specs.Chains.{Distinct, In, SumsChains, end_of}
use Rattle.tt_font.specs.Files.{font_glyphs, font_outlines}
use Rattle.tt_font.specs.Outlines.{Outline, own_contours, own_points}
use Rattle.tt_font.specs.Reading.{FontData, GlyphData, Reads, ReadsGlyph, glyph_at}
use Rattle.tt_cert.specs.declared.form.Form.{Form}
use Rattle.tt_cert.specs.Readers.{Input}
use Rattle.hintcheck_certificates.specs.Certificates.{AreSectionsChecked, Finding, IsChecked, after_header, no_font_section, font_refused, no_cvt_section, cvt_refused, both_passed, no_header, other_number, sections_checked}
use Rattle.hintcheck_certificates.specs.CheckedFonts.{AnswersFinding, Finds}
use Rattle.hintcheck_programs.specs.Verdicts.{Judgement}
use Rattle.hintcheck_report.specs.declared.answer_fault.AnswerFault.{AnswerFault}
use Rattle.hintcheck_report.specs.declared.answer_fault.AnswerFault.TheVariants as fault
use Rattle.hintcheck_certificates.proofs.OneFinding.{one_finding}

-- sums over lists with the same members, each once

without : {X : Type 0} (x : X) (ys : List X) → In x ys → List X
without x [] i = []
without x (y ∷ ys) (inl e) = ys
without x (y ∷ ys) (inr i) = y ∷ without x ys i

sum_without : {X : Type 0} (g : X → ℕ) (x : X) (ys : List X) (i : In x ys) → sum_by g ys ≡ g x + sum_by g (without x ys i)
unfolding without
sum_without g x [] i = absurd i
sum_without {X} g x (y ∷ ys) (inl e) = sum_by-cons g y ys ∙ ap (λ (z : X). g z + sum_by g ys) (sym e)
sum_without g x (y ∷ ys) (inr i) =
    let rest = sum_without g x ys i in
    let one = sum_by-cons g y ys in
    let two = sum_by-cons g y (without x ys i) in
    omega arith

in_without : {X : Type 0} (x z : X) (ys : List X) (i : In x ys) → In z (without x ys i) → In z ys
unfolding without
in_without x z [] i h = absurd i
in_without x z (y ∷ ys) (inl e) h = inr h
in_without x z (y ∷ ys) (inr i) (inl e) = inl e
in_without x z (y ∷ ys) (inr i) (inr h) = inr (in_without x z ys i h)

not_without : {X : Type 0} (x : X) (ys : List X) (i : In x ys) → Distinct ys → In x (without x ys i) → ⊥
unfolding without
not_without x [] i d h = i
not_without {X} x (y ∷ ys) (inl e) d h = d.0 (subst (λ (z : X). In z ys) e h)
not_without {X} x (y ∷ ys) (inr i) d (inl e) = d.0 (subst (λ (z : X). In z ys) e i)
not_without x (y ∷ ys) (inr i) d (inr h) = not_without x ys i d.1 h

still_in : {X : Type 0} (x z : X) (ys : List X) (i : In x ys) → z ≢ x → In z ys → In z (without x ys i)
unfolding without
still_in x z [] i apart h = h
still_in x z (y ∷ ys) (inl e) apart (inl f) = absurd (apart (f ∙ sym e))
still_in x z (y ∷ ys) (inl e) apart (inr h) = h
still_in x z (y ∷ ys) (inr i) apart (inl f) = inl f
still_in x z (y ∷ ys) (inr i) apart (inr h) = inr (still_in x z ys i apart h)

distinct_without : {X : Type 0} (x : X) (ys : List X) (i : In x ys) → Distinct ys → Distinct (without x ys i)
unfolding without
distinct_without x [] i d = tt
distinct_without x (y ∷ ys) (inl e) d = d.1
distinct_without x (y ∷ ys) (inr i) d = (λ h. d.0 (in_without x y ys i h), distinct_without x ys i d.1)

one_sum : {X : Type 0} (g : X → ℕ) (xs ys : List X) → Distinct xs → Distinct ys → ((x : X) → In x xs → In x ys) → ((x : X) → In x ys → In x xs) → sum_by g xs ≡ sum_by g ys
one_sum g [] [] d e to from = refl
one_sum g [] (y ∷ ys) d e to from = absurd (from y (inl refl))
one_sum {X} g (x ∷ xs) ys d e to from =
    let i : In x ys = to x (inl refl) in
    let rest = one_sum g xs (without x ys i) d.1 (distinct_without x ys i e)
    (λ z h. still_in x z ys i (λ same. d.0 (subst (λ (w : X). In w xs) same h)) (to z (inr h)))
    (λ z h. back z (from z (in_without x z ys i h)) (λ same. not_without x ys i e (subst (λ (w : X). In w (without x ys i)) same h))) in
    let one = sum_by-cons g x xs in
    let two = sum_without g x ys i in
    omega arith
  where
    back : (z : X) → In z (x ∷ xs) → (z ≡ x → ⊥) → In z xs
    back z (inl same) apart = absurd (apart same)
    back z (inr h) apart = h

one_sum_of_chains : (own : Outline → ℕ) (outlines : ℕ → Outline) (id n m : ℕ) → SumsChains own outlines id n → SumsChains own outlines id m → n ≡ m
one_sum_of_chains own outlines id n m s t =
    s.sum
    ∙ one_sum (λ chain. own (outlines (end_of outlines id chain))) s.all t.all s.once t.once (λ c i. (t.chains c).1 ((s.chains c).0 i)) (λ c i. (s.chains c).1 ((t.chains c).0 i))
    ∙ sym t.sum

-- glyphs

one_glyph : (glyph : List ℕ) (outlines : ℕ → Outline) (id : ℕ) (g h : GlyphData) → ReadsGlyph glyph outlines id g → ReadsGlyph glyph outlines id h → g ≡ h
one_glyph glyph outlines id g h r s =
    let at : Some g.program ≡ Some h.program = sym r.program ∙ s.program in
    let program : g.program ≡ h.program = cc in
    let points = one_sum_of_chains own_points outlines id g.points h.points r.points s.points in
    let contours = one_sum_of_chains own_contours outlines id g.contours h.contours r.contours s.contours in
    λ i. record { points = points i; contours = contours i; program = program i }

same_glyphs : (gs hs : List GlyphData) → length gs ≡ length hs → ((id : ℕ) → id < length gs → glyph_at gs id ≡ glyph_at hs id) → gs ≡ hs
same_glyphs [] [] len same = refl
same_glyphs [] (h ∷ hs) len same = absurd (omega (arith, len))
same_glyphs (g ∷ gs) [] len same = absurd (omega (arith, len))
same_glyphs (g ∷ gs) (h ∷ hs) len same =
    let head : g ≡ h = same 0 (omega arith) in
    let tail : gs ≡ hs = same_glyphs gs hs (omega (arith, len)) (λ id lt. same (suc id) (omega arith)) in
    λ i. head i ∷ tail i

-- fonts

-- the font, except for how often its components were read
abbrev with_reads : FontData → ℕ → FontData
with_reads d n = record d { component_reads = n }

one_font : (bytes : List ℕ) (d e : FontData) → Reads bytes d → Reads bytes e → d ≡ with_reads e d.component_reads
one_font bytes d e r s =
    let limits = r.limits ∙ sym s.limits in
    let cvt_count = r.cvt_count ∙ sym s.cvt_count in
    let fpgm = r.fpgm ∙ sym s.fpgm in
    let prep = r.prep ∙ sym s.prep in
    let len = r.glyphs.len in
    let glyphs = same_glyphs d.glyphs e.glyphs (r.glyphs.len ∙ sym s.glyphs.len)
    (λ id lt. one_glyph (font_glyphs bytes id) (font_outlines bytes) id (glyph_at d.glyphs id) (glyph_at e.glyphs id) (r.glyphs.each id (omega arith)) (s.glyphs.each id (omega arith))) in
    λ i. record { limits = limits i; cvt_count = cvt_count i; fpgm = fpgm i; prep = prep i; glyphs = glyphs i; component_reads = d.component_reads }

-- its check doesn't ask how often

sections_alike : (d : FontData) (n : ℕ) (form : Form) (i : Input) (f : Finding) → AreSectionsChecked (with_reads d n) form i f → AreSectionsChecked d form i f
sections_alike d n form i f (no_font_section place absent) = no_font_section place absent
sections_alike d n form i f (font_refused family after r section refusal) = font_refused family after r section refusal
sections_alike d n form i f (no_cvt_section family after fi functions place section passes absent) = no_cvt_section family after fi functions place section passes absent
sections_alike d n form i f (cvt_refused family other after end fi functions r section passes next refusal) =
    cvt_refused family other after end fi functions r section passes next refusal
sections_alike d n form i f (both_passed family other after end fi pi functions known glyphs section passes next passes_too checked) =
    both_passed family other after end fi pi functions known glyphs section passes next passes_too checked

check_alike : (d : FontData) (n : ℕ) (bytes : List ℕ) (f : Finding) → IsChecked (with_reads d n) bytes f → IsChecked d bytes f
check_alike d n bytes f (no_header place at) = no_header place at
check_alike d n bytes f (other_number form sections after at differs) = other_number form sections after at differs
check_alike d n bytes f (sections_checked form after finding at checked) = sections_checked form after finding at (sections_alike d n form (after_header after.bytes) finding checked)

-- what a check comes to is the same for each font that the bytes of the file hold
pub same_check : (bytes : List ℕ) (d e : FontData) → Reads bytes d → Reads bytes e → (certificate : List ℕ) (f : Finding) → IsChecked d certificate f → IsChecked e certificate f
same_check bytes d e r s certificate f checked =
    check_alike e d.component_reads certificate f (subst (λ (t : FontData). IsChecked t certificate f) (one_font bytes d e r s) checked)

-- where the check of a font by the bytes refuses nothing, neither does what is answered
pub check_accepts : (font bytes : List ℕ) (read : FontData) (r : Result Judgement AnswerFault) → Reads font read
    → Finds r (AnswersFinding read bytes) (λ place. IsChecked read bytes (Err place)) → (d : FontData) → Reads font d → IsChecked d bytes (Ok []) → Finds r (λ v. v.refused ≡ []) (λ _. ⊥)
check_accepts font bytes read (Ok v) reads answers d reads_too checked =
    let same : ◌≡◌ {A = Finding} (Ok v.refused) (Ok []) =
    one_finding read bytes (Ok []) (Ok v.refused) (same_check font d read reads_too reads bytes (Ok []) checked) answers.0 refl in
    cc
check_accepts font bytes read (Err (fault.Form place)) reads answers d reads_too checked =
    let same : ◌≡◌ {A = Finding} (Err place) (Ok []) =
    one_finding read bytes (Ok []) (Err place) (same_check font d read reads_too reads bytes (Ok []) checked) answers refl in
    absurd cc
check_accepts font bytes read (Err fault.Read) reads answers d reads_too checked = tt
check_accepts font bytes read (Err (fault.Font e)) reads answers d reads_too checked = tt
check_accepts font bytes read (Err fault.Write) reads answers d reads_too checked = tt
check_accepts font bytes read (Err (fault.Print e)) reads answers d reads_too checked = tt
check_accepts font bytes read (Err (fault.Exhausted by)) reads answers d reads_too checked = tt
