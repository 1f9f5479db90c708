-- A check that refuses nothing comes to nothing else.
use Rattle.std.proofs.Common.{◌≡◌, ℕ, ◌+◌, List, [], ◌∷◌, length, Some, Ok, Err, refl, sym, ap, subst, ◌∙◌}
use Rattle.tt_code.specs.Cut.{Instruction, size}
use Rattle.tt_code.specs.Fonts.{Font}
use Rattle.tt_abs.specs.declared.state.State.{State}
use Rattle.tt_family.specs.Contents.{Contents, family_of}
use Rattle.tt_family.specs.Contexts.{frames_of}
use Rattle.tt_cert.specs.declared.form.Form.{Form}
use Rattle.tt_setting.specs.declared.name.Name.{Name}
use Rattle.tt_setting.specs.declared.name.Name.TheVariants as name
use Rattle.tt_cert.specs.Readers.{Answer, Input}
use Rattle.tt_cert.specs.Sections.{Context, Section, contexts_in, section_of}
use Rattle.tt_cert.proofs.Fitting.{frames_back}
use Rattle.tt_font.specs.Reading.{FontData, GlyphData}
use Rattle.hintcheck_certificates.specs.Certificates.{AreChecked, AreSectionsChecked, Finding, HasNoSection, IsCheckRefusal, IsChecked, IsSectionOf, Passes, PassesToEnd, after_header, refused_before, not_read, of_another, at_end, followed, no_section, passed, refused, no_font_section, font_refused, no_cvt_section, cvt_refused, both_passed, no_header, other_number, sections_checked}
use Rattle.hintcheck_programs.specs.FontPrograms.{cvt_subject, font_of, font_subject, glyph_subject}
use Rattle.hintcheck_programs.specs.Programs.{Subject}
use Rattle.hintcheck_report.specs.declared.refused.Refused.{Refused}
use Rattle.hintcheck_programs.proofs.ProgramVerdictLemmas.{known_cut}

-- answers

abbrev pub reads : {A : Type 0} → A × Input → Answer A
reads x = Ok x

pub one_answer : {A : Type 0} (x y : A × Input) → reads x ≡ reads y → x ≡ y
one_answer x y e = cc

pub no_answer : {A : Type 0} (x : A × Input) (place : ℕ) → ◌≡◌ {A = Answer A} (Ok x) (Err place) → ⊥
no_answer x place e = absurd cc

-- sections

pub one_section : (form : Form) (i after after' : Input) (called : Name) (family family' : Contents) → IsSectionOf form i called family after → IsSectionOf form i called family' after'
    → (family ≡ family') × (after ≡ after')
one_section form i after after' called family family' s t =
    let same = one_answer (section_of called family, after) (section_of called family', after') (sym s.is_read ∙ t.is_read) in
    let contexts : contexts_in family.contexts ≡ contexts_in family'.contexts = ap (λ (p : Section × Input). p.0.contexts) same in
    let states : family.states ≡ family'.states = ap (λ (p : Section × Input). p.0.states) same in
    let whole : family.contexts ≡ family'.contexts =
    sym (frames_back family s.in_order) ∙ ap (λ (l : List Context). frames_of l) contexts ∙ frames_back family' t.in_order in
    (λ i. record { contexts = whole i; states = states i }, ap (λ (p : Section × Input). p.1) same)

pub is_there : (form : Form) (i after : Input) (called : Name) (family : Contents) (place : ℕ) → IsSectionOf form i called family after → HasNoSection form i called place → ⊥
is_there form i after called family place s (not_read p at) = no_answer (section_of called family, after) p (sym s.is_read ∙ at)
is_there form i after called family place s (of_another t end at differs) =
    differs (ap (λ (p : Section × Input). p.0.name) (one_answer (t, end) (section_of called family, after) (sym at ∙ s.is_read)))

-- programs

not_refused : (form : Form) (x : Subject) (family family' : Contents) (r : Refused) (is : List Instruction) → Passes form x is family → family ≡ family' → IsCheckRefusal form x family' r → ⊥
not_refused form x family family' r is passes same refusal = refusal.not_passed is (subst (Passes form x is) same passes)

one_end : (form : Form) (x : Subject) (family : Contents) (is is' : List Instruction) (functions functions' : List (ℕ × ℕ)) → PassesToEnd form x is family functions
    → PassesToEnd form x is' family functions' → (is ≡ is') × (functions ≡ functions')
one_end form x family is is' functions functions' p q =
    let cut : is ≡ is' = sym (known_cut x is is' p.passes.cut q.passes.cut) in
    let at : Some p.end ≡ Some q.end = sym p.at_end ∙ ap (λ (l : List Instruction). family_of family ([], size l)) cut ∙ q.at_end in
    let end : p.end ≡ q.end = cc in
    (cut, sym p.functions_are ∙ ap (λ (s : State). s.functions) end ∙ q.functions_are)

-- glyph programs

abbrev pub none : Finding
none = Ok []

pub some_refused : (r : Refused) (finding : Finding) → refused_before r finding ≡ none → ⊥
some_refused r (Ok rs) e = absurd cc
some_refused r (Err place) e = absurd cc

pub fails_not : (place : ℕ) → ◌≡◌ {A = Finding} (Err place) none → ⊥
fails_not place e = absurd cc

pub one_refuses : (r : Refused) → ◌≡◌ {A = Finding} (Ok (r ∷ [])) none → ⊥
one_refuses r e = absurd cc

one_checked : (form : Form) (font : Font) (functions : List (ℕ × ℕ)) (id : ℕ) (gs : List GlyphData) (i : Input) (f g : Finding) → AreChecked form font functions id gs i f
    → AreChecked form font functions id gs i g → f ≡ none → g ≡ none
one_checked form font functions id gs i f g (at_end n j ended) (at_end m k ended') e = refl
one_checked form font functions id gs i f g (at_end n j ended) (followed m k more) e = absurd (more ended)
one_checked form font functions id gs i f g (followed n j more) q e = absurd (fails_not j.place e)
one_checked form font functions id gs i f g (no_section n x xs j place absent) q e = absurd (fails_not place e)
one_checked form font functions id gs i f g (refused n x xs j after family r finding section refusal rest) q e = absurd (some_refused r finding e)
one_checked form font functions id gs i f g (passed n x xs j after family is finding section passes rest) (no_section m y ys k place absent) e =
    absurd (is_there form j after (name.Glyph n) family place section absent)
one_checked form font functions id gs i f g (passed n x xs j after family is finding section passes rest) (refused m y ys k after' family' r finding' section' refusal rest') e =
    absurd (not_refused form (glyph_subject font functions n x) family family' r is passes (one_section form j after after' (name.Glyph n) family family' section section').0 refusal)
one_checked form font functions id gs i f g (passed n x xs j after family is finding section passes rest) (passed m y ys k after' family' is' finding' section' passes' rest') e =
    let same = (one_section form j after after' (name.Glyph n) family family' section section').1 in
    one_checked form font functions (n + 1) xs after finding finding' rest (subst (λ (h : Input). AreChecked form font functions (n + 1) xs h finding') (sym same) rest') e

-- the sections of a font's programs

one_checked_font : (d : FontData) (form : Form) (i : Input) (f g : Finding) → AreSectionsChecked d form i f → AreSectionsChecked d form i g → f ≡ none → g ≡ none
one_checked_font d form i f g (no_font_section place absent) q e = absurd (fails_not place e)
one_checked_font d form i f g (font_refused family after r section refusal) q e = absurd (one_refuses r e)
one_checked_font d form i f g (no_cvt_section family after fi functions place section passes absent) q e = absurd (fails_not place e)
one_checked_font d form i f g (cvt_refused family other after end fi functions r section passes next refusal) q e = absurd (one_refuses r e)
one_checked_font d form i f g (both_passed family other after end fi pi functions known glyphs section passes next passes_too checked) (no_font_section place absent) e =
    absurd (is_there form i after name.Font family place section absent)
one_checked_font d form i f g (both_passed family other after end fi pi functions known glyphs section passes next passes_too checked) (font_refused family' after' r section' refusal) e =
    absurd (not_refused form (font_subject d) family family' r fi passes.passes (one_section form i after after' name.Font family family' section section').0 refusal)
one_checked_font d form i f g (both_passed family other after end fi pi functions known glyphs section passes next passes_too checked) (no_cvt_section family' after' fi' functions' place section' passes' absent) e =
    let same = (one_section form i after after' name.Font family family' section section').1 in
    absurd (is_there form after' end name.Cvt other place (subst (λ (h : Input). IsSectionOf form h name.Cvt other end) same next) absent)
one_checked_font d form i f g (both_passed family other after end fi pi functions known glyphs section passes next passes_too checked) (cvt_refused family' other' after' end' fi' functions' r section' passes' next' refusal) e =
    let (same, same_after) = one_section form i after after' name.Font family family' section section' in
    let (cut, ends) = one_end form (font_subject d) family' fi fi' functions functions' (subst (λ (h : Contents). PassesToEnd form (font_subject d) fi h functions) same passes) passes' in
    let others = (one_section form after' end end' name.Cvt other other' (subst (λ (h : Input). IsSectionOf form h name.Cvt other end) same_after next) next').0 in
    let subject : cvt_subject d fi functions ≡ cvt_subject d fi' functions' = (λ k. cvt_subject d (cut k) (ends k)) in
    absurd (not_refused form (cvt_subject d fi' functions') other other' r pi (subst (λ (h : Subject). Passes form h pi other) subject passes_too.passes) others refusal)
one_checked_font d form i f g (both_passed family other after end fi pi functions known glyphs section passes next passes_too checked) (both_passed family' other' after' end' fi' pi' functions' known' glyphs' section' passes' next' passes_too' checked') e =
    let (same, same_after) = one_section form i after after' name.Font family family' section section' in
    let (cut, ends) = one_end form (font_subject d) family' fi fi' functions functions' (subst (λ (h : Contents). PassesToEnd form (font_subject d) fi h functions) same passes) passes' in
    let (others, same_end) = one_section form after' end end' name.Cvt other other' (subst (λ (h : Input). IsSectionOf form h name.Cvt other end) same_after next) next' in
    let subject : cvt_subject d fi functions ≡ cvt_subject d fi' functions' = (λ k. cvt_subject d (cut k) (ends k)) in
    let (cut_too, ends_too) = one_end form (cvt_subject d fi' functions') other' pi pi' known known'
    (subst (λ (h : Contents). PassesToEnd form (cvt_subject d fi' functions') pi h known) others (subst (λ (h : Subject). PassesToEnd form h pi other known) subject passes_too)) passes_too' in
    let font : font_of d fi pi ≡ font_of d fi' pi' = (λ k. font_of d (cut k) (cut_too k)) in
    let here : AreChecked form (font_of d fi' pi') known' 0 d.glyphs end' glyphs =
    subst (λ (h : Input). AreChecked form (font_of d fi' pi') known' 0 d.glyphs h glyphs) same_end
    (subst (λ (l : List (ℕ × ℕ)). AreChecked form (font_of d fi' pi') l 0 d.glyphs end glyphs) ends_too (subst (λ (t : Font). AreChecked form t known 0 d.glyphs end glyphs) font checked)) in
    one_checked form (font_of d fi' pi') known' 0 d.glyphs end' glyphs glyphs' here checked' e

-- the whole check
pub one_finding : (d : FontData) (bytes : List ℕ) (f g : Finding) → IsChecked d bytes f → IsChecked d bytes g → f ≡ none → g ≡ none
one_finding d bytes f g (no_header place at) q e = absurd (fails_not place e)
one_finding d bytes f g (other_number form sections after at differs) q e = absurd (fails_not 6 e)
one_finding d bytes f g (sections_checked form after finding at checked) (no_header place at') e = absurd (no_answer ((form, length d.glyphs + 2), after) place (sym at ∙ at'))
one_finding d bytes f g (sections_checked form after finding at checked) (other_number form' sections after' at' differs) e =
    let same = one_answer ((form', sections), after') ((form, length d.glyphs + 2), after) (sym at' ∙ at) in
    absurd (differs (ap (λ (p : (Form × ℕ) × Input). p.0.1) same))
one_finding d bytes f g (sections_checked form after finding at checked) (sections_checked form' after' finding' at' checked') e =
    let same = one_answer ((form, length d.glyphs + 2), after) ((form', length d.glyphs + 2), after') (sym at ∙ at') in
    let here : AreSectionsChecked d form' (after_header after'.bytes) finding =
    subst (λ (p : (Form × ℕ) × Input). AreSectionsChecked d p.0.0 (after_header p.1.bytes) finding) same checked in
    one_checked_font d form' (after_header after'.bytes) finding finding' here checked' e
