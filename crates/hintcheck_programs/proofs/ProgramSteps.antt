-- From a font's program to the one after it, whatever decides on them.
use Rattle.std.proofs.Common.{◌≡◌, ℕ, ◌+◌, ◌-◌, ◌<◌, List, [], length, Option, Some, None, Result, Ok, Err, refl, sym, ◌∙◌, ap, subst, arith, zero, suc, ◌∷◌, drop}
use Rattle.std.specs.Prelude.{slice_get, option_map}
use Rattle.tt_setting.specs.declared.exhausted.Exhausted.{Exhausted}
use Rattle.std.proofs.lemmas.Option.{slice_get_within}
use Rattle.tt_code.specs.Cut.{Instruction, IsCut}
use Rattle.tt_code.specs.Grammar.{IsStructured}
use Rattle.tt_code.specs.Settings.{Kind as MachineKind}
use Rattle.tt_setting.specs.Refusals.{reason_of}
use Rattle.tt_setting.specs.Settings.{kind_of}
use Rattle.tt_setting.specs.declared.setting.Kind.{Kind}
use Rattle.tt_setting.specs.declared.setting.Setting.{Setting}
use Rattle.tt_setting.specs.declared.refusal.Refusal.{Refusal}
use Rattle.tt_setting.specs.declared.refusal.Refusal.TheVariants as fault
use Rattle.tt_setting.specs.declared.name.Name.{Name}
use Rattle.tt_font.specs.Reading.{FontData, GlyphData}
use Rattle.hintcheck_programs.specs.FontPrograms.{cvt_subject, font_of, font_subject, glyph_subject}
use Rattle.hintcheck_programs.specs.ProgramVerdicts.{IfRefused, IsProgramOf, IsUncut}
use Rattle.hintcheck_report.specs.Places.{reported_at}
use Rattle.hintcheck_programs.specs.Programs.{IsCutInto, Subject}
use Rattle.hintcheck_programs.specs.Representation.FontVerdicts.{ComesToEnd}
use Rattle.hintcheck_programs.specs.Representation.ProgramOrder.{IsAcceptedTo, IsAnswerBy, IsGlyphNext, IsNext, IsOutcomeBy, IsSettingOf, TellsOutcome, cvt_done, cvt_stops, font_done, font_stops, glyph_done, glyph_stops, next_program, stage_after, start_at}
use Rattle.hintcheck_programs.specs.Stages.{StageOf, accepted_as, after_font, at_glyph, at_start, over, refused_as}
use Rattle.hintcheck_programs.specs.declared.programs.Ended.{Ended}
use Rattle.hintcheck_programs.specs.declared.programs.Next.{Next}
use Rattle.hintcheck_report.specs.declared.refused.Refused.{Refused}
use Rattle.hintcheck_programs.specs.declared.report.Outcome.{Outcome}
use Rattle.std.proofs.lemmas.List.{drop_all}

-- what a value was made from
pub mapped_from : {X Y : Type 0} (f : X → Y) (o : Option X) (y : Y) → option_map f o ≡ Some y → (x : X) × (o ≡ Some x) × (f x ≡ y)
mapped_from f None y e = absurd cc
mapped_from f (Some x) y e = (x, refl, cc)

-- the glyph of a program that is next
pub glyph_of : (f : GlyphData → Subject) (o : Option GlyphData) (x : Subject) → option_map f o ≡ Some x → (g : GlyphData) × (o ≡ Some g) × (f g ≡ x)
glyph_of f o x e = mapped_from f o x e

-- the program of a setting that is made for the next program
pub program_of_setting : {K : Type 0} (d : FontData) (stage : StageOf K) (x : Subject) (n : Next) (is : List Instruction) (s : Setting) → next_program d stage ≡ Some x → IsNext d stage n
    → IsCut n.bytes.now is × IsStructured is → IsSettingOf d stage n.kind is s → s.main.now ≡ is → IsProgramOf x s
program_of_setting d stage x n is s next (y, is_next, told) (cut, structured) setting main =
    let same : y ≡ x = cc in
    let C : List Instruction → Type 0 = λ t. IsCutInto x t in
    let bytes : x.bytes ≡ n.bytes.now = sym (ap (λ (z : Subject). z.bytes) same) ∙ told.bytes in
    let kind : (x.setting is).kind ≡ kind_of n.kind = sym (ap (λ (z : Subject). (z.setting is).kind) same) ∙ told.kind is in
    record {
      cut = subst C (sym main) (record { is_cut = subst (λ (b : List ℕ). IsCut b is) (sym bytes) cut; structured = structured });
      setting = ap x.setting main ∙ setting x next kind;
    }

-- a program that can't be cut is refused as the judge refuses it
pub uncut_next : {K : Type 0} (d : FontData) (stage : StageOf K) (x : Subject) (n : Next) (f : Refusal) (Refuses : Refused → Type 0) → next_program d stage ≡ Some x → IsNext d stage n
    → ((called : Name) → IfRefused called f (IsUncut called n.bytes.now)) → ((r : Refused) → IsUncut x.name x.bytes r → Refuses r) → IfRefused x.name f Refuses
uncut_next d stage x n f Refuses next (y, is_next, told) uncut refuses =
    let same : y ≡ x = cc in
    let bytes : x.bytes ≡ n.bytes.now = sym (ap (λ (z : Subject). z.bytes) same) ∙ told.bytes in
    go f (subst (λ (b : List ℕ). IfRefused x.name f (IsUncut x.name b)) (sym bytes) (uncut x.name))
  where
    go : (g : Refusal) → IfRefused x.name g (IsUncut x.name x.bytes) → IfRefused x.name g Refuses
    go (fault.Refused spot offset failed) is = refuses (reported_at x.name spot offset (reason_of failed)) is
    go (fault.Exhausted e) is = tt

-- a glyph program has no end to come to
pub glyph_has_no_end : {K : Type 0} (d : FontData) (s : StageOf K) (n : Next) (kind : Kind) → IsGlyphNext s → IsNext d s n → kind ≡ n.kind → ComesToEnd (kind_of kind) → ⊥
glyph_has_no_end d at_start n kind here is_next same comes = here
glyph_has_no_end d (after_font f known) n kind here is_next same comes = here
glyph_has_no_end d (at_glyph f p known id) n kind here (y, is_next, told) same comes =
    let (g, there, one) = glyph_of (λ g. glyph_subject (font_of d f p) [] id g) (slice_get d.glyphs id) y is_next in
    subst (λ (k : MachineKind). ComesToEnd k) (ap kind_of same ∙ sym (told.kind []) ∙ sym (ap (λ (z : Subject). (z.setting []).kind) one)) comes
glyph_has_no_end d over n kind here is_next same comes = here

-- a program that has no end to come to is a glyph's
pub accepted_glyph : {K : Type 0} (d : FontData) (s : StageOf K) (x : Subject) (n : Next) (Accepts : List Instruction → Type 0) (Ends : List Instruction → List K → Type 0) (is : List Instruction)
    → next_program d s ≡ Some x → IsNext d s n → (ComesToEnd (kind_of n.kind) → ⊥) → Accepts is → IsAcceptedTo Accepts Ends s None
accepted_glyph d at_start x n Accepts Ends is next (y, is_next, told) never accepts =
    let same : font_subject d ≡ y = cc in
    absurd (never (subst (λ (k : MachineKind). ComesToEnd k) (ap (λ (z : Subject). (z.setting is).kind) same ∙ told.kind is) tt))
accepted_glyph d (after_font f known) x n Accepts Ends is next (y, is_next, told) never accepts =
    let same : cvt_subject d f [] ≡ y = cc in
    absurd (never (subst (λ (k : MachineKind). ComesToEnd k) (ap (λ (z : Subject). (z.setting is).kind) same ∙ told.kind is) tt))
accepted_glyph d (at_glyph f p known id) x n Accepts Ends is next is_next never accepts = (is, accepts)
accepted_glyph d over x n Accepts Ends is next is_next never accepts = absurd cc

-- and one that has is the font program or the CVT program
pub accepted_end : {K : Type 0} (d : FontData) (s : StageOf K) (x : Subject) (n : Next) (Accepts : List Instruction → Type 0) (Ends : List Instruction → List K → Type 0) (e : Ended K)
    → next_program d s ≡ Some x → IsNext d s n → ComesToEnd (kind_of n.kind) → Ends e.program e.known.items → IsAcceptedTo Accepts Ends s (Some e)
accepted_end d at_start x n Accepts Ends e next is_next comes ends = ends
accepted_end d (after_font f known) x n Accepts Ends e next is_next comes ends = ends
accepted_end d (at_glyph f p known id) x n Accepts Ends e next is_next comes ends = absurd (glyph_has_no_end d (at_glyph f p known id) n n.kind tt is_next refl comes)
accepted_end d over x n Accepts Ends e next is_next comes ends = absurd cc

module _ {K : Type 0} (d : FontData) (Accepts : Subject → List K → List Instruction → Type 0) (Ends : Subject → List K → List Instruction → List K → Type 0)
    (Refuses : Subject → List K → Refused → Type 0) where
  -- an accepted program
  pub accepted_next : (s : StageOf K) (x : Subject) (e : Option (Ended K)) → next_program d s ≡ Some x → IsAcceptedTo (Accepts x (start_at s)) (Ends x (start_at s)) s e
      → IsOutcomeBy d Accepts Ends Refuses s (accepted_as x.name) (stage_after s e)
  accepted_next at_start x (Some e) next is =
      let P : Subject → Type 0 = λ y. Ends y [] e.program e.known.items → IsOutcomeBy d Accepts Ends Refuses at_start (accepted_as y.name) (after_font e.program e.known.items) in
      let same : font_subject d ≡ x = cc in
      subst P same (λ ends. font_done e.program e.known.items ends) is
  accepted_next at_start x None next is = absurd is
  accepted_next (after_font f known) x (Some e) next is =
      let P : Subject → Type 0 = λ y. Ends y known e.program e.known.items → IsOutcomeBy d Accepts Ends Refuses (after_font f known) (accepted_as y.name) (at_glyph f e.program e.known.items 0) in
      let same : cvt_subject d f [] ≡ x = cc in
      subst P same (λ ends. cvt_done f e.program known e.known.items ends) is
  accepted_next (after_font f known) x None next is = absurd is
  accepted_next (at_glyph f p known id) x None next (is, accepts) =
      let (g, there, same) = glyph_of (λ g. glyph_subject (font_of d f p) [] id g) (slice_get d.glyphs id) x next in
      let P : Subject → Type 0 = λ y. Accepts y known is → IsOutcomeBy d Accepts Ends Refuses (at_glyph f p known id) (accepted_as y.name) (at_glyph f p known (id + 1)) in
      subst P same (λ a. glyph_done f p known id g is there a) accepts
  accepted_next (at_glyph f p known id) x (Some e) next is = absurd is
  accepted_next over x (Some e) next is = absurd is
  accepted_next over x None next is = absurd is

  -- a refused one
  refused_stage : (s : StageOf K) (x : Subject) (r : Refused) → next_program d s ≡ Some x → Refuses x (start_at s) r
      → IsOutcomeBy d Accepts Ends Refuses s (refused_as x.name r) (stage_after s None)
  refused_stage at_start x r next is =
      let P : Subject → Type 0 = λ y. Refuses y [] r → IsOutcomeBy d Accepts Ends Refuses at_start (refused_as y.name r) over in
      let same : font_subject d ≡ x = cc in
      subst P same (λ h. font_stops r h) is
  refused_stage (after_font f known) x r next is =
      let P : Subject → Type 0 = λ y. Refuses y known r → IsOutcomeBy d Accepts Ends Refuses (after_font f known) (refused_as y.name r) over in
      let same : cvt_subject d f [] ≡ x = cc in
      subst P same (λ h. cvt_stops f known r h) is
  refused_stage (at_glyph f p known id) x r next is =
      let (g, there, same) = glyph_of (λ g. glyph_subject (font_of d f p) [] id g) (slice_get d.glyphs id) x next in
      let P : Subject → Type 0 = λ y. Refuses y known r → IsOutcomeBy d Accepts Ends Refuses (at_glyph f p known id) (refused_as y.name r) (at_glyph f p known (id + 1)) in
      subst P same (λ h. glyph_stops f p known id g r there h) is
  refused_stage over x r next is = absurd cc

  pub refused_next : (s : StageOf K) (x : Subject) (f : Refusal) (o : Outcome) → next_program d s ≡ Some x → IfRefused x.name f (Refuses x (start_at s)) → TellsOutcome x.name f (Ok o)
      → IsOutcomeBy d Accepts Ends Refuses s o (stage_after s None)
  refused_next s x (fault.Refused spot offset failed) o next is told =
      let P : Outcome → Type 0 = λ q. IsOutcomeBy d Accepts Ends Refuses s q (stage_after s None) in
      let same : refused_as x.name (reported_at x.name spot offset (reason_of failed)) ≡ o = cc in
      subst P same (refused_stage s x (reported_at x.name spot offset (reason_of failed)) next is)
  refused_next s x (fault.Exhausted e) o next is told = absurd (no o e told)
    where
      no : (a : Outcome) (f : Exhausted) → ◌≡◌ {A = Result Outcome Exhausted} (Ok a) (Err f) → ⊥
      no a f e = absurd cc

  -- the same as the code tells it
  pub accepted_told : (s t : StageOf K) (x : Subject) (n : Next) (e : Option (Ended K)) (o : Outcome) → next_program d s ≡ Some x → n.name ≡ x.name → o ≡ accepted_as n.name
      → t ≡ stage_after s e → IsAcceptedTo (Accepts x (start_at s)) (Ends x (start_at s)) s e → IsOutcomeBy d Accepts Ends Refuses s o t
  accepted_told s t x n e o next name is_o is_t is =
      let T : StageOf K → Type 0 = λ u. IsOutcomeBy d Accepts Ends Refuses s o u in
      let O : Outcome → Type 0 = λ q. IsOutcomeBy d Accepts Ends Refuses s q (stage_after s e) in
      subst T (sym is_t) (subst O (sym (is_o ∙ ap accepted_as name)) (accepted_next s x e next is))

  pub refused_told : (s t : StageOf K) (x : Subject) (n : Next) (f : Refusal) (o : Outcome) → next_program d s ≡ Some x → n.name ≡ x.name → TellsOutcome n.name f (Ok o)
      → t ≡ stage_after s None → IfRefused x.name f (Refuses x (start_at s)) → IsOutcomeBy d Accepts Ends Refuses s o t
  refused_told s t x n f o next name tells is_t is =
      let T : StageOf K → Type 0 = λ u. IsOutcomeBy d Accepts Ends Refuses s o u in
      let N : Name → Type 0 = λ called. TellsOutcome called f (Ok o) in
      subst T (sym is_t) (refused_next s x f o next is (subst N name tells))

-- this many calls answer at most
unfoldable pub calls_left : {K : Type 0} → FontData → StageOf K → ℕ
calls_left d at_start = length d.glyphs + 3
calls_left d (after_font f functions) = length d.glyphs + 2
calls_left d (at_glyph f p known id) = length d.glyphs + 1 - id
calls_left d over = 0

pub fewer_left : {K : Type 0} (d : FontData) (Accepts : Subject → List K → List Instruction → Type 0) (Ends : Subject → List K → List Instruction → List K → Type 0)
    (Refuses : Subject → List K → Refused → Type 0) (s t : StageOf K) (o : Outcome) → IsOutcomeBy d Accepts Ends Refuses s o t → calls_left d t < calls_left d s
unfolding calls_left
fewer_left d Accepts Ends Refuses s t o (font_done f known ends) = omega arith
fewer_left d Accepts Ends Refuses s t o (font_stops r is) = omega arith
fewer_left d Accepts Ends Refuses s t o (cvt_done f p start known ends) = omega arith
fewer_left d Accepts Ends Refuses s t o (cvt_stops f start r is) = omega arith
fewer_left d Accepts Ends Refuses s t o (glyph_done f p known id g is there accepts) = let lt = slice_get_within d.glyphs id g there in omega arith
fewer_left d Accepts Ends Refuses s t o (glyph_stops f p known id g r there is) = let lt = slice_get_within d.glyphs id g there in omega arith

pub fewer_after : {K : Type 0} (d : FontData) (Accepts : Subject → List K → List Instruction → Type 0) (Ends : Subject → List K → List Instruction → List K → Type 0)
    (Refuses : Subject → List K → Refused → Type 0) (s t : StageOf K) (answer : Option Outcome) (o : Outcome) → answer ≡ Some o → IsAnswerBy d Accepts Ends Refuses s answer t
    → calls_left d t < calls_left d s
fewer_after {K} d Accepts Ends Refuses s t answer o is answers =
    let A : Option Outcome → Type 0 = λ a. IsAnswerBy d Accepts Ends Refuses s a t in
    fewer_left d Accepts Ends Refuses s t o (subst A is answers)

pub dropped : (glyphs : List GlyphData) (id : ℕ) (g : GlyphData) → slice_get glyphs id ≡ Some g → drop id glyphs ≡ g ∷ drop (id + 1) glyphs
dropped [] id g at = absurd cc
dropped (x ∷ xs) zero g at = let same : x ≡ g = cc in ap (λ (y : GlyphData). y ∷ xs) same
dropped (x ∷ xs) (suc id) g at =
    let n : suc id + 1 ≡ suc (id + 1) = omega arith in
    dropped xs id g at ∙ ap (λ (k : ℕ). g ∷ drop k (x ∷ xs)) (sym n)

pub all_dropped : (glyphs : List GlyphData) → drop (length glyphs) glyphs ≡ []
all_dropped glyphs = drop_all (length glyphs) glyphs (omega arith)
