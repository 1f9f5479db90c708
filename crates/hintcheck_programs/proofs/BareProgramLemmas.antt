-- What the list of refused programs tells of the only program.
use Rattle.std.proofs.Common.{◌≡◌, ℕ, List, [], ◌∷◌, Option, Some, None, Result, Ok, Err, IfOk, refl, sym, ◌∙◌, ap, subst}
use Rattle.std.specs.Prelude.{option_map, slice_get}
use Rattle.tt_code.specs.Cut.{Instruction}
use Rattle.tt_font.specs.Reading.{FontData, GlyphData}
use Rattle.hintcheck_programs.specs.BarePrograms.{IsJudged}
use Rattle.hintcheck_programs.specs.FontPrograms.{font_of, glyph_subject}
use Rattle.hintcheck_programs.specs.Programs.{HasLeastFamily, Subject}
use Rattle.hintcheck_programs.specs.Representation.Judges.{IsFoundIn, IsRefusedFor}
use Rattle.hintcheck_programs.specs.Representation.ProgramOrder.{IsAnswerBy, IsJudgedBy, IsOutcomeBy, glyph_done, glyph_stops, next_program}
use Rattle.hintcheck_programs.specs.Representation.FontVerdicts.{ListsOutcome}
use Rattle.hintcheck_programs.specs.Stages.{StageOf, at_glyph}
use Rattle.hintcheck_programs.specs.declared.finding.Finding.{Finding}
use Rattle.hintcheck_report.specs.declared.refused.Refused.{Refused}
use Rattle.hintcheck_programs.specs.declared.report.Outcome.{Outcome}

-- the program of a glyph, where it is next

module _ {K : Type 0} (d : FontData) (Accepts : Subject → List K → List Instruction → Type 0) (Ends : Subject → List K → List Instruction → List K → Type 0)
    (Refuses : Subject → List K → Refused → Type 0) (f p : List Instruction) (known : List K) (id : ℕ) (g : GlyphData) (at : slice_get d.glyphs id ≡ Some g) where
  abbrev IsJudgedAs : GlyphData → List Refused → Type 0
  IsJudgedAs h rs = IsJudgedBy (Accepts (glyph_subject (font_of d f p) [] id h) known) (Refuses (glyph_subject (font_of d f p) [] id h) known) rs

  judged_outcome : (t : StageOf K) (o : Outcome) (rs : List Refused) → IsOutcomeBy d Accepts Ends Refuses (at_glyph f p known id) o t → ListsOutcome [] o.refused rs → IsJudgedAs g rs
  judged_outcome t o rs (glyph_done f' p' known' id' h is there accepts) listed =
      let same : h ≡ g = let e : Some h ≡ Some g = sym there ∙ at in cc in
      subst (λ (x : GlyphData). IsJudgedAs x rs) same (subst (IsJudgedAs h) (sym listed) (is, accepts))
  judged_outcome t o rs (glyph_stops f' p' known' id' h r there refuses) listed =
      let same : h ≡ g = let e : Some h ≡ Some g = sym there ∙ at in cc in
      subst (λ (x : GlyphData). IsJudgedAs x rs) same (subst (IsJudgedAs h) (sym listed) refuses)

  pub judged_glyph : (s t : StageOf K) (answer : Option Outcome) (o : Outcome) (old rs : List Refused) → s ≡ at_glyph f p known id → IsAnswerBy d Accepts Ends Refuses s answer t
      → answer ≡ Some o → old ≡ [] → ListsOutcome old o.refused rs → IsJudgedAs g rs
  judged_glyph s t answer o old rs here answers is none listed =
      judged_outcome t o rs (subst (λ (u : StageOf K). IsOutcomeBy d Accepts Ends Refuses u o t) here (subst (λ (a : Option Outcome). IsAnswerBy d Accepts Ends Refuses s a t) is answers))
      (subst (λ (l : List Refused). ListsOutcome l o.refused rs) none listed)

  -- one is next, so that an answer is its outcome
  pub glyph_is_next : (s t : StageOf K) (answer : Option Outcome) → s ≡ at_glyph f p known id → IsAnswerBy d Accepts Ends Refuses s answer t → answer ≡ None → ⊥
  glyph_is_next s t answer here answers is =
      let none : next_program d s ≡ None = (subst (λ (a : Option Outcome). IsAnswerBy d Accepts Ends Refuses s a t) is answers).0 in
      let there : next_program d s ≡ Some (glyph_subject (font_of d f p) [] id g) =
      ap (λ (u : StageOf K). next_program d u) here ∙ ap (option_map (λ (h : GlyphData). glyph_subject (font_of d f p) [] id h)) at in
      let no : Some (glyph_subject (font_of d f p) [] id g) ≡ None = sym there ∙ none in cc

-- what holds where it is answered
pub where_answered : {T E : Type 0} (r : Result T E) (P Q : T → Type 0) → ((x : T) → P x → Q x) → IfOk r P → IfOk r Q
where_answered (Ok x) P Q f h = f x h
where_answered (Err e) P Q f h = tt

-- what the search for a family says of it
pub judged_by_finding : (j : Finding) (d : FontData) (f p : List Instruction) (id : ℕ) (g : GlyphData) (rs : List Refused)
    → IsJudgedBy (IsFoundIn j (glyph_subject (font_of d f p) [] id g)) (IsRefusedFor (glyph_subject (font_of d f p) [] id g)) rs
    → IsJudged (glyph_subject (font_of d f p) [] id g) rs
judged_by_finding j d f p id g [] (is, found) = found.least
judged_by_finding j d f p id g (r ∷ []) refused = (refused.refusal, λ good. refused.no_good good g.points g.contours refl)
judged_by_finding j d f p id g (r ∷ q ∷ rs) judged = absurd judged

pub least_where_none : (x : Subject) (rs : List Refused) → IsJudged x rs → rs ≡ [] → HasLeastFamily x
least_where_none x [] judged e = judged
least_where_none x (r ∷ rs) judged e = absurd (cc)
