-- What the calls that tell which glyphs may be drawn with hints answer, from what they ask.
use Rattle.std.proofs.Common.{◌≡◌, ℕ, List, [], Bool, length, arith, inl, inr}
use Rattle.std.specs.Prelude.{slice_index}
use Rattle.std.proofs.lemmas.Bool.{cases_lt}
use Rattle.std.proofs.lemmas.List.{get_or_past}
use Rattle.hintcheck_fonts.specs.FontAnswers.{IsSymbolicVerdictOn, IsVerdictOn}
use Rattle.hintcheck_programs.specs.Verdicts.{Judgement}
use Rattle.hintcheck_c.specs.Answers.{Answers, AnswersSymbolicVerdict, AnswersVerdict}
use Rattle.hintcheck_c.specs.FontFiles.{font_file}
use Rattle.hintcheck_c.specs.MayHint.{HoldSafeGlyph, HoldSymbolicSafeGlyphs, TellsMayHint}
use Rattle.hintcheck_c.specs.Representation.FontBytes.{IsRead}
use Rattle.hintcheck_c.specs.Representation.HintedSets.{AreHinted, Tell}
use Rattle.hintcheck_c.specs.declared.answer.HintcheckAnswer.{HintcheckAnswer}
use Rattle.hintcheck_c.specs.declared.refusal.HintcheckRefusal.{HintcheckRefusal}
use Rattle.hintcheck_c.proofs.HintedGlyphs.{one_may, tells_may_hint}
use Rattle.hintcheck_c.proofs.SafeGlyphs.{glyph_is_safe, glyphs_are_safe_symbolic}

-- ---- the entries

-- the empty set has no entry that is 1
pub no_entry : (entries : List ℕ) (id : ℕ) → Tell [] entries → slice_index entries id ≡ 1 → ⊥
no_entry entries id told one = elim (cases_lt id (length entries)) [
  | inl lt ↦ (let e : slice_index entries id ≡ 0 = told id lt in omega arith)
  | inr le ↦ (let e : slice_index entries id ≡ 0 = get_or_past entries id 0 le in omega arith)
]

-- a glyph whose entry is 1 is safe to draw
pub told_is_safe : (face : ℕ) (bytes : List ℕ) (v : Judgement) (set : List Bool) (entries : List ℕ) (id : ℕ) → IsRead face bytes → IsVerdictOn (font_file face bytes) v
    → AreHinted (font_file face bytes) v.refused set → Tell set entries → slice_index entries id ≡ 1 → HoldSafeGlyph (font_file face bytes) id
told_is_safe face bytes v set entries id read on hinted told one =
    let file = font_file face bytes in
    let tells : TellsMayHint file v.refused entries = tells_may_hint file v.refused set entries hinted told in
    glyph_is_safe file on.font v id read.are_bytes read.is_font on.reads on.given (one_may file v.refused entries id tells one)

-- and so are all glyphs whose entries are 1, where one is
pub told_are_safe_symbolic : (bytes : List ℕ) (v : Judgement) (set : List Bool) (entries : List ℕ) (id : ℕ)
    → IsSymbolicVerdictOn bytes v → AreHinted bytes v.refused set → Tell set entries → slice_index entries id ≡ 1 → HoldSymbolicSafeGlyphs bytes entries
told_are_safe_symbolic bytes v set entries id on hinted told one =
    let tells : TellsMayHint bytes v.refused entries = tells_may_hint bytes v.refused set entries hinted told in
    glyphs_are_safe_symbolic bytes on.font v entries id on.reads on.given (λ k e. one_may bytes v.refused entries k tells e) one

-- ---- the whole answer

pub answers_verdict : (bytes : List ℕ) (v : Judgement) (set : List Bool) (answer : HintcheckAnswer) (old new : List HintcheckRefusal) (entries : List ℕ) → IsVerdictOn bytes v
    → Answers v answer old new → AreHinted bytes v.refused set → Tell set entries → AnswersVerdict bytes answer old new entries
answers_verdict bytes v set answer old new entries on answered hinted told = record {
  font = on.font;
  reads = on.reads;
  judgement = v;
  given = on.given;
  answered = answered;
  told = tells_may_hint bytes v.refused set entries hinted told;
}

pub answers_symbolic_verdict : (bytes : List ℕ) (v : Judgement) (set : List Bool) (answer : HintcheckAnswer) (old new : List HintcheckRefusal) (entries : List ℕ) → IsSymbolicVerdictOn bytes v
    → Answers v answer old new → AreHinted bytes v.refused set → Tell set entries → AnswersSymbolicVerdict bytes answer old new entries
answers_symbolic_verdict bytes v set answer old new entries on answered hinted told = record {
  font = on.font;
  reads = on.reads;
  judgement = v;
  given = on.given;
  answered = answered;
  told = tells_may_hint bytes v.refused set entries hinted told;
}
