-- What an answer means by the profile whose number it tells: 0 the strict one, otherwise the symbolic
-- one.
use Rattle.std.specs.Prelude.{ℕ, zero, suc, List}
use Rattle.hintcheck_fonts.specs.FontAnswers.{HoldSafeFont, HoldSymbolicSafeFont}
use Rattle.hintcheck_c.specs.Answers.{AnswersSymbolicVerdict, AnswersVerdict}
use Rattle.hintcheck_c.specs.MayHint.{HoldSafeGlyph, HoldSymbolicSafeGlyphs}
use Rattle.hintcheck_c.specs.declared.answer.HintcheckAnswer.{HintcheckAnswer}
use Rattle.hintcheck_c.specs.declared.refusal.HintcheckRefusal.{HintcheckRefusal}

-- the bytes hold a font that is safe by the profile
abbrev pub HoldSafeFontBy : ℕ → List ℕ → Type 0
HoldSafeFontBy zero bytes = HoldSafeFont bytes
HoldSafeFontBy (suc n) bytes = HoldSymbolicSafeFont bytes

-- what it means by the profile that the entry of this glyph is 1
abbrev pub HoldSafeGlyphBy : ℕ → List ℕ → List ℕ → ℕ → Type 0
HoldSafeGlyphBy zero bytes entries id = HoldSafeGlyph bytes id
HoldSafeGlyphBy (suc n) bytes entries id = HoldSymbolicSafeGlyphs bytes entries

-- the answer is the profile's verdict on the font in the bytes, and the array says of each glyph
-- whether it may be drawn with hints
abbrev pub AnswersVerdictBy : ℕ → List ℕ → HintcheckAnswer → List HintcheckRefusal
    → List HintcheckRefusal → List ℕ → Type 0
AnswersVerdictBy zero bytes answer old new entries = AnswersVerdict bytes answer old new entries
AnswersVerdictBy (suc n) bytes answer old new entries =
    AnswersSymbolicVerdict bytes answer old new entries
