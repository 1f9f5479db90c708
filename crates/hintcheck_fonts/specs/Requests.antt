-- The verdict on a font, or on one glyph program, by the profile that is asked for.
use Rattle.std.specs.Prelude.{◌≡◌, ◌⊎◌, ℕ, List}
use Rattle.tt_code.specs.Fonts.{Font}
use Rattle.tt_font.specs.Reading.{FontData, GlyphData}
use Rattle.hintcheck_fonts.specs.FontAnswers.{IsSymbolicVerdictOn, IsVerdictOn}
use Rattle.hintcheck_programs.specs.FontPrograms.{IsSafeGlyph, IsVerdict}
use Rattle.hintcheck_fonts.specs.SymbolicVerdicts.{IsSafeAlone, IsSymbolicVerdict}
use Rattle.hintcheck_programs.specs.Verdicts.{Judgement}
use Rattle.hintcheck_fonts.specs.declared.request.Request.{Request}
use Rattle.hintcheck_fonts.specs.declared.request.Request.TheVariants.{Strict, Symbolic}

-- a verdict as is asked on the font
abbrev pub GivesVerdict : Request → FontData → Judgement → Type 0
GivesVerdict Strict d v = IsVerdict d v
GivesVerdict (Symbolic steps) d v = IsSymbolicVerdict d v

-- the verdict is one as is asked on the font that is in the bytes
abbrev pub IsVerdictAsked : Request → List ℕ → Judgement → Type 0
IsVerdictAsked Strict bytes v = IsVerdictOn bytes v
IsVerdictAsked (Symbolic steps) bytes v = IsSymbolicVerdictOn bytes v

-- Where both profiles may be asked, a verdict is the strict one's, or the symbolic one's within so
-- many steps.
abbrev pub IsByEither : ℕ → Request → Type 0
IsByEither steps by = (by ≡ Strict) ⊎ (by ≡ Symbolic steps)

-- A glyph's program is safe in the way in which the profile's acceptance says it of one program.
abbrev pub IsSafeAsked : Request → Font → GlyphData → Type 0
IsSafeAsked Strict font glyph = IsSafeGlyph font glyph
IsSafeAsked (Symbolic steps) font glyph = IsSafeAlone font glyph
