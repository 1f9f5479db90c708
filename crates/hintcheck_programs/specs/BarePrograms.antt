-- How one glyph program is judged.
use Rattle.std.specs.Prelude.{ℕ, List, [], ◌∷◌}
use Rattle.tt_code.specs.Fonts.{Font}
use Rattle.tt_font.specs.Reading.{GlyphData}
use Rattle.tt_font.specs.declared.fault.FontFault.{FontFault}
use Rattle.tt_font.specs.declared.fault.FontFault.TheVariants.{OutOfMemory}
use Rattle.hintcheck_programs.specs.FontPrograms.{font_of, glyph_subject, one_glyph_font}
use Rattle.hintcheck_programs.specs.Programs.{HasGoodFamily, HasLeastFamily, IsRefusal, Subject}
use Rattle.hintcheck_report.specs.declared.refused.Refused.{Refused}

-- a growth of memory was refused
abbrev pub IsMemory : FontFault → Type 0
IsMemory (OutOfMemory e) = Unit {0}
IsMemory _ = ⊥

-- the glyph with these numbers of points and contours and with this program
abbrev pub glyph_with : ℕ → ℕ → List ℕ → GlyphData
glyph_with points contours program =
    record { points = points; contours = contours; program = program }

-- the font that has only this glyph, by the fields of a `maxp` table and the number of control
-- values
abbrev pub bare_font : List ℕ → ℕ → GlyphData → Font
bare_font maxp cvt glyph = font_of (one_glyph_font maxp cvt glyph) [] []

-- the glyph's program, as it is checked in that font
abbrev pub bare_subject : List ℕ → ℕ → GlyphData → Subject
bare_subject maxp cvt glyph = glyph_subject (bare_font maxp cvt glyph) [] 0 glyph

-- These are the refused programs where this is the only one: none, and it has its least family; or
-- this one, and it has no good family.
abbrev pub IsJudged : Subject → List Refused → Type 0
IsJudged x [] = HasLeastFamily x
IsJudged x (r ∷ []) = IsRefusal x r × (HasGoodFamily x → ⊥)
IsJudged x (r ∷ q ∷ rs) = ⊥
