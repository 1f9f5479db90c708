-- A font whose programs have good families, one after the other.
use Rattle.std.specs.Prelude.{◌≡◌, ℕ, List, Option, Some, [], slice_get}
use Rattle.tt_code.specs.Cut.{Instruction, size}
use Rattle.tt_abs.specs.declared.state.State.{State}
use Rattle.tt_setting.specs.Entries.{Ascends}
use Rattle.tt_abs.specs.StateFlow.{Place}
use Rattle.tt_family.specs.GoodFamilies.{IsGoodFamily}
use Rattle.tt_font.specs.Reading.{FontData, GlyphData}
use Rattle.hintcheck_programs.specs.FontPrograms.{cvt_subject, font_of, font_subject, glyph_subject}
use Rattle.hintcheck_programs.specs.Programs.{HasGoodFamily, IsCutInto, Subject}

-- The program has these instructions, a family of abstract states is good for it, and these
-- functions are known where it ends.
pub record EndsGood (x : Subject) (instructions : List Instruction)
    (functions : List (ℕ × ℕ)) : Type 0 where
  pub cut : IsCutInto x instructions
  pub family : Place → Option State
  pub good : IsGoodFamily (x.setting instructions) x.functions family
  pub end : State
  pub at_end : family ([], size instructions) ≡ Some end
  pub functions_are : end.functions ≡ functions

-- The same, where these functions are also listed by ascending numbers.
pub record IsGoodAtEnd (x : Subject) (instructions : List Instruction)
    (functions : List (ℕ × ℕ)) : Type 0 where
  pub ends : EndsGood x instructions functions
  pub ascends : Ascends functions

-- Each program of the font has a good family: the CVT program's starts with what is known where the
-- font program ends, and a glyph program's with what is known where the CVT program ends.
pub record HasGoodFamilies (d : FontData) : Type 0 where
  pub font_program : List Instruction
  pub functions : List (ℕ × ℕ)
  pub font : EndsGood (font_subject d) font_program functions
  pub cvt_program : List Instruction
  pub known : List (ℕ × ℕ)
  pub cvt : EndsGood (cvt_subject d font_program functions) cvt_program known
  pub glyphs : (id : ℕ) (g : GlyphData) → slice_get d.glyphs id ≡ Some g
      → HasGoodFamily (glyph_subject (font_of d font_program cvt_program) known id g)
