-- The component list of a composite glyph (OpenType specification, `glyf`, "Composite glyph
-- description").
use Rattle.std.specs.Prelude.{ℕ, zero, suc, ◌+◌, List, [], ◌∷◌, length, map, Bool, not, nat_le, ◌==◌, Option, Some, None, if◌then◌else◌}
use Rattle.std.specs.Int.Bits.{bit_and}
use Rattle.tt_font.specs.declared.component.Component.{Component}
use Rattle.tt_font.specs.Numbers.{u16_at}

-- some flag of a mask is set
abbrev pub has_flag : ℕ → ℕ → Bool
has_flag flags mask = not (bit_and flags mask == 0)

-- ARG_1_AND_2_ARE_WORDS: the two arguments have two bytes each; otherwise they have one each
abbrev pub argument_size : ℕ → ℕ
argument_size flags = if has_flag flags 0x0001 then 4 else 2

-- how many bytes the scale has, by WE_HAVE_A_SCALE, WE_HAVE_AN_X_AND_Y_SCALE and
-- WE_HAVE_A_TWO_BY_TWO: where several are set, the first of them counts
abbrev pub scale_size : ℕ → ℕ
scale_size flags =
    if has_flag flags 0x0008 then 2 else
    (if has_flag flags 0x0040 then 4 else
    (if has_flag flags 0x0080 then 8 else 0))

-- MORE_COMPONENTS: another component follows
abbrev pub has_more : ℕ → Bool
has_more flags = has_flag flags 0x0020

-- WE_HAVE_INSTRUCTIONS: the program follows
abbrev pub has_instructions : ℕ → Bool
has_instructions flags = has_flag flags 0x0100

-- how many bytes a component has: its flags, its glyph, its arguments and its scale
unfoldable pub component_size : ℕ → ℕ
component_size flags = 4 + argument_size flags + scale_size flags

-- the component at an offset, if all its bytes are there
unfoldable pub component_at : ℕ → List ℕ → Option Component
component_at place glyph =
    if nat_le (place + component_size (u16_at place glyph)) (length glyph)
    then Some (record {
      flags = u16_at place glyph;
      glyph = u16_at (place + 2) glyph;
      after = place + component_size (u16_at place glyph);
    })
    else None

-- a component, and after it those that `more` lists, if it says that another one follows
abbrev pub listed : (ℕ → List Component) → Option Component → List Component
listed more None = []
listed more (Some c) = c ∷ (if has_more c.flags then more c.after else [])

-- the components from an offset on, as far as their bytes are there, at most n
unfoldable pub components_from : ℕ → ℕ → List ℕ → List Component
components_from zero place glyph = []
components_from (suc n) place glyph =
    listed (λ after. components_from n after glyph) (component_at place glyph)

-- the components from an offset on, as far as their bytes are there: there are never more of them
-- than bytes
unfoldable pub components_at : ℕ → List ℕ → List Component
components_at place glyph = components_from (length glyph) place glyph

-- the components of a glyph follow its header
abbrev pub components : List ℕ → List Component
components glyph = components_at 10 glyph

-- the glyphs that components name
abbrev pub glyphs_named : List Component → List ℕ
glyphs_named cs = map (λ c. c.glyph) cs

-- the component that ends a list: the first after which no other one follows
abbrev pub last_of : List Component → Option Component
last_of [] = None
last_of (c ∷ cs) = if has_more c.flags then last_of cs else Some c
