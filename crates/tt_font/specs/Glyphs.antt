-- What the bytes of a glyph say (OpenType specification, `glyf`).
use Rattle.std.specs.Prelude.{ℕ, zero, suc, ◌+◌, ◌*◌, ◌&&◌, List, [], length, slice_range, Bool, nat_le, nat_lt, ◌==◌, Option, Some, None, if◌then◌else◌}
use Rattle.tt_font.specs.declared.component.Component.{Component}
use Rattle.tt_font.specs.Numbers.{u16_at}
use Rattle.tt_font.specs.Components.{components, last_of, has_instructions}

-- numberOfContours, which begins the header: an int16, read here as a u16
abbrev pub contour_count : List ℕ → ℕ
contour_count glyph = u16_at 0 glyph

-- the glyph has a header, in which numberOfContours is negative: it is made of components
abbrev pub is_composite : List ℕ → Bool
is_composite glyph = nat_le 10 (length glyph) && nat_le 0x8000 (contour_count glyph)

-- how many components a glyph lists
unfoldable pub component_count : List ℕ → ℕ
component_count glyph = if is_composite glyph then length (components glyph) else 0

-- how many components the first n glyphs list
unfoldable pub component_total : (ℕ → List ℕ) → ℕ → ℕ
component_total glyphs zero = 0
component_total glyphs (suc n) = component_total glyphs n + component_count (glyphs n)

-- the program at an offset, where its length comes first; none where the glyph's bytes end before
-- the program does
unfoldable pub program_at : ℕ → List ℕ → Option (List ℕ)
program_at place glyph =
    if nat_le (place + 2 + u16_at place glyph) (length glyph)
    then Some (slice_range glyph (place + 2) (place + 2 + u16_at place glyph))
    else None

-- the program of a simple glyph: endPtsOfContours follows the header, with two bytes for each
-- contour, and then the program; without contours a glyph may end with its header
abbrev pub simple_program : List ℕ → Option (List ℕ)
simple_program glyph =
    if contour_count glyph == 0 && length glyph == 10 then Some []
    else program_at (10 + 2 * contour_count glyph) glyph

-- the program of a composite glyph: it follows the last component where that one says so, and is
-- empty where that one doesn't; none where there is no last component
abbrev pub composite_program : List ℕ → Option Component → Option (List ℕ)
composite_program glyph None = None
composite_program glyph (Some last) =
    if has_instructions last.flags then program_at last.after glyph else Some []

-- the program of a glyph, or none where the glyph's bytes end before the program does; a glyph
-- without data has an empty one
unfoldable pub program_of : List ℕ → Option (List ℕ)
program_of glyph =
    if is_composite glyph then composite_program glyph (last_of (components glyph)) else
    (if nat_le 10 (length glyph) then simple_program glyph else
    (if length glyph == 0 then Some [] else None))

-- the points of a glyph that isn't composite: one more than the end point of the last contour
unfoldable pub simple_points : List ℕ → ℕ
simple_points glyph =
    if nat_le 10 (length glyph) && nat_lt 0 (contour_count glyph)
    then u16_at (8 + 2 * contour_count glyph) glyph + 1
    else 0

-- the contours of a glyph that isn't composite
unfoldable pub simple_contours : List ℕ → ℕ
simple_contours glyph = if nat_le 10 (length glyph) then contour_count glyph else 0
