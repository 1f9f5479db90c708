-- Glyphs as points and contours of their own, or as lists of other glyphs (OpenType specification,
-- `glyf`).
use Rattle.std.specs.Prelude.{ℕ, zero, suc, ◌+◌, ◌||◌, List, [], Bool, true, false, not, nat_lt, if◌then◌else◌}
use Rattle.std.specs.List.{sum_by, list_any}
use Rattle.tt_font.specs.Components.{components, glyphs_named}
use Rattle.tt_font.specs.Glyphs.{is_composite, simple_points, simple_contours}

-- a glyph has points and contours of its own, or it is made of the glyphs of these numbers
pub data Outline : Type 0 where
  simple : ℕ → ℕ → Outline
  composite : List ℕ → Outline

-- the outline of a glyph, from its bytes
unfoldable pub outline_of : List ℕ → Outline
outline_of glyph =
    if is_composite glyph then composite (glyphs_named (components glyph))
    else simple (simple_points glyph) (simple_contours glyph)

-- the outlines of a font, by the bytes of its glyphs; past the last glyph there is an empty one
unfoldable pub outlines_of : ℕ → (ℕ → List ℕ) → ℕ → Outline
outlines_of count glyphs id = if nat_lt id count then outline_of (glyphs id) else simple 0 0

-- the glyphs of which a glyph is made
abbrev pub parts : Outline → List ℕ
parts (simple points contours) = []
parts (composite numbers) = numbers

-- its own points
abbrev pub own_points : Outline → ℕ
own_points (simple points contours) = points
own_points (composite numbers) = 0

-- its own contours
abbrev pub own_contours : Outline → ℕ
own_contours (simple points contours) = contours
own_contours (composite numbers) = 0

-- ---- chains of components: each step goes from a glyph to one of its parts

-- a chain of at most k steps leads from a glyph to a number that isn't below the number of glyphs
unfoldable pub leads_out : ℕ → (ℕ → Outline) → ℕ → ℕ → Bool
leads_out count outlines zero id = false
leads_out count outlines (suc k) id =
    list_any (λ part. not (nat_lt part count) || leads_out count outlines k part)
    (parts (outlines id))

-- a chain of k steps starts from a glyph
unfoldable pub starts_chain : (ℕ → Outline) → ℕ → ℕ → Bool
starts_chain outlines zero id = true
starts_chain outlines (suc k) id = list_any (starts_chain outlines k) (parts (outlines id))

-- the sum, over all chains of at most k steps from a glyph, of the own points, or contours, of the
-- glyph to which the chain leads
unfoldable pub total : (Outline → ℕ) → (ℕ → Outline) → ℕ → ℕ → ℕ
total own outlines zero id = own (outlines id)
total own outlines (suc k) id =
    own (outlines id) + sum_by (total own outlines k) (parts (outlines id))

-- a glyph is at fault: a chain of at most 16 steps leads out of the font, one of 17 steps starts,
-- or there are more than 65,535 points or contours. (Own: these bounds; `maxComponentDepth` isn't
-- read.)
unfoldable pub refused : ℕ → (ℕ → Outline) → ℕ → Bool
refused count outlines id =
    leads_out count outlines 16 id || (starts_chain outlines 17 id
    || (nat_lt 65535 (total own_points outlines 16 id)
    || nat_lt 65535 (total own_contours outlines 16 id)))
