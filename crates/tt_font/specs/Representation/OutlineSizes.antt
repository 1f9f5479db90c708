-- How the sizes of all glyphs' outlines are summed, iteration by iteration. (Representation.)
use Rattle.std.specs.Prelude.{◌≡◌, ℕ, zero, suc, ◌<◌, ◌≤◌, ◌||◌, List, length, slice_index_or, Bool, true, not, nat_lt, min}
use Rattle.std.specs.List.{sum_by, list_any}
use Rattle.tt_font.specs.declared.glyph_table.GlyphTable.{GlyphTable}
use Rattle.tt_font.specs.declared.outline_size.OutlineSize.{OutlineSize}
use Rattle.tt_font.specs.Outlines.{Outline, simple, composite, parts, own_points, own_contours, total}
use Rattle.tt_font.specs.PlacedGlyphs.{outlines_in}

-- a glyph has components
abbrev pub has_parts : Outline → Bool
has_parts outline = nat_lt 0 (length (parts outline))

-- whether a glyph's chains are at fault after k iterations: a chain of at most k steps leads out of
-- the font, or one of k + 1 steps starts
unfoldable pub is_unresolved : ℕ → (ℕ → Outline) → ℕ → ℕ → Bool
is_unresolved count outlines zero id = has_parts (outlines id)
is_unresolved count outlines (suc k) id =
    list_any (λ part. not (nat_lt part count) || is_unresolved count outlines k part)
    (parts (outlines id))

-- the size of a glyph that the font doesn't have: a chain to it leads out
abbrev pub missing_size : OutlineSize
missing_size = record { unresolved = true; points = 0; contours = 0 }

-- the size of a glyph, by its number
abbrev pub size_at : List OutlineSize → ℕ → OutlineSize
size_at sizes id = slice_index_or sizes id missing_size

-- no size has more than 65,536 points
abbrev pub PointsAreCapped : List OutlineSize → Type 0
PointsAreCapped sizes = (id : ℕ) → (size_at sizes id).points ≤ 65536

-- no size has more than 65,536 contours
abbrev pub ContoursAreCapped : List OutlineSize → Type 0
ContoursAreCapped sizes = (id : ℕ) → (size_at sizes id).contours ≤ 65536

-- none of the first n sizes has more points than a glyph may have
abbrev pub PointsFit : List OutlineSize → ℕ → Type 0
PointsFit sizes n = (id : ℕ) → id < n → (size_at sizes id).points ≤ 65535

-- none of the first n sizes has more contours than a glyph may have
abbrev pub ContoursFit : List OutlineSize → ℕ → Type 0
ContoursFit sizes n = (id : ℕ) → id < n → (size_at sizes id).contours ≤ 65535

-- the sum of the sizes of some glyphs, where numbers above 65,535 count as 65,536
pub record AddsUp (sizes : List OutlineSize) (numbers : List ℕ) (sum : OutlineSize) : Type 0 where
  pub unresolved : sum.unresolved ≡ list_any (λ id. (size_at sizes id).unresolved) numbers
  pub points : sum.points ≡ min (sum_by (λ id. (size_at sizes id).points) numbers) 65536
  pub contours : sum.contours ≡ min (sum_by (λ id. (size_at sizes id).contours) numbers) 65536

-- a size after one more iteration: a composite glyph's is the sum of its parts' sizes, another one
-- stays
abbrev pub NextSize : List OutlineSize → Outline → OutlineSize → OutlineSize → Type 0
NextSize sizes (simple points contours) old new = new ≡ old
NextSize sizes (composite numbers) old new = AddsUp sizes numbers new

-- the first n sizes after one more iteration
pub record NextSizes (outlines : ℕ → Outline) (sizes : List OutlineSize) (n : ℕ)
    (next : List OutlineSize) : Type 0 where
  pub len : length next ≡ n
  pub each : (id : ℕ) → id < n → NextSize sizes (outlines id) (size_at sizes id) (size_at next id)

-- the size of a glyph after k iterations
pub record SizeIs (count : ℕ) (outlines : ℕ → Outline) (k id : ℕ) (size : OutlineSize)
    : Type 0 where
  pub unresolved : size.unresolved ≡ is_unresolved count outlines k id
  pub points : size.points ≡ min (total own_points outlines k id) 65536
  pub contours : size.contours ≡ min (total own_contours outlines k id) 65536

-- the sizes of the first n glyphs after k iterations
pub record SizesAre (count : ℕ) (outlines : ℕ → Outline) (k n : ℕ) (sizes : List OutlineSize)
    : Type 0 where
  pub len : length sizes ≡ n
  pub each : (id : ℕ) → id < n → SizeIs count outlines k id (size_at sizes id)

-- the sizes of all glyphs after k iterations
abbrev pub SizesAfter : GlyphTable → ℕ → List OutlineSize → Type 0
SizesAfter glyphs k sizes = SizesAre glyphs.count (outlines_in glyphs) k glyphs.count sizes

-- whether a size after the last iteration is a fault of its glyph
abbrev pub size_refuses : OutlineSize → Bool
size_refuses size = size.unresolved || (nat_lt 65535 size.points || nat_lt 65535 size.contours)

-- each size has the points of its glyph, and the contours
abbrev pub AreTotals : (ℕ → Outline) → ℕ → List OutlineSize → Type 0
AreTotals outlines count sizes = (id : ℕ) → id < count
    → ((size_at sizes id).points ≡ total own_points outlines 16 id)
    × ((size_at sizes id).contours ≡ total own_contours outlines 16 id)

-- the same of all glyphs of a font
abbrev pub HasTotals : GlyphTable → List OutlineSize → Type 0
HasTotals glyphs sizes = AreTotals (outlines_in glyphs) glyphs.count sizes
