-- Sets of glyphs, and how they shrink step by step. (Representation.)
use Rattle.std.specs.Prelude.{◌≡◌, ℕ, ◌<◌, List, length, Bool, true, false, slice_index_or}
use Rattle.tt_font.specs.Outlines.{Outline, parts}
use Rattle.tt_font.specs.Chains.{part_of}
use Rattle.hintcheck_c.specs.MayHint.{Reaches}

-- whether a glyph is in a set, which has a bool for each glyph
abbrev pub is_in : List Bool → ℕ → Bool
is_in set id = slice_index_or set id false

-- each glyph that a glyph reaches is in a set
abbrev pub HasAllReached : (ℕ → Outline) → List Bool → ℕ → Type 0
HasAllReached outlines set id = (other : ℕ) → Reaches outlines id other → is_in set other ≡ true

-- a glyph that isn't in a set is reached
pub record ReachesOutside (outlines : ℕ → Outline) (set : List Bool) (id : ℕ) : Type 0 where
  pub other : ℕ
  pub reached : Reaches outlines id other
  pub outside : is_in set other ≡ false

-- Glyphs are taken out of a set: those that stay were in it, and so were their components; from
-- those that aren't in it afterwards, one that wasn't in it before is reached.
pub record TakesOut (outlines : ℕ → Outline) (before after : List Bool) : Type 0 where
  pub len : length after ≡ length before
  pub stays : (id : ℕ) → is_in after id ≡ true → is_in before id ≡ true
  pub parts_stay : (id i : ℕ) → is_in after id ≡ true → i < length (parts (outlines id))
      → is_in before (part_of outlines id i) ≡ true
  pub cause : (id : ℕ) → is_in after id ≡ false → ReachesOutside outlines before id
