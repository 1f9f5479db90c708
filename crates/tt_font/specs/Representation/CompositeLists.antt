-- The composite glyphs of a font, and sizes that agree on the other ones. (Representation.)
use Rattle.std.specs.Prelude.{◌≡◌, ℕ, ◌<◌, List, length, true, false}
use Rattle.std.specs.List.{Contains, sum_by}
use Rattle.tt_font.specs.declared.glyph_table.GlyphTable.{GlyphTable}
use Rattle.tt_font.specs.declared.outline_size.OutlineSize.{OutlineSize}
use Rattle.tt_font.specs.Glyphs.{is_composite, component_count, component_total}
use Rattle.tt_font.specs.PlacedGlyphs.{glyphs_of}
use Rattle.tt_font.specs.Representation.OutlineSizes.{size_at}

-- the numbers of the composite glyphs among the first n: together these list as many components as
-- the first n glyphs do, so that none that has components is there twice
pub record AreComposites (glyphs : ℕ → List ℕ) (n : ℕ) (numbers : List ℕ) : Type 0 where
  pub inside : (id : ℕ) → Contains numbers id → id < n
  pub composite : (id : ℕ) → Contains numbers id → is_composite (glyphs id) ≡ true
  pub all : (id : ℕ) → id < n → is_composite (glyphs id) ≡ true → Contains numbers id
  pub once : sum_by (λ id. component_count (glyphs id)) numbers ≡ component_total glyphs n

-- the numbers of all composite glyphs of a font
abbrev pub AreAllComposites : GlyphTable → List ℕ → Type 0
AreAllComposites glyphs numbers = AreComposites (glyphs_of glyphs) glyphs.count numbers

-- the second list has n sizes, and of the first n glyphs those that aren't composite have the same
-- sizes in both
pub record AgreeOnSimple (glyphs : ℕ → List ℕ) (n : ℕ) (sizes other : List OutlineSize)
    : Type 0 where
  pub len : length other ≡ n
  pub each : (id : ℕ) → id < n → is_composite (glyphs id) ≡ false
      → size_at other id ≡ size_at sizes id
