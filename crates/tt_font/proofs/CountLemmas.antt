-- How many components the glyphs of a font list, and their outlines.
use Rattle.std.specs.Prelude.{◌≡◌, ℕ, zero, suc, ◌+◌, ◌<◌, ◌≤◌, List, length, true, false, if◌then◌else◌}
use Rattle.std.proofs.Common.{refl, ap, arith, inl, inr}
use Rattle.std.proofs.lemmas.Bool.{cases_eq, lt-ltb, le-ltb}
use Rattle.tt_font.specs.Glyphs.{is_composite, component_count, component_total}
use Rattle.tt_font.specs.Components.{components}
use Rattle.tt_font.specs.Outlines.{simple, outline_of, outlines_of}

pub counts_components : (glyph : List ℕ) → is_composite glyph ≡ true → component_count glyph ≡ length (components glyph)
unfolding component_count
counts_components glyph e = ap (λ b. if b then length (components glyph) else 0) e

pub counts_none : (glyph : List ℕ) → is_composite glyph ≡ false → component_count glyph ≡ 0
unfolding component_count
counts_none glyph e = ap (λ b. if b then length (components glyph) else 0) e

pub total_of_none : (glyphs : ℕ → List ℕ) → component_total glyphs 0 ≡ 0
unfolding component_total
total_of_none glyphs = refl

pub total_more : (glyphs : ℕ → List ℕ) (n : ℕ) → component_total glyphs (n + 1) ≡ component_total glyphs n + component_count (glyphs n)
unfolding component_total
total_more glyphs n = let e : n + 1 ≡ suc n = omega arith in ap (component_total glyphs) e

pub total_ascends : (glyphs : ℕ → List ℕ) (i n : ℕ) → i ≤ n → component_total glyphs i ≤ component_total glyphs n
unfolding component_total
total_ascends glyphs i zero le = let e : i ≡ 0 = omega arith in let same = ap (component_total glyphs) e in omega arith
total_ascends glyphs i (suc n) le = elim (cases_eq i (suc n)) [
  | inl same ↦ (let e = ap (component_total glyphs) same in omega arith)
  | inr other ↦ (let rest = total_ascends glyphs i n (omega arith) in omega arith)
]

pub outline_below : (count : ℕ) (glyphs : ℕ → List ℕ) (id : ℕ) → id < count → outlines_of count glyphs id ≡ outline_of (glyphs id)
unfolding outlines_of
outline_below count glyphs id lt = ap (λ b. if b then outline_of (glyphs id) else simple 0 0) (lt-ltb id count lt)

pub outline_past : (count : ℕ) (glyphs : ℕ → List ℕ) (id : ℕ) → count ≤ id → outlines_of count glyphs id ≡ simple 0 0
unfolding outlines_of
outline_past count glyphs id le = ap (λ b. if b then outline_of (glyphs id) else simple 0 0) (le-ltb id count le)
