-- The sums over all chains of components that lead from a glyph to a glyph without components.
use Rattle.std.specs.Prelude.{◌≡◌, ℕ, ◌<◌, ◌⊎◌, ◌↔◌, List, [], ◌∷◌, length, slice_index}
use Rattle.std.specs.List.{sum_by}
use Rattle.tt_font.specs.Outlines.{Outline, parts}

-- the glyph that the i-th component of a glyph names
abbrev pub part_of : (ℕ → Outline) → ℕ → ℕ → ℕ
part_of outlines id i = slice_index (parts (outlines id)) i

-- a chain leads from a glyph to one without components: it says at each step by which component it
-- goes
abbrev pub IsChain : (ℕ → Outline) → ℕ → List ℕ → Type 0
IsChain outlines id [] = parts (outlines id) ≡ []
IsChain outlines id (i ∷ chain) =
    (i < length (parts (outlines id))) × IsChain outlines (part_of outlines id i) chain

-- the glyph to which a chain leads
abbrev pub end_of : (ℕ → Outline) → ℕ → List ℕ → ℕ
end_of outlines id [] = id
end_of outlines id (i ∷ chain) = end_of outlines (part_of outlines id i) chain

-- x is in a list
abbrev pub In : {X : Type 0} → X → List X → Type 0
In x [] = ⊥
In x (y ∷ ys) = (x ≡ y) ⊎ In x ys

-- nothing is in a list twice
abbrev pub Distinct : {X : Type 0} → List X → Type 0
Distinct [] = Unit {0}
Distinct (x ∷ xs) = (In x xs → ⊥) × Distinct xs

-- n is the sum, over all chains from a glyph, of what the glyphs at their ends have
pub record SumsChains (own : Outline → ℕ) (outlines : ℕ → Outline) (id n : ℕ) : Type 0 where
  pub all : List (List ℕ)
  pub once : Distinct all
  pub chains : (chain : List ℕ) → In chain all ↔ IsChain outlines id chain
  pub sum : n ≡ sum_by (λ chain. own (outlines (end_of outlines id chain))) all
