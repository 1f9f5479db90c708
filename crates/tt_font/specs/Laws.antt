-- What the recursive definitions mean, each in one statement about positions or chains.
use Rattle.std.specs.Prelude.{◌≡◌, ℕ, ◌+◌, ◌<◌, ◌≤◌, ◌⊎◌, ◌↔◌, List, [], ◌∷◌, length, Bool, true, false, Option, MatchOption}
use Rattle.tt_font.specs.declared.component.Component.{Component}
use Rattle.tt_font.specs.Numbers.{u16_at, first_below}
use Rattle.tt_font.specs.Components.{component_size, has_more, components, last_of}
use Rattle.tt_font.specs.Outlines.{Outline, parts, leads_out, starts_chain}
use Rattle.tt_font.specs.Chains.{part_of, end_of}

-- ---- the least number that passes a test

-- the option is the least number below n that passes a test, or none where no number below n does
abbrev pub IsLeastBelow : (ℕ → Bool) → ℕ → Option ℕ → Type 0
IsLeastBelow test n least =
    MatchOption least ((i : ℕ) → i < n → test i ≡ false)
    (λ i. (i < n) × (test i ≡ true) × ((j : ℕ) → j < i → test j ≡ false))

-- `first_below` finds the least one
abbrev pub FindsLeast : Type 0
FindsLeast = (test : ℕ → Bool) (n : ℕ) → IsLeastBelow test n (first_below test n)

-- ---- the components of a glyph

-- a component is at an offset of a glyph
pub record IsAt (bytes : List ℕ) (place : ℕ) (c : Component) : Type 0 where
  pub flags : c.flags ≡ u16_at place bytes
  pub glyph : c.glyph ≡ u16_at (place + 2) bytes
  pub after : c.after ≡ place + component_size (u16_at place bytes)
  pub within : c.after ≤ length bytes

-- components follow one after the other from an offset on: each but the last says that another one
-- follows, and the last that none does
abbrev pub IsComponentList : List ℕ → ℕ → List Component → Type 0
IsComponentList bytes place [] = ⊥
IsComponentList bytes place (c ∷ cs) = IsAt bytes place c
    × (((has_more c.flags ≡ true) × IsComponentList bytes c.after cs)
    ⊎ ((has_more c.flags ≡ false) × (cs ≡ [])))

-- where there is a last component, the components are the one list that follows the header, and
-- else there is no such list
abbrev pub ListsComponents : Type 0
ListsComponents = (bytes : List ℕ)
    → MatchOption (last_of (components bytes))
    ((cs : List Component) → IsComponentList bytes 10 cs → ⊥)
    (λ last. IsComponentList bytes 10 (components bytes)
    × ((cs : List Component) → IsComponentList bytes 10 cs → cs ≡ components bytes))

-- ---- chains of components

-- a way of some steps from a glyph: each step says by which component it goes
abbrev pub IsWay : (ℕ → Outline) → ℕ → List ℕ → Type 0
IsWay outlines id [] = Unit {0}
IsWay outlines id (i ∷ way) =
    (i < length (parts (outlines id))) × IsWay outlines (part_of outlines id i) way

-- a way of k steps
pub record HasWay (outlines : ℕ → Outline) (k id : ℕ) : Type 0 where
  pub way : List ℕ
  pub len : length way ≡ k
  pub steps : IsWay outlines id way

-- `starts_chain` says whether there is one
abbrev pub StartsWays : Type 0
StartsWays = (outlines : ℕ → Outline) (k id : ℕ)
    → (starts_chain outlines k id ≡ true) ↔ HasWay outlines k id

-- a way of one to k steps that ends at a number that isn't below the number of glyphs
pub record HasWayOut (count : ℕ) (outlines : ℕ → Outline) (k id : ℕ) : Type 0 where
  pub way : List ℕ
  pub some : 0 < length way
  pub len : length way ≤ k
  pub steps : IsWay outlines id way
  pub out : count ≤ end_of outlines id way

-- `leads_out` says whether there is one
abbrev pub FindsWaysOut : Type 0
FindsWaysOut = (count : ℕ) (outlines : ℕ → Outline) (k id : ℕ)
    → (leads_out count outlines k id ≡ true) ↔ HasWayOut count outlines k id
