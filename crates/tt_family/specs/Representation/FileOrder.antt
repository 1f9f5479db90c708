-- The numbers of contexts in the order of the file.
use Rattle.std.specs.Prelude.{◌≡◌, ◌==◌, ℕ, ◌<◌, Some, List, length, map, slice_get}
use Rattle.std.specs.List.{filter}
use Rattle.std.specs.Map.{values_of}
use Rattle.tt_code.specs.declared.machine.Frame.{Frame}
use Rattle.tt_family.specs.Contents.{frames_at}
use Rattle.tt_family.specs.Built.{Key}
use Rattle.tt_family.specs.Ascending.{IsAscending}

-- the numbers of a context's children, in the order of the index
abbrev pub children : List (Key × ℕ) → ℕ → List ℕ
children entries parent = values_of (filter (λ e. e.0.0 == parent) entries)

-- the contexts of these numbers
abbrev pub in_order : List (List Frame) → List ℕ → List (List Frame)
in_order contexts order = map (frames_at contexts) order

-- each context once, the empty one first, and each after its parent, by ascending keys
pub record IsFileOrder (contexts : List (List Frame)) (order : List ℕ) : Type 0 where
  pub first : slice_get order 0 ≡ Some 0
  pub within : (i n : ℕ) → slice_get order i ≡ Some n → n < length contexts
  pub once : (i j n : ℕ) → slice_get order i ≡ Some n → slice_get order j ≡ Some n → i ≡ j
  pub all : (n : ℕ) → n < length contexts → (i : ℕ) × (slice_get order i ≡ Some n)
  pub ascending : IsAscending (in_order contexts order)

-- the place of each context in the order
pub record ArePlaces (contexts : List (List Frame)) (order places : List ℕ) : Type 0 where
  pub long : length places ≡ length contexts
  pub at : (i n : ℕ) → slice_get order i ≡ Some n → slice_get places n ≡ Some i
