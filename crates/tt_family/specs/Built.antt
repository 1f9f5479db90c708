-- What always holds of a builder's fields.
use Rattle.std.specs.Prelude.{◌≡◌, ℕ, ◌+◌, ◌≤◌, Some, List, slice_get}
use Rattle.std.specs.declared.cmp.Ordering.{Ordering}
use Rattle.std.specs.declared.cmp.Ordering.TheVariants.{Less}
use Rattle.std.specs.Ordering.{nat_cmp, ordering_then}
use Rattle.std.specs.BTreeMap.{BTreeMap, get}
use Rattle.tt_code.specs.declared.machine.Frame.{Frame}
use Rattle.tt_abs.specs.declared.state.State.{State}
use Rattle.tt_family.specs.Contexts.{frames_of}
use Rattle.tt_family.specs.Contents.{IsFamily}

-- parent, call, body, turn and count, in the order of the file
abbrev pub Key : Type 0
Key = ℕ × ℕ × ℕ × ℕ × ℕ

-- contexts ascend by the first of these numbers that differ
abbrev pub key_cmp : Key → Key → Ordering
key_cmp x y =
    ordering_then
    (ordering_then
    (ordering_then (ordering_then (nat_cmp x.0 y.0) (nat_cmp x.1 y.1)) (nat_cmp x.2 y.2))
    (nat_cmp x.3 y.3))
    (nat_cmp x.4 y.4)

-- the key of a context with this parent and this last frame
abbrev pub key_of : ℕ × Frame → Key
key_of e = (e.0, e.1.call, e.1.body, e.1.turn, e.1.count)

-- each parent comes before; the index has each entry's number and no more; the contexts and the
-- states are a family
pub record IsBuilt (entries : List (ℕ × Frame)) (index : BTreeMap Key ℕ)
    (states : List ((ℕ × ℕ) × State)) : Type 0 where
  pub parents : (i : ℕ) (e : ℕ × Frame) → slice_get entries i ≡ Some e → e.0 ≤ i
  pub indexed : (k : Key) (n : ℕ) → get key_cmp index k ≡ Some n
      → (i : ℕ) × (e : ℕ × Frame) × (n ≡ i + 1) × (slice_get entries i ≡ Some e) × (key_of e ≡ k)
  pub found : (i : ℕ) (e : ℕ × Frame) → slice_get entries i ≡ Some e
      → get key_cmp index (key_of e) ≡ Some (i + 1)
  pub family : IsFamily (record { contexts = frames_of entries; states = states })

-- each entry's key is above that of the one before
abbrev pub AscendsByKey : List (ℕ × Frame) → Type 0
AscendsByKey entries =
    (i : ℕ) (d e : ℕ × Frame) → slice_get entries i ≡ Some d → slice_get entries (i + 1) ≡ Some e
    → key_cmp (key_of d) (key_of e) ≡ Less
