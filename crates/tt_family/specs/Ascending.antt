-- Contexts in the order of the file, and two contents with one family.
use Rattle.std.specs.Prelude.{◌≡◌, ◌↔◌, ℕ, ◌<◌, cond, Option, Some, None, List, ◌∷◌, length, slice_get}
use Rattle.std.specs.declared.cmp.Ordering.TheVariants.{Less}
use Rattle.tt_code.specs.declared.machine.Frame.{Frame}
use Rattle.tt_abs.specs.declared.state.State.{State}
use Rattle.tt_family.specs.Contents.{Contents, HasContext, IsFamily, family_of, frames_at, number_of}
use Rattle.tt_family.specs.Built.{key_cmp, key_of}
use Rattle.tt_family.specs.Places.{has_point}

-- the context of this number has this parent, which comes before, and this last frame
abbrev pub IsContextAt : List (List Frame) → ℕ → ℕ × Frame → Type 0
IsContextAt contexts n e =
    (n < length contexts) × (e.0 < n) × (frames_at contexts n ≡ e.1 ∷ frames_at contexts e.0)

-- each context except for the empty one has a parent that comes before, and contexts ascend by
-- parent, call, body, turn and count
pub record IsAscending (contexts : List (List Frame)) : Type 0 where
  pub parents : (n : ℕ) → 0 < n → n < length contexts → (e : ℕ × Frame) × IsContextAt contexts n e
  pub ascends : (m n : ℕ) (d e : ℕ × Frame) → m < n
      → IsContextAt contexts m d → IsContextAt contexts n e
      → key_cmp (key_of d) (key_of e) ≡ Less

-- the same contexts, whatever their numbers, and the same state at each point
pub record SameContents (old new : Contents) : Type 0 where
  pub contexts : (frames : List Frame)
      → HasContext old.contexts frames ↔ HasContext new.contexts frames
  pub family : (point : List Frame × ℕ) → family_of new point ≡ family_of old point

-- the state at a point, except for these points, each as its context's number and its offset
abbrev pub family_without : Contents → List (ℕ × ℕ) → List Frame × ℕ → Option State
family_without contents points point =
    cond (has_point points (number_of contents.contexts point.0, point.1)) None
    (family_of contents point)

-- the same contexts, whatever their numbers, and the same state at each point, but none at these
pub record SameWithout (old new : Contents) (points : List (ℕ × ℕ)) : Type 0 where
  pub contexts : (frames : List Frame)
      → HasContext old.contexts frames ↔ HasContext new.contexts frames
  pub family : (point : List Frame × ℕ) → family_of new point ≡ family_without old points point

-- a family whose contexts are in the order of the file
abbrev pub IsFinished : Contents → Type 0
IsFinished contents = IsFamily contents × IsAscending contents.contexts

-- each context has a new number, which leads to the same frames, and each new context is an old one
pub record AreMoved (old new : List (List Frame)) (numbers : List ℕ) : Type 0 where
  pub long : length numbers ≡ length old
  pub moved : (c n : ℕ) → slice_get numbers c ≡ Some n
      → (n < length new) × (frames_at new n ≡ frames_at old c)
  pub mine : (n : ℕ) → n < length new → HasContext old (frames_at new n)
