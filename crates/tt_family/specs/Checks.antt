-- What a check asks of each state of a family, and what it names where the family isn't good.
use Rattle.std.specs.Prelude.{◌≡◌, ◌⊎◌, ℕ, ◌<◌, ◌^◌, min, false, Ok, Option, Some, None, List, [], ◌∷◌, slice_get}
use Rattle.tt_code.specs.Cut.{size}
use Rattle.tt_code.specs.Settings.{Setting, is_main_end}
use Rattle.tt_code.specs.declared.machine.Frame.{Frame}
use Rattle.tt_code.specs.declared.reason.Reason.{Reason}
use Rattle.tt_code.specs.declared.reason.Reason.TheVariants.{MissingPoint, NotCovered, ProgramTooLong, Storage}
use Rattle.tt_setting.specs.Refusals.{reason_of}
use Rattle.tt_abs.specs.declared.state.State.{State}
use Rattle.tt_abs.specs.Families.{CoversAt}
use Rattle.tt_abs.specs.Lines.{Precedes}
use Rattle.tt_abs.specs.StateFlow.{Place, GivesState, RefusesState}
use Rattle.tt_abs.specs.States.{abstract_of, start_of, state_order}
use Rattle.tt_abs.specs.Transfers.{Next, outcome_on_cells}
use Rattle.tt_family.specs.Contents.{Contents, family_of, number_of}
use Rattle.tt_family.specs.GoodFamilies.{EndsWell, IsShortEnough, IsStoredWithin}
use Rattle.tt_family.specs.Places.{IsLess, states_of}
use Rattle.tt_setting.specs.Spots.{spot_of}
use Rattle.tt_setting.specs.declared.refusal.Refusal.{Refusal}
use Rattle.tt_setting.specs.declared.refusal.Refusal.TheVariants.{Refused, Exhausted}

-- a place as its context's number and its offset
abbrev pub point_key_of : Contents → Place → ℕ × ℕ
point_key_of contents p = (number_of contents.contexts p.0, p.1)

-- an offset as a number of 32 bits: the largest one stands for those that are above it
abbrev pub saturated_offset : ℕ → ℕ
saturated_offset offset = min offset 4294967295

-- no place
abbrev pub Nowhere : Place → Type 0
Nowhere q = ⊥

-- the family covers the state at the place, or has none there, where it may be left out
abbrev pub IsMet : (Place → Option State) → Type 0 → Place → State → Type 0
IsMet family MayBeLeftOut q t = CoversAt state_order family q t ⊎ ((family q ≡ None) × MayBeLeftOut)

-- why the family doesn't cover the state at the place: it has none there, where none may be left
-- out; or it has one that doesn't cover this one
abbrev pub IsGap : (Place → Option State) → Type 0 → Place → State → Reason → Type 0
IsGap family MayBeLeftOut q t MissingPoint = (family q ≡ None) × (MayBeLeftOut → ⊥)
IsGap family MayBeLeftOut q t NotCovered =
    (u : State) × (family q ≡ Some u) × (state_order.Below t u → ⊥)
IsGap family MayBeLeftOut q t _ = ⊥

-- the fault names the place and such a reason, or memory or the budget ran out, which names none
abbrev pub NamesAt : Place → (Reason → Type 0) → Refusal → Type 0
NamesAt p Is (Refused spot offset failed) =
    (spot ≡ spot_of p.0) × (offset ≡ saturated_offset p.1) × Is (reason_of failed)
NamesAt p Is (Exhausted by) = Unit {0}

-- the fault names the place, at which the family doesn't cover the state, and says why
abbrev pub NamesGap : (Place → Option State) → Type 0 → Place → State → Refusal → Type 0
NamesGap family MayBeLeftOut q t = NamesAt q (IsGap family MayBeLeftOut q t)

-- the fault names such a place and reason, or memory or the budget ran out, which names none
abbrev pub Names : (Place → Reason → Type 0) → Refusal → Type 0
Names Is (Refused spot offset failed) =
    (p : Place) × (spot ≡ spot_of p.0) × (offset ≡ saturated_offset p.1) × Is p (reason_of failed)
Names Is (Exhausted by) = Unit {0}

-- the place of a next abstract state
abbrev pub place_of_next : Next → Place
place_of_next n = (n.frames, n.offset)

-- the family covers the state at each place that comes next
abbrev pub AreCovered : (Place → Option State) → List Next → State → Type 0
AreCovered family nexts t =
    (i : ℕ) (n : Next) → slice_get nexts i ≡ Some n
    → CoversAt state_order family (place_of_next n) t

-- or leaves it out where it may
abbrev pub AreMet : (Place → Option State) → (Place → Type 0) → List Next → State → Type 0
AreMet family MayBeLeftOut nexts t =
    (i : ℕ) (n : Next) → slice_get nexts i ≡ Some n
    → IsMet family (MayBeLeftOut (place_of_next n)) (place_of_next n) t

-- the family doesn't cover the state at the place that comes next under this number
pub record IsGapAt (family : Place → Option State) (MayBeLeftOut : Place → Type 0)
    (nexts : List Next) (t : State) (q : Place) (r : Reason) (i : ℕ) : Type 0 where
  pub next : Next
  pub found : slice_get nexts i ≡ Some next
  pub place : place_of_next next ≡ q
  pub gap : IsGap family (MayBeLeftOut q) q t r

-- the first place that comes next at which the family doesn't cover the state
pub record IsFirstGap (family : Place → Option State) (MayBeLeftOut : Place → Type 0)
    (nexts : List Next) (t : State) (q : Place) (r : Reason) : Type 0 where
  pub index : ℕ
  pub here : IsGapAt family MayBeLeftOut nexts t q r index
  pub before : (i : ℕ) (n : Next) → i < index → slice_get nexts i ≡ Some n
      → IsMet family (MayBeLeftOut (place_of_next n)) (place_of_next n) t

-- the state's storage indexes are below maxStorage, it isn't refused at the place, and the family
-- covers what it gives, or leaves it out where it may
pub record IsSoundAt (s : Setting) (family : Place → Option State) (MayBeLeftOut : Place → Type 0)
    (p : Place) (a : State) : Type 0 where
  pub stored : IsStoredWithin s a
  pub safe : (r : Reason) → RefusesState s p a r → ⊥
  pub closed : (q : Place) (t : State) → GivesState s p a q t → IsMet family (MayBeLeftOut q) q t

-- the state gives another one, and this is the first place at which the family doesn't cover that
pub record LeavesGap (s : Setting) (family : Place → Option State) (MayBeLeftOut : Place → Type 0)
    (p : Place) (a : State) (q : Place) (r : Reason) : Type 0 where
  pub running : is_main_end s p.0 p.1 ≡ false
  pub nexts : List Next
  pub result : outcome_on_cells s p.0 p.1 (abstract_of a) ≡ Ok nexts
  pub state : State
  pub in_range : state_order.InRange state
  pub same : (i : ℕ) (n : Next) → slice_get nexts i ≡ Some n → abstract_of state ≡ n.state
  pub first : IsFirstGap family MayBeLeftOut nexts state q r

-- What is broken first of a state at its place, where it is named, and why: it lists a storage
-- index that isn't below maxStorage; it is refused there; it gives what isn't covered.
pub data BreaksAt (s : Setting) (family : Place → Option State) (MayBeLeftOut : Place → Type 0)
    (p : Place) (a : State) : Place → Reason → Type 0 where
  stores : (IsStoredWithin s a → ⊥) → BreaksAt s family MayBeLeftOut p a p Storage
  refused : (r : Reason) → IsStoredWithin s a → RefusesState s p a r
      → BreaksAt s family MayBeLeftOut p a p r
  leaves : (q : Place) (r : Reason) → IsStoredWithin s a → LeavesGap s family MayBeLeftOut p a q r
      → BreaksAt s family MayBeLeftOut p a q r

-- the innermost call, if there is one, has one more turn
abbrev pub HasNextTurn : List Frame → Type 0
HasNextTurn frames = (f : Frame) (fs : List Frame) → frames ≡ f ∷ fs → f.turn < f.count

-- the states of the contexts before this one are at offsets of 32 bits
abbrev pub FitOffsetsBefore : Contents → ℕ → Type 0
FitOffsetsBefore contents context =
    (c o : ℕ) (a : State) → c < context → states_of contents.states (c, o) ≡ Some a → o < 2 ^ 32

-- each state of the family is sound at its place
abbrev pub AreSound : Setting → (Place → Option State) → Type 0
AreSound s family = (p : Place) (a : State) → family p ≡ Some a → IsSoundAt s family Nowhere p a

-- one place comes before another, by the number of its context, and by its offset within one
abbrev pub IsBefore : Contents → Place → Place → Type 0
IsBefore contents p q = IsLess (point_key_of contents p) (point_key_of contents q)

-- a state at a place before which all are sound is broken
pub record IsFirstBreak (s : Setting) (contents : Contents) (q : Place) (r : Reason) : Type 0 where
  pub place : Place
  pub state : State
  pub here : family_of contents place ≡ Some state
  pub breaks : BreaksAt s (family_of contents) Nowhere place state q r
  pub before : (p : Place) (a : State) → IsBefore contents p place → family_of contents p ≡ Some a
      → IsSoundAt s (family_of contents) Nowhere p a

-- the state at the place is what a walked place's state gives there, where it may be left out
pub record WasAdded (s : Setting) (MayLeaveOut : Place → Place → Type 0) (Walked : Place → Type 0)
    (filled : Place → Option State) (q : Place) (t : State) : Type 0 where
  pub before : Place
  pub state : State
  pub walked : Walked before
  pub there : filled before ≡ Some state
  pub just_before : MayLeaveOut before q
  pub gives : GivesState s before state q t

-- The family with the states that were added as the walked places were checked: the walked ones are
-- sound, and what they give at a place where the family has no state was added there.
pub record IsFilledBy (s : Setting) (MayLeaveOut : Place → Place → Type 0)
    (family : Place → Option State) (Walked : Place → Type 0) (filled : Place → Option State)
    : Type 0 where
  pub keeps : (p : Place) (a : State) → family p ≡ Some a → filled p ≡ Some a
  pub added : (q : Place) (t : State) → filled q ≡ Some t → family q ≡ None
      → WasAdded s MayLeaveOut Walked filled q t
  pub sound : (p : Place) (a : State) → Walked p → filled p ≡ Some a
      → IsSoundAt s family (MayLeaveOut p) p a
  pub given : (p : Place) (a : State) (q : Place) (t : State) → Walked p → filled p ≡ Some a
      → GivesState s p a q t → family q ≡ None → filled q ≡ Some t

-- a state that is listed or was added is broken, at a place before which all are sound
pub record IsFirstBreakOnTheWay (s : Setting) (MayLeaveOut : Place → Place → Type 0)
    (contents : Contents) (q : Place) (r : Reason) : Type 0 where
  pub place : Place
  pub state : State
  pub filled : Place → Option State
  pub filled_by : IsFilledBy s MayLeaveOut (family_of contents) (λ p. IsBefore contents p place)
      filled
  pub here : filled place ≡ Some state
  pub breaks : BreaksAt s (family_of contents) (MayLeaveOut place) place state q r

-- What is broken first, where it is named, and why: a glyph program is too long; the start isn't
-- covered; a font program or a CVT program has no state at its end; a state is broken, and is the
-- first.
pub data IsBrokenBy (s : Setting) (functions : List (ℕ × ℕ)) (contents : Contents)
    (IsFirst : Place → Reason → Type 0) : Place → Reason → Type 0 where
  too_long : (IsShortEnough s s.kind → ⊥)
      → IsBrokenBy s functions contents IsFirst ([], s.limits.program_size) ProgramTooLong
  no_start : (r : Reason) → IsShortEnough s s.kind
      → IsGap (family_of contents) ⊥ ([], 0) (start_of functions) r
      → IsBrokenBy s functions contents IsFirst ([], 0) r
  no_end : IsShortEnough s s.kind
      → CoversAt state_order (family_of contents) ([], 0) (start_of functions)
      → (EndsWell s s.kind (family_of contents) → ⊥)
      → IsBrokenBy s functions contents IsFirst ([], size s.main) MissingPoint
  no_way : (q : Place) (r : Reason) → IsShortEnough s s.kind
      → CoversAt state_order (family_of contents) ([], 0) (start_of functions)
      → EndsWell s s.kind (family_of contents)
      → IsFirst q r → IsBrokenBy s functions contents IsFirst q r

-- what is broken first of a whole family
abbrev pub IsBrokenFirst : Setting → List (ℕ × ℕ) → Contents → Place → Reason → Type 0
IsBrokenFirst s functions contents = IsBrokenBy s functions contents (IsFirstBreak s contents)

-- and of one that may leave states out
abbrev pub IsFillingBrokenFirst : Setting → List (ℕ × ℕ) → Contents → Place → Reason → Type 0
IsFillingBrokenFirst s functions contents =
    IsBrokenBy s functions contents (IsFirstBreakOnTheWay s (Precedes s) contents)

-- nothing is refused: memory ran out, or the budget did
abbrev pub IsExhausted : Refusal → Type 0
IsExhausted (Refused spot offset failed) = ⊥
IsExhausted (Exhausted by) = Unit {0}
