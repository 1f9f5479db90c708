-- The check's walk through the points of a certificate.
use Rattle.std.specs.Prelude.{◌≡◌, ◌↔◌, ℕ, ◌+◌, ◌<◌, ◌≤◌, ◌^◌, ◌⊎◌, Bool, true, false, Option, Some, None, IfSome, IsTrue, List, [], ◌∷◌, ◌++◌, length, reverse, slice_get}
use Rattle.std.specs.List.{All}
use Rattle.std.specs.List.Sorted.{IsStrictlySortedBy}
use Rattle.std.specs.Map.{keys_of}
use Rattle.std.specs.Borrow.{Bor}
use Rattle.tt_code.specs.Settings.{Setting}
use Rattle.tt_code.specs.declared.machine.Frame.{Frame}
use Rattle.tt_code.specs.declared.reason.Reason.{Reason}
use Rattle.tt_abs.specs.declared.state.State.{State}
use Rattle.tt_abs.specs.Families.{CoversAt}
use Rattle.tt_abs.specs.Lines.{Precedes}
use Rattle.tt_abs.specs.StateFlow.{Place, GivesState, RefusesState}
use Rattle.tt_setting.specs.Settings.{setting_of}
use Rattle.tt_setting.specs.declared.setting.Setting.{Setting as Subject}
use Rattle.tt_abs.specs.Moves.{frames_after, nexts_of, offset_after, ways_of}
use Rattle.tt_abs.specs.States.{abstract_of, start_of, state_order}
use Rattle.tt_abs.specs.declared.moves.Move.{Move}
use Rattle.tt_abs.specs.declared.moves.Move.TheVariants.{NextTurn}
use Rattle.tt_abs.specs.declared.moves.Moves.{Moves}
use Rattle.tt_abs.specs.Transfers.{Next}
use Rattle.tt_family.specs.Contents.{Contents, HasContext, family_of, frames_at}
use Rattle.tt_family.specs.Fillings.{IsAfter}
use Rattle.tt_family.specs.GoodFamilies.{EndsWell, IsShortEnough}
use Rattle.tt_family.specs.Places.{IsLess, place_cmp, states_of}
use Rattle.tt_family.specs.Puts.{place_of}
use Rattle.tt_family.specs.Checks.{AreCovered, AreMet, BreaksAt, HasNextTurn, IsBrokenBy, IsFilledBy, IsFirstBreakOnTheWay, IsFirstGap, IsSoundAt, Names, NamesGap, Nowhere, point_key_of, place_of_next}
use Rattle.tt_setting.specs.declared.refusal.Refusal.{Refusal}
use Rattle.tt_family.specs.declared.listing.Listing.{Listing}
use Rattle.tt_family.specs.declared.listing.Listing.TheVariants.{Whole, Sparse}
use Rattle.tt_family.specs.declared.meeting.Coverage.{Coverage}
use Rattle.tt_family.specs.declared.meeting.Coverage.TheVariants as coverage
use Rattle.tt_family.specs.declared.cursor.Cursor.{Cursor}

-- what the first place gives at the second may be left out there: never where all states are
-- listed, otherwise where the second place is just after the first
abbrev pub MayLeaveOut : Listing → Setting → Place → Place → Type 0
MayLeaveOut Whole s p = Nowhere
MayLeaveOut Sparse s p = Precedes s p

-- a state with its context and offset
abbrev pub Entry : Type 0
Entry = (ℕ × ℕ) × State

-- the state, if there is one, is at its context and offset
abbrev pub IsEntry : Contents → Option (ℕ × ℕ × Bor State) → Type 0
IsEntry contents entry =
    IfSome entry (λ (e : ℕ × ℕ × Bor State). states_of contents.states (e.0, e.1) ≡ Some e.2.now)

-- the next listed state is this one, and is at this context and offset
abbrev pub IsComing : Option (ℕ × ℕ × Bor State) → ℕ → ℕ → State → Type 0
IsComing None context offset state = ⊥
IsComing (Some e) context offset state = (e.0 ≡ context) × (e.1 ≡ offset) × (e.2.now ≡ state)

-- the next listed state, if there is one, comes after this context and offset
abbrev pub IsComingAfter : Option (ℕ × ℕ × Bor State) → ℕ × ℕ → Type 0
IsComingAfter None key = Unit {0}
IsComingAfter (Some e) key = IsLess key (e.0, e.1)

-- the next listed state, if there is one, is this one
abbrev pub IsNextState : Option (ℕ × ℕ × Bor State) → State → Type 0
IsNextState entry state = IfSome entry (λ (e : ℕ × ℕ × Bor State). e.2.now ≡ state)

-- the walk's calls are those of its context, the next listed state is one of the family, and the
-- walk's state is that one where the walk says so
pub record IsWalk (contents : Contents) (walk : Cursor) : Type 0 where
  pub there : walk.context < length contents.contexts
  pub frames : walk.frames.items ≡ reverse (frames_at contents.contexts walk.context)
  pub next : IsEntry contents walk.next
  pub made : IsTrue walk.is_next → IsNextState walk.next walk.made

-- what is still to come: the entry that was read ahead, and these; nothing where none was read
abbrev pub to_come : Option (ℕ × ℕ × Bor State) → List Entry → List Entry
to_come None entries = []
to_come (Some e) entries = ((e.0, e.1), e.2.now) ∷ entries

-- these are the last states of the family: one entry was read ahead, and these are the others; they
-- ascend, and each place comes once
pub record AreToCome (contents : Contents) (next : Option (ℕ × ℕ × Bor State)) (others : List Entry)
    : Type 0 where
  pub rest : (before : List Entry) × (contents.states ≡ before ++ to_come next others)
  pub ascends : IsStrictlySortedBy place_cmp (keys_of contents.states)
  pub found : All (λ e. states_of contents.states e.0 ≡ Some e.1) contents.states

-- How a state is covered at a place to which it goes, or added there: by the next listed state,
-- which is the same one; by one that covers it; or by none, where none needs to be.
abbrev pub IsMetBy : (Place → Option State) → Type 0 → Option (ℕ × ℕ × Bor State) → Place → State
    → Coverage → Type 0
IsMetBy family MayBeLeftOut next q t coverage.Next =
    CoversAt state_order family q t × IsNextState next t
IsMetBy family MayBeLeftOut next q t coverage.Listed = CoversAt state_order family q t
IsMetBy family MayBeLeftOut next q t coverage.Added = (family q ≡ None) × MayBeLeftOut

-- two coverages as one: `Added` if either is, otherwise the first
abbrev pub coverage_of_both : Coverage → Coverage → Coverage
coverage_of_both coverage.Added other = coverage.Added
coverage_of_both coverage.Next coverage.Added = coverage.Added
coverage_of_both coverage.Listed coverage.Added = coverage.Added
coverage_of_both coverage.Next other = coverage.Next
coverage_of_both coverage.Listed other = coverage.Listed

-- where an instruction ends, if a state may be left out there
abbrev pub IsLeftOutAfter : Listing → Setting → Place → Option ℕ → Type 0
IsLeftOutAfter listing s p after = (q : Place) → IsAfter p.0 after q ↔ MayLeaveOut listing s p q

-- the place at the offset `after` is among those that come next, and the family has no state there
pub record IsLeftOut (family : Place → Option State) (fs : List Frame) (after : Option ℕ)
    (nexts : List Next) : Type 0 where
  pub index : ℕ
  pub next : Next
  pub found : slice_get nexts index ≡ Some next
  pub just_after : IsAfter fs after (place_of_next next)
  pub none : family (place_of_next next) ≡ None

-- how a state is covered at all places that come next, or added at one
abbrev pub AreMetBy : (Place → Option State) → List Frame → Option ℕ → Option (ℕ × ℕ × Bor State)
    → List Next → State → Coverage → Type 0
AreMetBy family fs after next nexts t coverage.Next = AreCovered family nexts t × IsNextState next t
AreMetBy family fs after next nexts t coverage.Listed = AreCovered family nexts t
AreMetBy family fs after next nexts t coverage.Added =
    AreMet family (IsAfter fs after) nexts t × IsLeftOut family fs after nexts

-- where the next listed state comes after this offset, the certificate has no state there
abbrev pub IsUnlisted : Contents → Option (ℕ × ℕ × Bor State) → ℕ → ℕ → Type 0
IsUnlisted contents next context offset =
    IsComingAfter next (context, offset) → states_of contents.states (context, offset) ≡ None

-- the same for each offset after this one
abbrev pub AreUnlisted : Contents → Option (ℕ × ℕ × Bor State) → ℕ → ℕ → Type 0
AreUnlisted contents next context offset =
    (after : ℕ) → offset < after → IsUnlisted contents next context after

-- what the state at the point gives is added at the offset
pub record IsCarried (s : Setting) (family : Place → Option State) (MayBeLeftOut : Place → Type 0)
    (p : Place) (a : State) (offset : ℕ) (made : State) : Type 0 where
  pub gives : GivesState s p a (p.0, offset) made
  pub none : family (p.0, offset) ≡ None
  pub may : MayBeLeftOut (p.0, offset)

-- the state at the point is sound, and what it gives is covered, except for what is carried on
pub record IsPassed (s : Setting) (family : Place → Option State) (MayBeLeftOut : Place → Type 0)
    (p : Place) (a : State) (carried : Option ℕ) (made : State) : Type 0 where
  pub sound : IsSoundAt s family MayBeLeftOut p a
  pub closed : carried ≡ None → (q : Place) (t : State) → GivesState s p a q t
      → CoversAt state_order family q t
  pub added : (offset : ℕ) → carried ≡ Some offset → IsCarried s family MayBeLeftOut p a offset made

-- the family is filled up by the places before this context and offset, in the contexts of the
-- certificate
pub record IsWalkedTo (s : Setting) (listing : Listing) (contents : Contents)
    (filled : Place → Option State) (reached : ℕ × ℕ) : Type 0 where
  pub filled_by : IsFilledBy s (MayLeaveOut listing s) (family_of contents)
      (λ p. IsLess (point_key_of contents p) reached) filled
  pub held : (p : Place) (a : State) → filled p ≡ Some a → HasContext contents.contexts p.0

-- the states before this context and offset were read, at offsets of 32 bits, and the others are to
-- come
pub record IsRead (contents : Contents) (entries : List Entry) (reached : ℕ × ℕ) : Type 0 where
  pub done : List Entry
  pub split : contents.states ≡ done ++ entries
  pub read : (i : ℕ) (e : Entry) → i < length done → slice_get contents.states i ≡ Some e
      → IsLess e.0 reached × (e.0.1 < 2 ^ 32)
  pub coming : (i : ℕ) (e : Entry) → length done ≤ i → slice_get contents.states i ≡ Some e
      → IsLess e.0 reached → ⊥

-- Between two points: what was added and not walked is what the walk carries.
pub record IsOnWay (s : Setting) (listing : Listing) (contents : Contents) (walk : Cursor)
    (others : List Entry) : Type 0 where
  pub filled : Place → Option State
  pub reached : ℕ × ℕ
  pub walked : IsWalkedTo s listing contents filled reached
  pub read : IsRead contents (to_come walk.next others) reached
  pub carries : (o : ℕ) → walk.carried ≡ Some o
      → (filled (place_of contents walk.context o) ≡ Some walk.made)
      × (family_of contents (place_of contents walk.context o) ≡ None)
      × (IsLess (walk.context, o) reached → ⊥)
  pub carried_all : (p : Place) (a : State) → filled p ≡ Some a → family_of contents p ≡ None
      → (IsLess (point_key_of contents p) reached → ⊥)
      → (o : ℕ) × (walk.carried ≡ Some o) × (p ≡ place_of contents walk.context o)

-- At a point: all before it are walked; and if anything were added after it, every state would be
-- refused at this point.
pub record IsAtPoint (s : Setting) (listing : Listing) (contents : Contents) (walk : Cursor)
    (others : List Entry) (offset : ℕ) : Type 0 where
  pub filled : Place → Option State
  pub walked : IsWalkedTo s listing contents filled (walk.context, offset)
  pub here : filled (place_of contents walk.context offset) ≡ Some walk.made
  pub read : IsRead contents (to_come walk.next others) (walk.context, offset + 1)
  pub nothing_after : (p : Place) (a : State) → filled p ≡ Some a → family_of contents p ≡ None
      → (IsLess (point_key_of contents p) (walk.context, offset + 1) → ⊥)
      → (b : State) → (r : Reason) × RefusesState s (place_of contents walk.context offset) b r

-- after the last point: all are walked
pub record IsWalkedThrough (s : Setting) (listing : Listing) (contents : Contents) : Type 0 where
  pub filled : Place → Option State
  pub filled_by : IsFilledBy s (MayLeaveOut listing s) (family_of contents) (λ p. Unit {0}) filled
  pub held : (p : Place) (a : State) → filled p ≡ Some a → HasContext contents.contexts p.0

-- the walk is at the point of this offset, or after the last one
abbrev pub IsAtNext : Setting → Listing → Contents → Cursor → List Entry → Option ℕ → Type 0
IsAtNext s listing contents walk others None = IsWalkedThrough s listing contents
IsAtNext s listing contents walk others (Some offset) =
    IsAtPoint s listing contents walk others offset

-- fewer listed states are to come; or as many, and the walk goes to the point to which it carried a
-- state
abbrev pub IsShorter : Cursor → Cursor → List Entry → List Entry → ℕ → Type 0
IsShorter old new others others' offset =
    (length (to_come new.next others') < length (to_come old.next others))
    ⊎ ((length (to_come new.next others') ≡ length (to_come old.next others))
    × (old.carried ≡ Some offset))

-- at a point at most one listed state fewer is to come, and after the last point none was to come
abbrev pub TakesOne : Bool → Cursor → Cursor → List Entry → List Entry → Type 0
TakesOne true old new others others' =
    length (to_come old.next others) ≤ length (to_come new.next others') + 1
TakesOne false old new others others' = length (to_come old.next others) ≡ 0

-- what a check finds: the program isn't too long, the start is covered, the end has a state where
-- it must, and all points are walked
pub record IsFoundSound (s : Setting) (functions : List (ℕ × ℕ)) (listing : Listing)
    (contents : Contents) : Type 0 where
  pub short : IsShortEnough s s.kind
  pub start : CoversAt state_order (family_of contents) ([], 0) (start_of functions)
  pub ends : EndsWell s s.kind (family_of contents)
  pub through : IsWalkedThrough s listing contents

-- What the check's contracts say of a walk.

-- the calls of the walk's context, the innermost first
abbrev pub calls_of : Contents → Cursor → List Frame
calls_of contents walk = frames_at contents.contexts walk.context

-- the point of the walk's context at an offset
abbrev pub point_of : Contents → Cursor → ℕ → Place
point_of contents walk offset = place_of contents walk.context offset

-- the place to which a move leads from the walk's context
abbrev pub place_of_way : Contents → Cursor → Move → Place
place_of_way contents walk way =
    (frames_after (calls_of contents walk) way, offset_after (calls_of contents walk) way)

-- the walk's state, at the places to which moves lead
abbrev pub nexts_made : Contents → Cursor → Moves → List Next
nexts_made contents walk moves = nexts_of (calls_of contents walk) moves (abstract_of walk.made)

-- how the walk's state is covered at a place, where it may be left out if that is at the offset
-- `after`
abbrev pub IsMadeMet : Contents → Cursor → Option ℕ → Place → Coverage → Type 0
IsMadeMet contents walk after q =
    IsMetBy (family_of contents) (IsAfter (calls_of contents walk) after q) walk.next q walk.made

-- the fault names the place, at which the walk's state isn't covered
abbrev pub NamesGapMade : Contents → Cursor → Option ℕ → Place → Refusal → Type 0
NamesGapMade contents walk after q =
    NamesGap (family_of contents) (IsAfter (calls_of contents walk) after q) q walk.made

-- where one of the ways leads to the next turn of the innermost call, there is one
abbrev pub MayTurn : List Frame → Moves → Type 0
MayTurn fs moves = (i : ℕ) → slice_get (ways_of moves) i ≡ Some NextTurn → HasNextTurn fs

-- how the walk's state is covered at all places to which moves lead
abbrev pub AreMadeMet : Contents → Cursor → Option ℕ → Moves → Coverage → Type 0
AreMadeMet contents walk after moves =
    AreMetBy (family_of contents) (calls_of contents walk) after walk.next
    (nexts_made contents walk moves) walk.made

-- the fault names the first of them at which it isn't
abbrev pub NamesFirstGapMade : Contents → Cursor → Option ℕ → Moves → Refusal → Type 0
NamesFirstGapMade contents walk after moves =
    Names
    (IsFirstGap (family_of contents) (IsAfter (calls_of contents walk) after)
    (nexts_made contents walk moves) walk.made)

-- where the next listed state comes after the offset at which a state may be left out, the
-- certificate has no state at that offset
abbrev pub IsUnlistedAfter : Contents → Cursor → Option ℕ → Type 0
IsUnlistedAfter contents walk after =
    (end : ℕ) → after ≡ Some end → IsUnlisted contents walk.next walk.context end

-- the offset at which a state may be left out, if there is one, isn't 0
abbrev pub IsPastStart : Option ℕ → Type 0
IsPastStart after = (end : ℕ) → after ≡ Some end → 0 < end

-- the walk's state is sound at the walk's point, and what comes of it is covered or carried
abbrev pub PassesPoint : Setting → Listing → Contents → Cursor → Cursor → ℕ → Type 0
PassesPoint s listing contents old new offset =
    IsPassed s (family_of contents) (MayLeaveOut listing s (point_of contents old offset))
    (point_of contents old offset) old.made new.carried new.made

-- the fault names what is broken first of the walk's state there
abbrev pub NamesBreak : Setting → Listing → Contents → Cursor → ℕ → Refusal → Type 0
NamesBreak s listing contents walk offset =
    Names
    (BreaksAt s (family_of contents) (MayLeaveOut listing s (point_of contents walk offset))
    (point_of contents walk offset) walk.made)

-- the fault names what is broken first in the order of the walk
abbrev pub NamesFirstBreak : Setting → Listing → Contents → Refusal → Type 0
NamesFirstBreak s listing contents = Names (IsFirstBreakOnTheWay s (MayLeaveOut listing s) contents)

-- or before it begins
abbrev pub NamesFirst : Setting → List (ℕ × ℕ) → Listing → Contents → Refusal → Type 0
NamesFirst s functions listing contents =
    Names
    (IsBrokenBy s functions contents (IsFirstBreakOnTheWay s (MayLeaveOut listing s) contents))

-- all that a check of either listing finds
abbrev pub IsFoundSoundFor : Subject → Listing → Contents → Type 0
IsFoundSoundFor x listing contents = IsFoundSound (setting_of x) x.start.now listing contents

-- the fault names what a check of either listing finds broken first
abbrev pub NamesFirstFor : Subject → Listing → Contents → Refusal → Type 0
NamesFirstFor x listing contents = NamesFirst (setting_of x) x.start.now listing contents
