-- What the finder keeps of the family so far, of the points that are still to be carried on, and of
-- the count of updates.
use Rattle.std.specs.Prelude.{◌≡◌, ◌≢◌, ℕ, ◌+◌, ◌*◌, ◌≤◌, ◌<◌, ◌^◌, ◌⊎◌, ◌↔◌, Bool, true, false, cond, Option, Some, None, List, [], ◌∷◌, ◌++◌, Ok, drop, length, map, reverse}
use Rattle.std.specs.List.{sum_by}
use Rattle.tt_code.specs.Settings.{Setting, is_main_end}
use Rattle.tt_code.specs.declared.machine.Frame.{Frame}
use Rattle.tt_code.specs.declared.reason.Reason.{Reason}
use Rattle.tt_code.specs.declared.reason.Reason.TheVariants.{DepthMismatch}
use Rattle.tt_abs.specs.declared.moves.Move.{Move}
use Rattle.tt_abs.specs.declared.moves.Moves.{Moves}
use Rattle.tt_abs.specs.declared.state.State.{State}
use Rattle.tt_abs.specs.declared.instruction.Stepped.{Stepped}
use Rattle.tt_abs.specs.Families.{CoversAt, Derived}
use Rattle.tt_abs.specs.Flows.{Flow, FlowLaws}
use Rattle.tt_abs.specs.Lines.{EndsAt, Precedes}
use Rattle.tt_abs.specs.Moves.{frames_after, nexts_of, offset_after, ways_of}
use Rattle.tt_abs.specs.Orders.{Order}
use Rattle.tt_setting.specs.Ranges.{AreProgramsShort}
use Rattle.tt_abs.specs.StateFlow.{GivesState, Place, RefusesState, flow_of, height_of}
use Rattle.tt_abs.specs.States.{abstract_of, state_order}
use Rattle.tt_abs.specs.Transfers.{outcome_on_cells}
use Rattle.tt_family.specs.Checks.{point_key_of}
use Rattle.tt_family.specs.Contents.{Contents, IsFamily, family_of, frames_at, points_of, total}
use Rattle.tt_family.specs.GoodFamilies.{EndsWell, IsShortEnough}
use Rattle.tt_family.specs.Places.{PutsAt, has_point, states_of}
use Rattle.tt_family.specs.Puts.{Reweighs, place_of}
use Rattle.tt_setting.specs.Spots.{spot_of}
use Rattle.tt_setting.specs.declared.spot.Spot.{Spot}
use Rattle.tt_family.specs.Fillings.{IsJustAfter}
use Rattle.tt_setting.specs.declared.refusal.Refusal.{Refusal}
use Rattle.tt_find.specs.Found.{ArePointsOf, IsDerived, IsNeeded, NamesPlace, NamesStop}
use Rattle.tt_find.specs.Representation.OffsetMarks.{SetsMark, mark_at, mark_of}
use Rattle.tt_find.specs.declared.marks.Mark.TheVariants.{Free, Kept, Passed}
use Rattle.tt_find.specs.declared.marks.OffsetMarks.{OffsetMarks}
use Rattle.tt_find.specs.declared.approach.Approach.{Approach}
use Rattle.tt_find.specs.declared.approach.Approach.TheVariants.{JustBefore, Elsewhere}
use Rattle.tt_find.specs.declared.solver.Solver.{Solver}
use Rattle.tt_find.specs.declared.stop.Stop.{Stop}
use Rattle.tt_find.specs.declared.walk.Walk.{Walk}

-- Each value is derived, as is each that is still to be put; the start is covered; the value at a
-- point that doesn't wait isn't refused, and what it gives is covered, at a point to which that one
-- may lead, or is still to be put. Waits: the points that are still to be carried on; Rest: what is
-- still to be put, from where and at which point.
pub record IsSoundFamily {P S : Type 0} (o : Order S) (f : Flow P S) (family : P → Option S)
    (MayLead : P → P → Type 0) (Waits : P → Type 0) (Rest : P → P → S → Type 0) : Type 0 where
  pub derived : (p : P) (s : S) → family p ≡ Some s → Derived o f p s
  pub rest_derived : (p q : P) (t : S) → Rest p q t → Derived o f q t
  pub start : CoversAt o family f.entry f.start
  pub safe : (p : P) (s : S) (r : Reason) → family p ≡ Some s → (Waits p → ⊥) → f.Refuses p s r → ⊥
  pub closed : (p : P) (s : S) (q : P) (t : S) → family p ≡ Some s → (Waits p → ⊥) → f.Gives p s q t
      → (CoversAt o family q t × MayLead p q) ⊎ Rest p q t

-- the place, as its context's number and its offset, is one of these points
abbrev pub IsAmong : Contents → List (ℕ × ℕ) → Place → Type 0
IsAmong contents points p = has_point points (point_key_of contents p) ≡ true

-- Each context was entered with a derived state; each point that waits has a state; the family is
-- sound. Here: a place that is being carried on.
pub record IsSoundSoFar (o : Order State) (f : Flow Place State) (contents : Contents)
    (worklist : List (ℕ × ℕ)) (filled : Place → Option State) (MayLead : Place → Place → Type 0)
    (Here : Place → Type 0) (Rest : Place → Place → State → Type 0) : Type 0 where
  pub family : IsFamily contents
  pub entered : (i : ℕ) → i < length contents.contexts
      → (offset : ℕ) × (a : State) × Derived o f (frames_at contents.contexts i, offset) a
  pub held : (c offset : ℕ) → has_point worklist (c, offset) ≡ true
      → (a : State) × (states_of contents.states (c, offset) ≡ Some a)
  pub sound : IsSoundFamily o f filled MayLead (λ p. IsAmong contents worklist p ⊎ Here p) Rest

-- The kept states are those of the filled family at the places of this mark; at those that were
-- passed none is kept, and nothing came to the others.
pub record AreKept (marks : OffsetMarks) (stored filled : Place → Option State) : Type 0 where
  pub kept : (p : Place) → mark_at marks p ≡ Kept → stored p ≡ filled p
  pub passed : (p : Place) → mark_at marks p ≡ Passed → stored p ≡ None
  pub free : (p : Place) → mark_at marks p ≡ Free → (stored p ≡ None) × (filled p ≡ None)

-- a kept state that isn't spare is listed
pub record IsListed (contents : Contents) (spare : List (ℕ × ℕ)) (q : Place) : Type 0 where
  pub state : State
  pub kept : family_of contents q ≡ Some state
  pub not_spare : has_point spare (point_key_of contents q) ≡ false

-- where a place may lead: to the one just after it, and to those with a listed state
abbrev pub MayLead : Setting → Contents → List (ℕ × ℕ) → Place → Place → Type 0
MayLead s contents spare p q = Precedes s p q ⊎ IsListed contents spare q

-- each listed state is needed: no good filling adds it
abbrev pub AreNeeded : Setting → List (ℕ × ℕ) → Contents → List (ℕ × ℕ) → Type 0
AreNeeded s functions contents spare =
    (q : Place) → IsListed contents spare q → IsNeeded s functions q

-- each point took one update, and each rise of its state at most one more
pub record IsWithinBudget (o : Order State) (height : ℕ) (contents : Contents) (updates : ℕ)
    : Type 0 where
  pub spent : updates + total o.left contents ≤ points_of contents * (1 + height)
  pub counted : points_of contents ≤ updates

-- How often a state came to each place, or rose there: at a kept one at most 1 + height times, less
-- the rises that are left to its state; at one that was passed at most as often as at the one just
-- before, less often where that waits.
pub record AreVisits (s : Setting) (height : ℕ) (stored filled : Place → Option State)
    (Waits : Place → Type 0) (visits : Place → ℕ) : Type 0 where
  pub seen : (p : Place) (a : State) → filled p ≡ Some a → 1 ≤ visits p
  pub unseen : (p : Place) → filled p ≡ None → visits p ≡ 0
  pub waits : (p : Place) → Waits p → 1 ≤ visits p
  pub high : (p : Place) (a : State) → stored p ≡ Some a
      → visits p + state_order.left a ≤ 1 + height
  pub before : (q : Place) (a : State) → filled q ≡ Some a → stored q ≡ None
      → (p : Place) × Precedes s p q
  pub follow : (p q : Place) → Precedes s p q → stored q ≡ None → visits q ≤ visits p
  pub ahead : (p q : Place) → Precedes s p q → stored q ≡ None → Waits p → visits q + 1 ≤ visits p

-- the points of the filled family, and a count that is at least their number and at most that of
-- all visits
pub record ArePoints (filled : Place → Option State) (visits : Place → ℕ) (points : List Place)
    (count : ℕ) : Type 0 where
  pub exact : ArePointsOf filled points
  pub least : length points ≤ count
  pub most : count ≤ sum_by visits points

-- the laws of the flow hold; its height is so small that 64 bits count all changes of kept states;
-- each program has fewer than 2^31 bytes
pub record HasLaws (s : Setting) (functions : List (ℕ × ℕ)) : Type 0 where
  pub flow : FlowLaws state_order (flow_of s functions) (height_of s)
  pub height : height_of s < 4294967295
  pub short : AreProgramsShort s

-- The finder's solver, for a program that starts with these functions. The filled family has the
-- kept states, and those that went over an offset.
pub record IsSound (s : Setting) (functions : List (ℕ × ℕ)) (solver : Solver)
    (Here : Place → Type 0) (Rest : Place → Place → State → Type 0) : Type 0 where
  pub filled : Place → Option State
  pub kept : IsSoundSoFar state_order (flow_of s functions) solver.builder solver.worklist filled
      (MayLead s solver.builder solver.spare.keys) Here Rest
  pub marks : AreKept solver.marks (family_of solver.builder) filled
  pub start : IsListed solver.builder solver.spare.keys ([], 0)
  pub needed : AreNeeded s functions solver.builder solver.spare.keys
  pub budget : IsWithinBudget state_order (height_of s) solver.builder solver.changes
  pub visits : Place → ℕ
  pub visited : AreVisits s (height_of s) (family_of solver.builder) filled
      (λ p. IsAmong solver.builder solver.worklist p ⊎ Here p) visits
  pub points : List Place
  pub counted : ArePoints filled visits points (solver.changes + solver.passes)

-- no point is being carried on, and nothing is still to be put
abbrev pub IsWhole : Setting → List (ℕ × ℕ) → Solver → Type 0
IsWhole s functions solver = IsSound s functions solver (λ _. ⊥) (λ _ _ _. ⊥)

-- The solver is whole and no point waits; the program isn't too long, and comes to its end where it
-- must; this many updates were made.
pub record IsFound (s : Setting) (functions : List (ℕ × ℕ)) (solver : Solver) (updates : ℕ)
    : Type 0 where
  pub whole : IsWhole s functions solver
  pub none : solver.worklist ≡ []
  pub short : IsShortEnough s s.kind
  pub ends : EndsWell s s.kind (family_of solver.builder)
  pub count : updates ≡ solver.changes + solver.passes

-- this state is being carried on from its place
pub record IsOnWay (s : Setting) (functions : List (ℕ × ℕ)) (solver : Solver) (p : Place)
    (a : State) : Type 0 where
  pub sound : IsSound s functions solver (λ q. q ≡ p) (λ _ _ _. ⊥)
  pub here : sound.filled p ≡ Some a
  pub apart : IsAmong solver.builder solver.worklist p → ⊥

-- the walk is on the way at this offset, or there is nothing to be carried on
abbrev pub GoesOn : Setting → List (ℕ × ℕ) → Solver → Walk → Option ℕ → Type 0
GoesOn s functions solver walk None = IsWhole s functions solver
GoesOn s functions solver walk (Some offset) =
    IsOnWay s functions solver (place_of solver.builder walk.context offset) walk.state

-- the number of points that wait has grown at most as much as the number of changes
pub record HasRisen (old new : Solver) : Type 0 where
  pub worklist : length new.worklist + old.changes ≤ length old.worklist + new.changes
  pub changes : old.changes ≤ new.changes

-- how many updates were made: changes of kept states, and states that went over a point
abbrev pub updates_of : Solver → ℕ
updates_of solver = solver.changes + solver.passes

-- at most this many further updates were made
abbrev pub MakesAtMost : ℕ → Solver → Solver → Type 0
MakesAtMost more old new = updates_of new ≤ updates_of old + more

-- what waited still waits, and where there was a change this point does; nothing else waits
pub record WaitsMore (old new : List (ℕ × ℕ)) (point : ℕ × ℕ) (changed : Bool) : Type 0 where
  pub more : (q : ℕ × ℕ) → has_point old q ≡ true → has_point new q ≡ true
  pub here : changed ≡ true → has_point new point ≡ true
  pub back : (q : ℕ × ℕ) → has_point new q ≡ true
      → (has_point old q ≡ true) ⊎ ((q ≡ point) × (changed ≡ true))

-- the state was put at the point; if it was new there or made a change, the point waits, and one
-- change was counted
pub record IsPut (old new : Solver) (context offset : ℕ) (state : State) : Type 0 where
  pub changed : Bool
  pub put : PutsAt state_order (family_of old.builder) (family_of new.builder)
      (place_of old.builder context offset) state changed
  pub sums : Reweighs old.builder new.builder (place_of old.builder context offset)
  pub contexts : new.builder.contexts ≡ old.builder.contexts
  pub family : IsFamily new.builder
  pub worklist : WaitsMore old.worklist new.worklist (context, offset) changed
  pub changes : new.changes ≡ old.changes + cond changed 1 0
  pub risen : HasRisen old new

-- the solver's spare points, marks and passes are as before
pub record KeepsRest (old new : Solver) : Type 0 where
  pub spare : new.spare ≡ old.spare
  pub marks : new.marks ≡ old.marks
  pub passes : new.passes ≡ old.passes

-- What is spare after a state came to a point: from elsewhere, the point no longer is; from just
-- before, it is where it had no state, and otherwise as it was.
pub record SparesAt (old new : List (ℕ × ℕ)) (point : ℕ × ℕ) (was : Option State) (source : Approach)
    : Type 0 where
  pub elsewhere : (q : ℕ × ℕ) → q ≢ point → has_point new q ≡ has_point old q
  pub listed : source ≡ Elsewhere → has_point new point ≡ false
  pub spared : source ≡ JustBefore → was ≡ None → has_point new point ≡ true
  pub same : source ≡ JustBefore → (was ≡ None → ⊥) → has_point new point ≡ has_point old point

-- the state was put at the point, over which none had passed; states are kept there from then on
pub record IsStored (old new : Solver) (context offset : ℕ) (state : State) (source : Approach)
    : Type 0 where
  pub put : IsPut old new context offset state
  pub fresh : mark_of old.marks (spot_of (frames_at old.builder.contexts context)) offset ≢ Passed
  pub marks : SetsMark old.marks new.marks (spot_of (frames_at old.builder.contexts context))
      offset Kept
  pub spare : SparesAt old.spare.keys new.spare.keys (context, offset)
      (family_of old.builder (place_of old.builder context offset)) source
  pub passes : new.passes ≡ old.passes

-- a state goes over an offset at which states aren't kept
pub record IsPassed (old new : Solver) (spot : Spot) (offset : ℕ) : Type 0 where
  pub fresh : mark_of old.marks spot offset ≢ Kept
  pub marks : SetsMark old.marks new.marks spot offset Passed
  pub passes : new.passes ≡ old.passes + 1
  pub same : new ≡ record old { marks = new.marks; passes = new.passes }

-- the family's state at this place differs from another one in depth
pub record IsApart (family : Place → Option State) (at : Place) (t : State) (p : Place) (r : Reason)
    : Type 0 where
  pub place : p ≡ at
  pub reason : r ≡ DepthMismatch
  pub state : State
  pub found : family at ≡ Some state
  pub apart : state_order.SameDepth state t → ⊥

-- the same for the family's state under a context's number and an offset
abbrev pub IsApartAt : Contents → ℕ → ℕ → State → Place → Reason → Type 0
IsApartAt contents context offset t =
    IsApart (family_of contents) (place_of contents context offset) t

-- the fault names that place, unless memory ran out
abbrev pub NamesApart : Contents → ℕ → ℕ → State → Refusal → Type 0
NamesApart contents context offset t = NamesPlace (IsApartAt contents context offset t)

-- the finder stops there, or starts again where states aren't kept everywhere
abbrev pub StopsApart : Solver → ℕ → ℕ → State → Stop → Type 0
StopsApart solver context offset t =
    NamesStop (IsApartAt solver.builder context offset t) solver.marks.everywhere

-- states are kept everywhere, or not, as before
abbrev pub KeepsEverywhere : Solver → Solver → Type 0
KeepsEverywhere old new = new.marks.everywhere ≡ old.marks.everywhere

-- the state is refused at this place
pub record IsRefusedAt (s : Setting) (at : Place) (state : State) (p : Place) (r : Reason)
    : Type 0 where
  pub place : p ≡ at
  pub refused : RefusesState s at state r

-- the place to which a way leads
abbrev pub place_of_way : List Frame → Move → Place
place_of_way fs way = (frames_after fs way, offset_after fs way)

-- the places to which the ways from this number on lead
abbrev pub places_from : List Frame → Moves → ℕ → List Place
places_from fs ways index = map (place_of_way fs) (drop index (ways_of ways))

-- the place over which the state goes last, if there is one
abbrev pub place_over : List Frame → Option ℕ → List Place
place_over fs None = []
place_over fs (Some offset) = (fs, offset) ∷ []

-- the state is still to be put at each of these places
abbrev pub Pends : List Place → State → Place → State → Type 0
Pends [] t p u = ⊥
Pends (q ∷ qs) t p u = ((p ≡ q) × (u ≡ t)) ⊎ Pends qs t p u

-- the same for what comes from this place
abbrev pub PendsFrom : Place → List Place → State → Place → Place → State → Type 0
PendsFrom from qs t p q u = (p ≡ from) × Pends qs t q u

-- the state at the place leads by these moves, with this state left, and its instruction ends at
-- this offset
pub record IsCarriedOn (s : Setting) (p : Place) (state : State) (ways : Moves) (end : ℕ)
    (t : State) : Type 0 where
  pub running : is_main_end s p.0 p.1 ≡ false
  pub result : outcome_on_cells s p.0 p.1 (abstract_of state)
      ≡ Ok (nexts_of p.0 ways (abstract_of t))
  pub in_range : state_order.InRange t
  pub ends : EndsAt s p end

-- the state at the place was carried on, with this state left; or the place is the main program's
-- end
abbrev pub IsCarried : Setting → Place → State → Option Stepped → State → Type 0
IsCarried s p state None t = is_main_end s p.0 p.1 ≡ true
IsCarried s p state (Some step) t = IsCarriedOn s p state step.moves step.end t

-- A derived state at the place leads to these places, with this state left; all else is settled.
-- Where no state is kept just after the place, the visits there are at least one fewer than at the
-- place, or at least two fewer if the place waits.
pub record IsLeading (s : Setting) (functions : List (ℕ × ℕ)) (solver : Solver) (p : Place)
    (qs : List Place) (t : State) : Type 0 where
  pub state : State
  pub derived : IsDerived s functions p state
  pub gives : (q : Place) (u : State) → Pends qs t q u → GivesState s p state q u
  pub sound : IsSound s functions solver (λ _. ⊥) (PendsFrom p qs t)
  pub here : (IsAmong solver.builder solver.worklist p → ⊥) → sound.filled p ≡ Some state
  pub ahead : (q : Place) → Precedes s p q → family_of solver.builder q ≡ None
      → sound.visits q + 1 ≤ sound.visits p
  pub twice : IsAmong solver.builder solver.worklist p → (q : Place) → Precedes s p q
      → family_of solver.builder q ≡ None → sound.visits q + 2 ≤ sound.visits p

-- the point, which has a state, was taken from those that wait
pub record IsPopped (s : Setting) (functions : List (ℕ × ℕ)) (solver : Solver) (context offset : ℕ)
    : Type 0 where
  pub sound : IsSound s functions solver (λ q. q ≡ place_of solver.builder context offset)
      (λ _ _ _. ⊥)
  pub state : State
  pub kept : states_of solver.builder.states (context, offset) ≡ Some state
  pub apart : has_point solver.worklist (context, offset) ≡ false

-- the state comes from just before exactly if it stays in the context and comes to the offset just
-- after the instruction that left it
abbrev pub TellsSource : ℕ → ℕ → Option ℕ → ℕ → Approach → Type 0
TellsSource here context after next source =
    (source ≡ JustBefore) ↔ ((context ≡ here) × (after ≡ Some next))

-- the state comes to the second place from just before, or from elsewhere
abbrev pub ComesFrom : Setting → Place → Place → Approach → Type 0
ComesFrom s p q source =
    (source ≡ JustBefore → Precedes s p q) × (source ≡ Elsewhere → Precedes s p q → ⊥)

-- the place of an offset of the walk's context
abbrev pub here_of : Contents → Walk → ℕ → Place
here_of contents walk offset = place_of contents walk.context offset

-- the walk's calls are those of its context, and its state is that of the point that it knows
pub record IsWalk (contents : Contents) (walk : Walk) : Type 0 where
  pub there : walk.context < length contents.contexts
  pub calls : walk.frames.items ≡ reverse (frames_at contents.contexts walk.context)
  pub spot : walk.spot ≡ spot_of (frames_at contents.contexts walk.context)
  pub known : (c offset : ℕ) → walk.known ≡ Some (c, offset)
      → states_of contents.states (c, offset) ≡ Some walk.state

-- the walk's calls, the innermost first
abbrev pub calls_of : Solver → Walk → List Frame
calls_of solver walk = frames_at solver.builder.contexts walk.context

-- what is still to be done at an offset of the walk's context: the state is led to these places
abbrev pub IsLeadingAt : Setting → List (ℕ × ℕ) → Solver → Walk → ℕ → List Place → Type 0
IsLeadingAt s functions solver walk offset qs =
    IsLeading s functions solver (here_of solver.builder walk offset) qs walk.state

-- The state is still to be led to where the ways from this number on lead, and over the offset just
-- after the instruction, if there is one over which it goes last.
pub record IsLeadingOn (s : Setting) (functions : List (ℕ × ℕ)) (solver : Solver) (walk : Walk)
    (offset : ℕ) (after : Option ℕ) (ways : Moves) (index : ℕ) (over : Option ℕ) : Type 0 where
  pub leading : IsLeadingAt s functions solver walk offset
      (place_over (calls_of solver walk) over ++ places_from (calls_of solver walk) ways index)
  pub just_after : IsJustAfter s (here_of solver.builder walk offset) after
  pub goes_over : (at : ℕ) → over ≡ Some at → after ≡ Some at
  pub walks : IsWalk solver.builder walk

-- The same, and before that it is led to an offset of the context of this number.
pub record IsLeadingTo (s : Setting) (functions : List (ℕ × ℕ)) (solver : Solver) (walk : Walk)
    (offset : ℕ) (after : Option ℕ) (ways : Moves) (index : ℕ) (over : Option ℕ) (number next : ℕ)
    : Type 0 where
  pub leading : IsLeadingAt s functions solver walk offset
      (place_of solver.builder number next ∷ place_over (calls_of solver walk) over
      ++ places_from (calls_of solver walk) ways index)
  pub there : number < length solver.builder.contexts
  pub just_after : IsJustAfter s (here_of solver.builder walk offset) after
  pub goes_over : (at : ℕ) → over ≡ Some at → after ≡ Some at
  pub walks : IsWalk solver.builder walk

-- the context's last call returns to an offset of 32 bits, and its next turn is a number of 32 bits
abbrev pub IsCountable : List (List Frame) → ℕ → Type 0
IsCountable contexts context =
    (f : Frame) (fs : List Frame) → frames_at contexts context ≡ f ∷ fs
    → (f.call + 1 < 2 ^ 32) × (f.turn + 1 < 2 ^ 32)
