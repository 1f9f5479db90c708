-- What the finder finds, and what makes its refusals right. (Cousot and Cousot, "Abstract
-- interpretation": the least fixed point, by chaotic iteration.)
use Rattle.std.specs.Prelude.{◌≡◌, ◌≢◌, ◌⊎◌, ℕ, ◌+◌, ◌*◌, ◌<◌, ◌≤◌, Bool, false, Option, Some, None, List, [], ◌∷◌, length}
use Rattle.tt_code.specs.Settings.{Setting}
use Rattle.tt_code.specs.declared.machine.Frame.{Frame}
use Rattle.tt_code.specs.declared.reason.Reason.{Reason}
use Rattle.tt_code.specs.declared.reason.Reason.TheVariants.{DepthMismatch, MissingPoint, NeverEnds, ProgramTooLong, TooManyContexts}
use Rattle.tt_setting.specs.Refusals.{reason_of}
use Rattle.tt_abs.specs.declared.state.State.{State}
use Rattle.tt_abs.specs.Contexts.{FramesFit}
use Rattle.tt_abs.specs.Families.{Derived, IsBelowFamily, IsGood}
use Rattle.tt_abs.specs.FunctionBodies.{AreFunctionBodies, AreProgramsOfFont}
use Rattle.tt_abs.specs.Goodness.{HasStateIn}
use Rattle.tt_abs.specs.Lines.{Precedes}
use Rattle.tt_abs.specs.StateFlow.{FitsLimits, Place, GivesState, RefusesState, flow_of, height_of}
use Rattle.tt_abs.specs.States.{state_order}
use Rattle.tt_family.specs.Checks.{IsFillingBrokenFirst}
use Rattle.tt_family.specs.Contents.{Contents, HasContext, family_of, frames_at}
use Rattle.tt_family.specs.Fillings.{HasGoodFilling, IsFilling}
use Rattle.tt_family.specs.GoodFamilies.{EndsWell, HasFewContexts, IsGoodFamily, IsShortEnough}
use Rattle.tt_setting.specs.Spots.{spot_of}
use Rattle.tt_setting.specs.declared.refusal.Refusal.{Refusal}
use Rattle.tt_setting.specs.declared.refusal.Refusal.TheVariants.{Refused, Exhausted}
use Rattle.tt_find.specs.declared.stop.Stop.{Stop}
use Rattle.tt_find.specs.declared.stop.Stop.TheVariants.{Fault, Restart}

-- the state is derived at the place, in a program that starts with these functions
abbrev pub IsDerived : Setting → List (ℕ × ℕ) → Place → State → Type 0
IsDerived s functions = Derived state_order (flow_of s functions)

-- each state of the family is derived, and the family is below each that is good
pub record IsLeast (s : Setting) (functions : List (ℕ × ℕ)) (family : Place → Option State)
    : Type 0 where
  pub derived : (p : Place) (a : State) → family p ≡ Some a → IsDerived s functions p a
  pub below : (other : Place → Option State) → IsGood state_order (flow_of s functions) other
      → IsBelowFamily state_order family other

-- Each context has a derived state, and a state in every good family; each of its calls is in one
-- of its turns, and no body is in two of them.
pub record AreLeastContexts (s : Setting) (functions : List (ℕ × ℕ)) (contexts : List (List Frame))
    : Type 0 where
  pub derived : (frames : List Frame) → HasContext contexts frames
      → (offset : ℕ) × (a : State) × IsDerived s functions (frames, offset) a
  pub below : (other : Place → Option State) → IsGood state_order (flow_of s functions) other
      → (frames : List Frame) → HasContext contexts frames → HasStateIn other frames
  pub calls : (frames : List Frame) → HasContext contexts frames → FramesFit frames

-- Where the programs are those of one font, and the start lists functions with bodies in the font
-- program or the CVT program, so does each state of the family.
abbrev pub KeepsBodies : Setting → List (ℕ × ℕ) → (Place → Option State) → Type 0
KeepsBodies s functions family =
    AreProgramsOfFont s → AreFunctionBodies s functions → (p : Place) (a : State)
    → family p ≡ Some a → AreFunctionBodies s a.functions

-- the place is one of these
abbrev pub HasPlace : List Place → Place → Type 0
HasPlace [] p = ⊥
HasPlace (q ∷ qs) p = (p ≡ q) ⊎ HasPlace qs p

-- no two of these places are the same
abbrev pub AreDistinct : List Place → Type 0
AreDistinct [] = Unit {0}
AreDistinct (q ∷ qs) = (HasPlace qs q → ⊥) × AreDistinct qs

-- the places at which the family has states, each once
pub record ArePointsOf (family : Place → Option State) (points : List Place) : Type 0 where
  pub distinct : AreDistinct points
  pub all : (p : Place) (a : State) → family p ≡ Some a → HasPlace points p
  pub only : (p : Place) → HasPlace points p → (a : State) × (family p ≡ Some a)

-- What is found: the family has a filling that is good and the least, whose states are within the
-- limits and keep the bodies of functions; at least one update was made for each of its points, and
-- at most one more for each time that a state there can rise.
pub record HasLeastFilling (s : Setting) (functions : List (ℕ × ℕ)) (updates : ℕ)
    (family : Place → Option State) : Type 0 where
  pub filling : Place → Option State
  pub fills : IsFilling s family filling
  pub good : IsGoodFamily s functions filling
  pub least : IsLeast s functions filling
  pub within : (p : Place) (a : State) → filling p ≡ Some a → FitsLimits s a
  pub bodies : KeepsBodies s functions filling
  pub points : List Place
  pub exact : ArePointsOf filling points
  pub at_least : length points ≤ updates
  pub at_most : updates ≤ length points * (1 + height_of s)

-- a derived state leads to the place from one that isn't just before it
pub record IsLedElsewhere (s : Setting) (functions : List (ℕ × ℕ)) (q : Place) : Type 0 where
  pub from : Place
  pub state : State
  pub given : State
  pub derived : IsDerived s functions from state
  pub gives : GivesState s from state q given
  pub elsewhere : Precedes s from q → ⊥

-- the place is the start, or a derived state leads to it from a place that isn't just before it; so
-- no good filling adds a state there
abbrev pub IsNeeded : Setting → List (ℕ × ℕ) → Place → Type 0
IsNeeded s functions q = (q ≡ ([], 0)) ⊎ IsLedElsewhere s functions q

-- the second family is the first without its state at the place
pub record IsWithout (family other : Place → Option State) (q : Place) : Type 0 where
  pub state : State
  pub there : family q ≡ Some state
  pub gone : other q ≡ None
  pub same : (p : Place) → p ≢ q → other p ≡ family p

-- the family has no good filling, and what a check finds broken first is that there is no state at
-- this place
pub record LacksPoint (s : Setting) (functions : List (ℕ × ℕ)) (contents : Contents) (q : Place)
    : Type 0 where
  pub none_good : HasGoodFilling s functions (family_of contents) → ⊥
  pub missing : (p : Place) (r : Reason) → IsFillingBrokenFirst s functions contents p r
      → (p ≡ q) × (r ≡ MissingPoint)

-- no state of the family can be left out
abbrev pub NeedsAll : Setting → List (ℕ × ℕ) → (Place → Option State) → Type 0
NeedsAll s functions family =
    (q : Place) (other : Contents) → IsWithout family (family_of other) q
    → LacksPoint s functions other q

-- if the program isn't too long, no family with states in at most 65,535 contexts is good, whatever
-- it has at the end
abbrev pub NoneIsGood : Setting → List (ℕ × ℕ) → Type 0
NoneIsGood s functions =
    (family : Place → Option State) → IsShortEnough s s.kind
    → IsGood state_order (flow_of s functions) family → HasFewContexts family → ⊥

-- The family is good and has states in at most 65,535 contexts, but none at the end, which a font
-- program and a CVT program need. Each of its states is derived, so that it has the joins of all
-- derived states.
pub record LacksEnd (s : Setting) (functions : List (ℕ × ℕ)) (family : Place → Option State)
    : Type 0 where
  pub derived : (p : Place) (a : State) → family p ≡ Some a → IsDerived s functions p a
  pub good : IsGood state_order (flow_of s functions) family
  pub few : HasFewContexts family
  pub endless : EndsWell s s.kind family → ⊥

-- no two of these contexts are the same, and each has a derived state
pub record AreDerivedContexts (s : Setting) (functions : List (ℕ × ℕ))
    (contexts : List (List Frame)) : Type 0 where
  pub distinct : (i j : ℕ) → i < length contexts → j < length contexts
      → frames_at contexts i ≡ frames_at contexts j → i ≡ j
  pub derived : (i : ℕ) → i < length contexts
      → (offset : ℕ) × (a : State) × IsDerived s functions (frames_at contexts i, offset) a

-- more than 65,535 contexts have derived states, and a derived state at the place gives a state in
-- one of these contexts
pub record EntersTooMany (s : Setting) (functions : List (ℕ × ℕ)) (p : Place) : Type 0 where
  pub contexts : List (List Frame)
  pub derived : AreDerivedContexts s functions contexts
  pub many : 65535 < length contexts
  pub state : State
  pub here : IsDerived s functions p state
  pub next : Place
  pub next_state : State
  pub gives : GivesState s p state next next_state
  pub into : HasContext contexts next.0

-- Why no family is found, and where: a glyph program is too long; a derived state is refused; two
-- states that are derived at one place differ in depth; there are too many contexts; the joins of
-- the derived states are a good family, except for the end.
pub data IsJustified (s : Setting) (functions : List (ℕ × ℕ)) : Place → Reason → Type 0 where
  too_long : (IsShortEnough s s.kind → ⊥)
      → IsJustified s functions ([], s.limits.program_size) ProgramTooLong
  refused : (p : Place) (a : State) (r : Reason) → IsDerived s functions p a → RefusesState s p a r
      → IsJustified s functions p r
  apart : (p : Place) (a b : State) → IsDerived s functions p a → IsDerived s functions p b
      → (state_order.SameDepth a b → ⊥) → IsJustified s functions p DepthMismatch
  too_many : (p : Place) → EntersTooMany s functions p → IsJustified s functions p TooManyContexts
  never_ends : (family : Place → Option State) → LacksEnd s functions family
      → IsJustified s functions ([], 0) NeverEnds

-- the fault names such a place, and the reason; out of memory is unspecified
abbrev pub NamesPlace : (Place → Reason → Type 0) → Refusal → Type 0
NamesPlace Is (Refused spot offset failed) =
    (p : Place) × (spot ≡ spot_of p.0) × (offset ≡ p.1) × Is p (reason_of failed)
NamesPlace Is (Exhausted by) = Unit {0}

-- The stop is a fault that names such a place; or the finder starts again, since a state was to be
-- kept where states had passed, which can't be where they are kept everywhere.
abbrev pub NamesStop : (Place → Reason → Type 0) → Bool → Stop → Type 0
NamesStop Is everywhere (Fault fault) = NamesPlace Is fault
NamesStop Is everywhere Restart = everywhere ≡ false

-- the fault is that the end isn't reached
abbrev pub IsNeverEnding : Refusal → Type 0
IsNeverEnding (Refused spot offset failed) = reason_of failed ≡ NeverEnds
IsNeverEnding (Exhausted by) = ⊥
