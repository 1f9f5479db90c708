-- What putting a state tells.
use Rattle.std.specs.Prelude.{◌≡◌, ◌↔◌, ℕ, Bool, true, false, Option, Some, None, List, length}
use Rattle.tt_abs.specs.declared.state.State.{State}
use Rattle.tt_setting.specs.declared.failed.Failed.TheVariants.{OtherDepth}
use Rattle.tt_setting.specs.declared.step_fault.StepFault.{StepFault}
use Rattle.tt_setting.specs.Refusals.{ForFailed}
use Rattle.tt_abs.specs.States.{state_order}
use Rattle.tt_family.specs.Contents.{Contents, family_of}
use Rattle.tt_family.specs.Places.{PutsAt, states_of}
use Rattle.tt_family.specs.Puts.{family_state, place_of}
use Rattle.tt_family.specs.declared.joined.Joined.{Joined}
use Rattle.tt_family.specs.declared.joined.Joined.TheVariants.{New, Changed, Same}

-- whether the state at the point is another one than before
abbrev pub is_change : Joined → Bool
is_change New = true
is_change Changed = true
is_change Same = false

-- the answer is `New` exactly where there was no state
abbrev pub TellsNew : Joined → Option State → Type 0
TellsNew joined old = (joined ≡ New) ↔ (old ≡ None)

-- the same of the family's state at a point
abbrev pub TellsNewAt : Contents → ℕ → ℕ → Joined → Type 0
TellsNewAt contents context offset joined = TellsNew joined (family_state contents context offset)

-- the state was put at the point; the answer tells whether the one there is new or has changed
abbrev pub PutsState : Contents → Contents → ℕ → ℕ → State → Bool → Type 0
PutsState old new context offset state changed =
    PutsAt state_order (family_of old) (family_of new) (place_of old context offset) state changed

-- the same with an answer that tells new from changed
abbrev pub PutsStateAs : Contents → Contents → ℕ → ℕ → State → Joined → Type 0
PutsStateAs old new context offset state joined =
    PutsState old new context offset state (is_change joined)

-- the same in a list of states by context and offset
abbrev pub PutsListed : List ((ℕ × ℕ) × State) → List ((ℕ × ℕ) × State) → ℕ × ℕ → State → Joined
    → Type 0
PutsListed old new point state joined =
    PutsAt state_order (states_of old) (states_of new) point state (is_change joined)

-- there is a state, and it differs from this one in depth
abbrev pub HasOtherDepth : Option State → State → Type 0
HasOtherDepth old state = (s : State) × (old ≡ Some s) × (state_order.SameDepth s state → ⊥)

-- there is such a state, and this one's depth is told, unless memory ran out
abbrev pub TellsOtherDepth : Option State → State → StepFault → Type 0
TellsOtherDepth old state fault =
    ForFailed fault (λ f. (f ≡ OtherDepth (length state.stack)) × HasOtherDepth old state)

-- the state that is there, if there is one, has the depth of this one
abbrev pub HasSameDepth : Option State → State → Type 0
HasSameDepth old state = (s : State) → old ≡ Some s → state_order.SameDepth s state
