-- The family's state at a landing's place.
use Rattle.std.specs.Prelude.{◌≡◌, ℕ, ◌<◌, ◌≤◌, ◌^◌, Option, Some, None, length}
use Rattle.std.specs.Borrow.{Bor}
use Rattle.std.proofs.Common.{refl, sym, ◌∙◌, arith}
use Rattle.tt_abs.specs.declared.state.State.{State}
use Rattle.tt_abs.specs.Families.{CoversAt}
use Rattle.tt_abs.specs.StateFlow.{Place}
use Rattle.tt_abs.specs.States.{state_laws, state_order}
use Rattle.tt_family.specs.Contents.{Contents, IsFamily, family_of, frames_at, number_of}
use Rattle.tt_family.specs.Numbers.{number_of-is}
use Rattle.tt_family.specs.Places.{states_of}
use Rattle.tt_family.specs.Checks.{FitOffsetsBefore}
use Rattle.tt_family.specs.Representation.Cursors.{IsComing, IsEntry, IsNextState}

-- a context's state is the family's
pub state_there : (v : Contents) (p : Place) (n o : ℕ) → IsFamily v → n < length v.contexts → frames_at v.contexts n ≡ p.0 → o ≡ p.1
    → states_of v.states (n, o) ≡ family_of v p
state_there v p n o family lt frames offset =
    let number : number_of v.contexts p.0 ≡ n = number_of-is v.contexts p.0 n family.distinct lt frames in
    λ i. states_of v.states (sym number i, offset i)

-- at an offset of more than 32 bits there is no state in a context whose states are below that
pub no_state_above : (v : Contents) (p : Place) (n from : ℕ) → IsFamily v → from < length v.contexts → FitOffsetsBefore v from → n < from → frames_at v.contexts n ≡ p.0
    → 2 ^ 32 ≤ p.1 → family_of v p ≡ None
no_state_above v p n from family lt told before frames above = sym (state_there v p n p.1 family (omega arith) frames refl) ∙ go (states_of v.states (n, p.1)) refl
  where
    go : (x : Option State) → states_of v.states (n, p.1) ≡ x → states_of v.states (n, p.1) ≡ None
    go None e = e
    go (Some u) e = absurd (let below = told n p.1 u before e in omega arith)

-- a state that comes next at a place covers itself there
pub coming_covered : (v : Contents) (next : Option (ℕ × ℕ × Bor State)) (n o : ℕ) (t : State) → IsFamily v → n < length v.contexts → IsEntry v next → IsComing next n o t
    → CoversAt state_order (family_of v) (frames_at v.contexts n, o) t
coming_covered v None n o t family lt entry coming = absurd coming
coming_covered v (Some e) n o t family lt entry (context, offset, state) =
    let at : states_of v.states (n, o) ≡ Some t = (λ i. states_of v.states (sym context i, sym offset i)) ∙ entry ∙ (λ i. Some (state i)) in
    (t, sym (state_there v (frames_at v.contexts n, o) n o family lt refl refl) ∙ at, state_laws.reflexive t)

-- and is the state that comes next
pub coming_next : (next : Option (ℕ × ℕ × Bor State)) (n o : ℕ) (t : State) → IsComing next n o t → IsNextState next t
coming_next None n o t coming = absurd coming
coming_next (Some e) n o t (context, offset, state) = state
