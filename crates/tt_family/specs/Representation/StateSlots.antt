-- States in numbered slots, as a list by place.
use Rattle.std.specs.Prelude.{◌≡◌, ℕ, ◌≤◌, ◌<◌, Some, List, [], ◌∷◌, length, slice_index_or, slice_get}
use Rattle.std.specs.List.Sorted.{IsStrictlySortedBy}
use Rattle.std.specs.Map.{keys_of}
use Rattle.tt_abs.specs.declared.state.State.{State}
use Rattle.tt_abs.specs.States.{start_of}
use Rattle.tt_family.specs.Places.{place_cmp, states_of}

-- the state in a slot, and any state where there is no such slot
abbrev pub state_in : List State → ℕ → State
state_in slots number = slice_index_or slots number (start_of [])

-- each place with the state in its slot
abbrev pub states_in : List State → List ((ℕ × ℕ) × ℕ) → List ((ℕ × ℕ) × State)
states_in slots [] = []
states_in slots (e ∷ es) = (e.0, state_in slots e.1) ∷ states_in slots es

-- each place's slot is there
abbrev pub AreSlots : List State → List ((ℕ × ℕ) × ℕ) → Type 0
AreSlots slots places = (i : ℕ) (e : (ℕ × ℕ) × ℕ) → slice_get places i ≡ Some e → e.1 < length slots

-- the places ascend and have the first slots, one each
pub record AreFirstSlots (slots : List State) (places : List ((ℕ × ℕ) × ℕ)) : Type 0 where
  pub ascends : IsStrictlySortedBy place_cmp (keys_of places)
  pub first : (p : ℕ × ℕ) (n : ℕ) → states_of places p ≡ Some n → n < length places
  pub once : (p q : ℕ × ℕ) (n : ℕ) → states_of places p ≡ Some n → states_of places q ≡ Some n
      → p ≡ q
  pub enough : length places ≤ length slots
  pub fits : length places ≤ 4294967295

-- the slots below this number hold the same states
abbrev pub AgreesBelow : ℕ → List State → List State → Type 0
AgreesBelow number old new = (n : ℕ) → n < number → state_in new n ≡ state_in old n
