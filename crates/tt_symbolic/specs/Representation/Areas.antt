-- Memory maps of which entries are no longer listed.
use Rattle.std.specs.Prelude.{◌≡◌, ℕ, suc, ◌+◌, ◌≤◌, ℤ, pos, ◌≤ℤ◌, List, ◌∷◌, Some, drop}
use Rattle.tt_code.specs.Changes.{natural}
use Rattle.tt_setting.specs.Entries.{listed}
use Rattle.tt_symbolic_state.specs.declared.cell.Cell.{Cell}
use Rattle.tt_symbolic_state.specs.declared.cell.Range.{Range}
use Rattle.tt_symbolic_state.specs.declared.state.State.{State}
use Rattle.tt_symbolic_state.specs.Shows.{values}
use Rattle.tt_symbolic_state.specs.Values.{Fits, Valuation}

-- what is listed still was listed before
pub record IsPartOf (new old : List (ℕ × Cell)) : Type 0 where
  pub was_listed : (i : ℕ) (c : Cell) → listed new i ≡ Some c → listed old i ≡ Some c

-- the number isn't between the bounds
abbrev pub IsOutside : ℤ → ℤ → ℕ → Type 0
IsOutside low high i = low ≤ℤ pos i → pos i ≤ℤ high → ⊥

-- the entries between the bounds are no longer listed, and no others are that weren't
pub record Forgets (low high : ℤ) (old new : List (ℕ × Cell)) : Type 0 where
  pub part : IsPartOf new old
  pub outside : (i : ℕ) (c : Cell) → listed new i ≡ Some c → IsOutside low high i

-- no entry is listed that the index of a pair under the top may name
pub record IsForgotten (ranges : List Range) (stack : List Cell) (pair : ℕ)
    (entries : List (ℕ × Cell)) : Type 0 where
  pub forgotten : (v : Valuation) → Fits ranges v → (index : ℤ) (below : List ℤ)
      → drop (pair + pair + 1) (values v stack) ≡ index ∷ below → (i : ℕ) (c : Cell)
      → listed entries i ≡ Some c → i ≡ natural index → ⊥

-- the control values that the pair names are no longer listed
pub record ForgetsPair (pair : ℕ) (old new : State) : Type 0 where
  pub same : new ≡ record old { controls = new.controls }
  pub part : IsPartOf new.controls old.controls
  pub forgotten : IsForgotten old.ranges.items old.stack pair new.controls

-- the same of the first pairs
pub record ForgetsPairs (count : ℕ) (old new : State) : Type 0 where
  pub same : new ≡ record old { controls = new.controls }
  pub part : IsPartOf new.controls old.controls
  pub forgotten : (pair : ℕ) → suc pair ≤ count
      → IsForgotten old.ranges.items old.stack pair new.controls
