-- Copies and parts of states.
use Rattle.std.specs.Prelude.{◌≡◌, ◌⊎◌, ℕ, ℤ, ◌≤ℤ◌, ◌<ℤ◌}
use Rattle.tt_code.specs.States.{Machine}
use Rattle.tt_symbolic_state.specs.Values.{Fits, Valuation}
use Rattle.tt_symbolic_state.specs.Shows.{IsShown}
use Rattle.tt_symbolic_state.specs.declared.state.State.{State}
use Rattle.tt_symbolic_check.specs.declared.copying.Split.{Split}

-- the same state, elsewhere in memory
pub record IsCopy (a b : State) : Type 0 where
  pub offset : b.offset ≡ a.offset
  pub calls : b.calls.items ≡ a.calls.items
  pub stack : b.stack ≡ a.stack
  pub graphics : b.graphics ≡ a.graphics
  pub storage : b.storage ≡ a.storage
  pub controls_are : b.controls ≡ a.controls
  pub functions : b.functions ≡ a.functions
  pub ranges : b.ranges.items ≡ a.ranges.items

-- the state with the part of its symbol's numbers up to the last
pub record IsLower (split : Split) (old new : State) : Type 0 where
  pub same : new ≡ record old { ranges = new.ranges }
  pub fits : (v : Valuation) → Fits old.ranges.items v → v split.symbol ≤ℤ split.last
      → Fits new.ranges.items v

-- the state with the part above
pub record IsUpper (split : Split) (old new : State) : Type 0 where
  pub same : new ≡ record old { ranges = new.ranges }
  pub fits : (v : Valuation) → Fits old.ranges.items v → split.last <ℤ v split.symbol
      → Fits new.ranges.items v

-- each machine that the state shows is one that one of the parts shows
pub record IsSplit (a low high : State) : Type 0 where
  pub split : (m : Machine) (controls : ℕ → ℤ) → IsShown a m controls
      → IsShown low m controls ⊎ IsShown high m controls
