-- What it means that a change of a plain line was made on a symbolic state.
use Rattle.std.specs.Prelude.{◌≡◌, ℕ, ℤ, List, take}
use Rattle.tt_code.specs.States.{Machine, Registers}
use Rattle.tt_code.specs.Settings.{ZoneNumber}
use Rattle.tt_code.specs.Changes.{numbers, updated, all_updated}
use Rattle.tt_code.specs.declared.kinds.Update.{Update}
use Rattle.tt_symbolic_state.specs.Values.{Fits, Valuation}
use Rattle.tt_symbolic_state.specs.Shows.{Shows, values}
use Rattle.tt_setting.specs.Entries.{with_entry}
use Rattle.tt_symbolic_state.specs.declared.cell.Cell.{Cell}
use Rattle.tt_symbolic_state.specs.declared.state.State.{State}
use Rattle.tt_symbolic.specs.Representation.Areas.{Forgets}

-- the registers of the machine become these, by the elements that were taken, and the state
-- with them
pub record ChangesRegisters (count : ℕ)
    (change : List ℤ → Registers ℤ ZoneNumber → Registers ℤ ZoneNumber) (old new : State)
    : Type 0 where
  pub stack : new.stack ≡ old.stack
  pub stays : new.offset ≡ old.offset
  pub ranges : new.ranges.items ≡ old.ranges.items
  pub shows : (v : Valuation) (m : Machine) (controls : ℕ → ℤ) → Fits old.ranges.items v
      → Shows v old m controls
      → Shows v new
      (record m { registers = change (take count (values v old.stack)) m.registers }) controls

-- one change of a line
abbrev pub Changes : ℕ → Update → State → State → Type 0
Changes count change old new = ChangesRegisters count (λ t x. updated numbers t change x) old new

-- the changes of a line, one after the other
abbrev pub ChangesAll : ℕ → List Update → State → State → Type 0
ChangesAll count changes old new =
    ChangesRegisters count (λ t x. all_updated numbers t changes x) old new

-- some of the changes were made, and these are left
pub record IsChanged (count : ℕ) (changes left : List Update) (old new : State) : Type 0 where
  pub stack : new.stack ≡ old.stack
  pub stays : new.offset ≡ old.offset
  pub ranges : new.ranges.items ≡ old.ranges.items
  pub shows : (v : Valuation) (m : Machine) (controls : ℕ → ℤ) → Fits old.ranges.items v
      → Shows v old m controls → (x : Registers ℤ ZoneNumber)
      × (all_updated numbers (take count (values v old.stack)) changes m.registers
      ≡ all_updated numbers (take count (values v old.stack)) left x)
      × Shows v new (record m { registers = x }) controls

-- the cell is listed at the index
pub record StoresAt (index : ℕ) (cell : Cell) (old new : State) : Type 0 where
  pub same : new ≡ record old { storage = new.storage }
  pub put : new.storage ≡ with_entry index cell old.storage

-- what is stored between the bounds is no longer listed
pub record StoresBetween (low high : ℤ) (old new : State) : Type 0 where
  pub same : new ≡ record old { storage = new.storage }
  pub forgets : Forgets low high old.storage new.storage
