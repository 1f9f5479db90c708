-- What it means that a plain line was carried out on a symbolic state.
use Rattle.std.specs.Prelude.{◌≡◌, ◌+◌, ℕ, ℤ, pos, negsuc, List, take, drop, length}
use Rattle.tt_code.specs.Table.{Lists}
use Rattle.tt_code.specs.States.{Machine, Outcome, IsNumber, leaves}
use Rattle.tt_code.specs.Changes.{all_updated, numbers, values_pushed}
use Rattle.tt_code.specs.Runs.{Choices, left_by}
use Rattle.tt_code.specs.declared.kinds.Row.{Row}
use Rattle.tt_code.specs.declared.kinds.Update.{Update}
use Rattle.tt_code.specs.declared.kinds.Pushed.{Pushed}
use Rattle.tt_setting.specs.Entries.{with_entry}
use Rattle.tt_symbolic_state.specs.declared.cell.Cell.{Cell}
use Rattle.tt_symbolic_state.specs.declared.cell.Range.{Range}
use Rattle.tt_symbolic_state.specs.Values.{Fits, Valuation}
use Rattle.tt_symbolic_state.specs.Shows.{IsFresh, Shows, values}
use Rattle.tt_symbolic_state.specs.declared.state.State.{State}
use Rattle.tt_symbolic.specs.Sound.{ShowsSome}

-- all numbers of the machine
abbrev pub FULL : Range
FULL = record { low = negsuc 2147483647; high = pos 2147483647 }

-- any number of the machine
abbrev pub IsAny : Valuation → Machine → (ℕ → ℤ) → ℤ → Type 0
IsAny v m controls z = IsNumber z

-- the number that is stored there
abbrev pub IsStoredAt : ℕ → Valuation → Machine → (ℕ → ℤ) → ℤ → Type 0
IsStoredAt i v m controls z = z ≡ m.registers.storage i

-- the control value there
abbrev pub IsControlAt : ℕ → Valuation → Machine → (ℕ → ℤ) → ℤ → Type 0
IsControlAt i v m controls z = z ≡ controls i

-- the first cells of the stack are gone
pub record Cuts (count : ℕ) (old new : State) : Type 0 where
  pub stack : new.stack ≡ drop count old.stack
  pub same : new ≡ record old { stack = new.stack }

-- what a line leaves, once its operands are these and its tests passed
abbrev pub line_leaves : Machine → List ℤ → List ℤ → List Update → List Pushed → Outcome
line_leaves m taken below updates pushes =
    leaves (record m { registers = all_updated numbers taken updates m.registers }) below
    (values_pushed taken m.registers.storage pushes)

-- the changes and pushes are made, and the operands are gone
pub record Finishes (count : ℕ) (updates : List Update) (pushes : List Pushed) (old new : State)
    : Type 0 where
  pub finishes : (v : Valuation) (m : Machine) (controls : ℕ → ℤ) → Fits old.ranges.items v
      → Shows v old m controls → (choices : Choices) → ((i : ℕ) → IsNumber (choices i))
      → ShowsSome new
      (left_by (line_leaves m (take count (values v old.stack)) (drop count (values v old.stack))
      updates pushes) choices) controls
  pub deep : length (drop count old.stack) + length pushes ≡ length new.stack
  pub stays : new.offset ≡ old.offset

-- the line that the code has in slices
abbrev pub line_of : Row → Lists
line_of row = record {
  operands = row.operands.now;
  uses = row.uses.now;
  updates = row.updates.now;
  pushes = row.pushes.now;
}

-- a storage cell of which nothing was known is listed with a new symbol
pub record ListsStored (index : ℕ) (old new : State) (cell : Cell) : Type 0 where
  pub middle : State
  pub fresh : IsFresh old middle FULL cell
  pub same : new ≡ record middle { storage = new.storage }
  pub put : new.storage ≡ with_entry index cell middle.storage

-- the same of a control value
pub record ListsControl (index : ℕ) (old new : State) (cell : Cell) : Type 0 where
  pub middle : State
  pub fresh : IsFresh old middle FULL cell
  pub same : new ≡ record middle { controls = new.controls }
  pub put : new.controls ≡ with_entry index cell middle.controls
