-- What it means that a stack of cells became another one as the machine's stack does.
use Rattle.std.specs.Prelude.{◌≡◌, ◌+◌, ℤ, List, [], ◌∷◌, Ok, length}
use Rattle.tt_code.specs.Refusals.{Tested}
use Rattle.tt_code.specs.States.{Machine, Outcome, Value, leaves}
use Rattle.tt_code.specs.Runs.{Choices, pushed_on}
use Rattle.tt_symbolic_state.specs.declared.cell.Cell.{Cell}
use Rattle.tt_symbolic_state.specs.declared.cell.Range.{Range}
use Rattle.tt_symbolic_state.specs.Values.{Fits, Valuation}
use Rattle.tt_symbolic_state.specs.Shows.{values}

-- one stack became another as the machine does this, whatever else there is
pub record Restacks (does : Machine → Tested Outcome) (ranges : List Range) (old new : List Cell)
    : Type 0 where
  pub restacks : (v : Valuation) (m : Machine) → Fits ranges v → m.stack ≡ values v old
      → (rest : List ℤ) × (pushes : List Value) × (does m ≡ Ok (leaves m rest pushes))
      × ((choices : Choices) → pushed_on pushes choices rest ≡ values v new)
      × (length rest + length pushes ≡ length new)

-- numbers put on a stack, one after the other
abbrev pub numbers_on : List ℤ → List ℤ → List ℤ
numbers_on [] stack = stack
numbers_on (z ∷ zs) stack = numbers_on zs (z ∷ stack)

-- these numbers were put on the stack
pub record PutsNumbers (zs : List ℤ) (old new : List Cell) : Type 0 where
  pub puts : (v : Valuation) → values v new ≡ numbers_on zs (values v old)
