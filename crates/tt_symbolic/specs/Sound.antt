-- What it means that a change of a symbolic state is sound for what the machine does.
use Rattle.std.specs.Prelude.{◌≡◌, ◌+◌, ℕ, ℤ, ◌∷◌, Ok, length, suc}
use Rattle.tt_code.specs.Refusals.{Tested}
use Rattle.tt_code.specs.States.{Machine, Outcome, IsNumber}
use Rattle.tt_code.specs.Computing.{computed}
use Rattle.tt_code.specs.declared.kinds.Arithmetic.{Arithmetic}
use Rattle.tt_code.specs.Runs.{Choices, left_by}
use Rattle.tt_symbolic_state.specs.declared.cell.Cell.{Cell}
use Rattle.tt_symbolic_state.specs.Values.{Fits, Valuation}
use Rattle.tt_symbolic_state.specs.CvtMachine.{SameControls}
use Rattle.tt_symbolic_state.specs.Shows.{IsShown, Shows}
use Rattle.tt_symbolic_state.specs.declared.state.State.{State}

-- which choices and new control values a machine with these control values may have
abbrev pub Allowing : Type 1
Allowing = Machine → (ℕ → ℤ) → Choices → (ℕ → ℤ) → Type 0

-- the control values stay
abbrev pub keeps_controls : Allowing
keeps_controls m old choices new = SameControls old new

-- the machine doesn't fault, and whatever the choices that are allowed, it comes to such a machine,
-- with a stack of this depth
pub record Goes (result : Tested Outcome) (depth : ℕ) (Allowed : Choices → (ℕ → ℤ) → Type 0)
    (Into : Machine → (ℕ → ℤ) → Type 0) : Type 0 where
  pub after : Outcome
  pub goes : result ≡ Ok after
  pub deep : length after.after.stack + length after.pushes ≡ depth
  pub into : (choices : Choices) (controls : ℕ → ℤ) → ((i : ℕ) → IsNumber (choices i))
      → Allowed choices controls → Into (left_by after choices) controls

-- the state shows the machine by some valuation, wherever the machine is
pub record ShowsSome (a : State) (m : Machine) (controls : ℕ → ℤ) : Type 0 where
  pub valuation : Valuation
  pub fits : Fits a.ranges.items valuation
  pub shows : Shows valuation a m controls

-- the state shows the machine, which is at its offset, by this valuation
pub record IsShownBy (v : Valuation) (a : State) (m : Machine) (controls : ℕ → ℤ) : Type 0 where
  pub fits : Fits a.ranges.items v
  pub shows : Shows v a m controls
  pub offset_is : m.offset ≡ a.offset

-- the old state became the new one as the machine does this, without leading elsewhere
pub record Works (does : Machine → Tested Outcome) (Allowed : Allowing) (old new : State) : Type 0
  where
    pub works : (v : Valuation) (m : Machine) (controls : ℕ → ℤ) → Fits old.ranges.items v
        → Shows v old m controls
        → Goes (does m) (length new.stack) (Allowed m controls) (ShowsSome new)
    pub stays : new.offset ≡ old.offset

-- the same of an instruction that leads from a place to a place
pub record Sound (does : Machine → Tested Outcome) (Allowed : Allowing) (old new : State) : Type 0
  where
    pub sound : (m : Machine) (controls : ℕ → ℤ) → IsShown old m controls
        → Goes (does m) (length new.stack) (Allowed m controls) (IsShown new)

-- a number that is one of these for the machine is put on its stack
pub record Puts (These : Valuation → Machine → (ℕ → ℤ) → ℤ → Type 0) (old new : State) : Type 0
  where
    pub puts : (v : Valuation) (m : Machine) (controls : ℕ → ℤ) → Fits old.ranges.items v
        → Shows v old m controls → (z : ℤ) → These v m controls z
        → ShowsSome new (record m { stack = z ∷ m.stack }) controls
    pub deeper : length new.stack ≡ suc (length old.stack)
    pub stays : new.offset ≡ old.offset

-- the state without its top, which is this cell
pub record Pops (old new : State) (cell : Cell) : Type 0 where
  pub top : old.stack ≡ cell ∷ new.stack
  pub same : new ≡ record old { stack = new.stack }

-- the state with this cell on top
pub record Pushes (old new : State) (cell : Cell) : Type 0 where
  pub top : new.stack ≡ cell ∷ old.stack
  pub same : new ≡ record old { stack = new.stack }

-- the instruction is carried out
abbrev pub Computes : Arithmetic → State → State → Type 0
Computes op old new = Works (λ m. computed op m) keeps_controls old new
