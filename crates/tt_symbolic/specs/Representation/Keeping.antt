-- What is tested so that no kept entry is written.
use Rattle.std.specs.Prelude.{◌≡◌, ◌+◌, ◌<◌, ℕ, ℤ, pos, List, ◌∷◌, Ok, drop}
use Rattle.tt_code.specs.States.{Machine, Outcome, Registers}
use Rattle.tt_code.specs.Settings.{Setting, ZoneNumber}
use Rattle.tt_code.specs.Changes.{all_updated, natural, numbers, updated}
use Rattle.tt_code.specs.Runs.{Choices, does}
use Rattle.tt_code.specs.Table.{effect_of}
use Rattle.tt_code.specs.declared.kinds.Update.{Update}
use Rattle.tt_code.specs.Table.{refinement_of}
use Rattle.tt_symbolic_state.specs.CvtMachine.{Refines}
use Rattle.tt_symbolic_state.specs.Shows.{values}
use Rattle.tt_symbolic_state.specs.Values.{Fits, Valuation, value}
use Rattle.tt_symbolic_state.specs.declared.cell.Cell.{Cell}
use Rattle.tt_symbolic_state.specs.declared.cell.Range.{Range}
use Rattle.tt_symbolic_state.specs.declared.state.State.{State}
use Rattle.tt_symbolic.specs.Kept.{IsAmong, SameEntries}

-- the cell is never the index of one of these entries
pub record IsNoneOf (entries : List ℕ) (ranges : List Range) (cell : Cell) : Type 0 where
  pub none : (v : Valuation) → Fits ranges v → (i : ℕ) → IsAmong entries i
      → i ≡ natural (value v cell) → ⊥

-- the changes leave the storage area as it is
abbrev pub StoresNothing : List Update → Type 0
StoresNothing updates =
    (taken : List ℤ) (x : Registers ℤ ZoneNumber) → (all_updated numbers taken updates x).storage
    ≡ x.storage

-- the change stores nothing
abbrev pub IsNoStore : Update → Type 0
IsNoStore update =
    (taken : List ℤ) (x : Registers ℤ ZoneNumber) → (updated numbers taken update x).storage
    ≡ x.storage

-- the number under the top is never the index of one of these entries
pub record IsSecondNoneOf (entries : List ℕ) (a : State) : Type 0 where
  pub top : Cell
  pub second : Cell
  pub below : List Cell
  pub stack : a.stack ≡ top ∷ second ∷ below
  pub none : IsNoneOf entries a.ranges.items second

-- the index of a pair under the top is never that of one of these entries
pub record IsPairNoneOf (entries : List ℕ) (pair : ℕ) (a : State) : Type 0 where
  pub none : (v : Valuation) → Fits a.ranges.items v → (index : ℤ) (below : List ℤ)
      → drop (pair + pair + 1) (values v a.stack) ≡ index ∷ below → (i : ℕ) → IsAmong entries i
      → i ≡ natural index → ⊥

-- the same of the first pairs
abbrev pub ArePairsNoneOf : List ℕ → ℕ → State → Type 0
ArePairsNoneOf entries count a = (pair : ℕ) → pair < count → IsPairNoneOf entries pair a

-- the same of as many as the top says
pub record AreAllPairsNoneOf (entries : List ℕ) (a : State) : Type 0 where
  pub count : ℕ
  pub top : Cell
  pub below : List Cell
  pub stack : a.stack ≡ top ∷ below
  pub known : (v : Valuation) → Fits a.ranges.items v → value v top ≡ pos count
  pub none : ArePairsNoneOf entries count a

-- an instruction of this code leaves these control values as they are
abbrev pub KeepsControls : List ℕ → ℕ → State → Type 0
KeepsControls entries code a =
    (v : Valuation) (old new : ℕ → ℤ) (choices : Choices) → Fits a.ranges.items v
    → Refines (refinement_of code) (values v a.stack) old choices new → SameEntries entries old new

-- an instruction of this code leaves these storage cells as they are
abbrev pub KeepsStorage : List ℕ → ℕ → State → Type 0
KeepsStorage entries code a =
    (s : Setting) (v : Valuation) (m : Machine) (rest : List ℕ) (next : ℕ) (o : Outcome)
    → Fits a.ranges.items v → m.stack ≡ values v a.stack
    → does s m (effect_of code) rest next ≡ Ok o
    → SameEntries entries m.registers.storage o.after.registers.storage
