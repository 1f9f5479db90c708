-- What it means that one symbolic state covers another.
use Rattle.std.specs.Prelude.{◌≡◌, ◌<◌, ℕ, ℤ, List, Option, None, Some, length, slice_get, slice_index_or, reverse}
use Rattle.tt_code.specs.States.{Machine}
use Rattle.tt_symbolic_state.specs.declared.cell.Cell.{Cell}
use Rattle.tt_symbolic_state.specs.declared.cell.Range.{Range}
use Rattle.tt_symbolic_state.specs.Values.{Assigns, Fits, IsWithin, Valuation, value}
use Rattle.tt_code.specs.declared.machine.Graphics.{Graphics}
use Rattle.tt_setting.specs.Functions.{CoversFunctions}
use Rattle.tt_setting.specs.Entries.{listed}
use Rattle.tt_symbolic_state.specs.declared.state.Zone.{Zone}
use Rattle.tt_symbolic_state.specs.Shows.{IsShown}
use Rattle.tt_symbolic_state.specs.declared.state.OpenCall.{OpenCall}
use Rattle.tt_symbolic_state.specs.declared.state.State.{State}

-- the second state shows each machine that the first shows
pub record Covers (mine theirs : State) : Type 0 where
  pub covers : (m : Machine) (controls : ℕ → ℤ) → IsShown mine m controls
      → IsShown theirs m controls

-- what was assigned before is still assigned
pub record Extends (old new : List (Option Cell)) : Type 0 where
  pub extends : (v w : Valuation) → Assigns new v w → Assigns old v w

-- by what is assigned, the cell has the value of the other
pub record Agrees (assigned : List (Option Cell)) (ranges : List Range) (mine theirs : Cell)
    : Type 0 where
  pub agrees : (v w : Valuation) → Fits ranges v → Assigns assigned v w
      → value w theirs ≡ value v mine

-- the same of two lists of cells
pub record AgreeAll (assigned : List (Option Cell)) (ranges : List Range)
    (mine theirs : List Cell) : Type 0 where
  pub depth : length mine ≡ length theirs
  pub agree : (k : ℕ) (d : Cell) → k < length mine
      → Agrees assigned ranges (slice_index_or mine k d) (slice_index_or theirs k d)

-- the same of two open calls, of one body and from one place
pub record AgreeCall (assigned : List (Option Cell)) (ranges : List Range)
    (mine theirs : OpenCall) : Type 0 where
  pub body : mine.body ≡ theirs.body
  pub call : mine.call ≡ theirs.call
  pub left : Agrees assigned ranges mine.left theirs.left

-- the same of all open calls
pub record AgreeCalls (assigned : List (Option Cell)) (ranges : List Range)
    (mine theirs : List OpenCall) : Type 0 where
  pub depth : length mine ≡ length theirs
  pub agree : (k : ℕ) (d : OpenCall) → k < length mine
      → AgreeCall assigned ranges (slice_index_or mine k d) (slice_index_or theirs k d)

-- what is listed for the covering state is listed for the other, with a cell that agrees
pub record AgreeEntries (assigned : List (Option Cell)) (ranges : List Range)
    (mine theirs : List (ℕ × Cell)) : Type 0 where
  pub agree : (i : ℕ) (c : Cell) → listed theirs i ≡ Some c
      → (d : Cell) × (listed mine i ≡ Some d) × Agrees assigned ranges d c

-- an entry of the covering state is one of the other's, with a cell that agrees
abbrev pub IsEntryOf : List (Option Cell) → List Range → List (ℕ × Cell) → ℕ × Cell → Type 0
IsEntryOf assigned ranges mine e =
    (d : Cell) × (listed mine e.0 ≡ Some d) × Agrees assigned ranges d e.1

-- the same of two graphics states
pub record AgreeGraphics (assigned : List (Option Cell)) (ranges : List Range)
    (mine theirs : Graphics Cell Zone) : Type 0
  where
    pub zp0 : mine.zp0 ≡ theirs.zp0
    pub zp1 : mine.zp1 ≡ theirs.zp1
    pub zp2 : mine.zp2 ≡ theirs.zp2
    pub rp0 : Agrees assigned ranges mine.rp0 theirs.rp0
    pub rp1 : Agrees assigned ranges mine.rp1 theirs.rp1
    pub rp2 : Agrees assigned ranges mine.rp2 theirs.rp2
    pub loop_number : Agrees assigned ranges mine.loop_number theirs.loop_number

-- the number of a symbol of the covering state: that of the cell that is assigned to it, otherwise
-- the least of its range
abbrev pub image_of : Option Cell → Range → Valuation → ℤ
image_of None range v = range.low
image_of (Some c) range v = value v c

-- that number is in the range
pub record IsImageWithin (given : Option Cell) (ranges : List Range) (range : Range) : Type 0 where
  pub within : (v : Valuation) → Fits ranges v → IsWithin range (image_of given range v)

-- the same of each symbol
pub record RangesWithin (assigned : List (Option Cell)) (mine theirs : List Range) : Type 0 where
  pub each : (i : ℕ) (r : Range) → slice_get theirs i ≡ Some r
      → (given : Option Cell) × (slice_get assigned i ≡ Some given) × IsImageWithin given mine r

-- all parts of two states agree
pub record AgreeStates (assigned : List (Option Cell)) (ranges : List Range)
    (mine theirs : State) : Type 0 where
  pub offset : mine.offset ≡ theirs.offset
  pub calls : AgreeCalls assigned ranges mine.calls.items theirs.calls.items
  pub functions : CoversFunctions theirs.functions mine.functions
  pub graphics : AgreeGraphics assigned ranges mine.graphics theirs.graphics
  pub stack : AgreeAll assigned ranges (reverse mine.stack) (reverse theirs.stack)
  pub storage : AgreeEntries assigned ranges mine.storage theirs.storage
  pub controls_are : AgreeEntries assigned ranges mine.controls theirs.controls
