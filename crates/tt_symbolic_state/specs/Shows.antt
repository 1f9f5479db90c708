-- Which machines a symbolic state shows: those whose numbers are those of its cells, by a valuation
-- of its symbols.
use Rattle.std.specs.Prelude.{◌≡◌, ◌≢◌, ℕ, ℤ, pos, ◌-ℤ◌, List, [], ◌∷◌, map, reverse, Some}
use Rattle.tt_code.specs.Settings.{ZoneNumber, Zero, One}
use Rattle.tt_code.specs.States.{Machine, IsNumber}
use Rattle.tt_code.specs.declared.machine.Frame.{Frame}
use Rattle.tt_code.specs.declared.machine.Graphics.{Graphics}
use Rattle.tt_setting.specs.Functions.{CoversFunctions}
use Rattle.tt_setting.specs.Entries.{listed}
use Rattle.tt_symbolic_state.specs.declared.cell.Cell.{Cell}
use Rattle.tt_symbolic_state.specs.declared.cell.Range.{Range}
use Rattle.tt_symbolic_state.specs.Values.{Fits, IsWithin, Valuation, value}
use Rattle.tt_symbolic_state.specs.declared.state.OpenCall.{OpenCall}
use Rattle.tt_symbolic_state.specs.declared.state.Zone.{Zone}
use Rattle.tt_symbolic_state.specs.declared.state.Zone.TheVariants as zone
use Rattle.tt_symbolic_state.specs.declared.state.State.{State}

-- the zone of the machine
abbrev pub zone_number : Zone → ZoneNumber
zone_number zone.Zero = Zero
zone_number zone.One = One

-- the numbers of a stack
abbrev pub values : Valuation → List Cell → List ℤ
values v cells = map (value v) cells

-- the graphics state of numbers
abbrev pub graphics_of : Valuation → Graphics Cell Zone → Graphics ℤ ZoneNumber
graphics_of v g = record {
  rp0 = value v g.rp0;
  rp1 = value v g.rp1;
  rp2 = value v g.rp2;
  zp0 = zone_number g.zp0;
  zp1 = zone_number g.zp1;
  zp2 = zone_number g.zp2;
  loop_number = value v g.loop_number;
}

-- the same body, called from the same place, with as many turns left
pub record ShowsCall (v : Valuation) (call : OpenCall) (frame : Frame) : Type 0 where
  pub body_is : frame.body ≡ call.body
  pub call_is : frame.call ≡ call.call
  pub left_is : pos frame.count -ℤ pos frame.turn ≡ value v call.left

-- the same of all open calls
pub data ShowsCalls (v : Valuation) : List OpenCall → List Frame → Type 0 where
  none : ShowsCalls v [] []
  more : (call : OpenCall) (calls : List OpenCall) (frame : Frame) (frames : List Frame)
      → ShowsCall v call frame → ShowsCalls v calls frames
      → ShowsCalls v (call ∷ calls) (frame ∷ frames)

-- what is listed is so in the area, and all of it are numbers of the machine
pub record ShowsArea (v : Valuation) (cells : List (ℕ × Cell)) (area : ℕ → ℤ) : Type 0 where
  pub listed_is : (i : ℕ) (c : Cell) → listed cells i ≡ Some c → area i ≡ value v c
  pub are_numbers : (i : ℕ) → IsNumber (area i)

-- the state shows the machine with these control values by this valuation, wherever the machine is
pub record Shows (v : Valuation) (a : State) (m : Machine) (controls : ℕ → ℤ) : Type 0 where
  pub calls : ShowsCalls v (reverse a.calls.items) m.frames
  pub stack : m.stack ≡ values v a.stack
  pub graphics : m.registers.graphics ≡ graphics_of v a.graphics
  pub storage : ShowsArea v a.storage m.registers.storage
  pub controls_are : ShowsArea v a.controls controls
  pub functions : CoversFunctions a.functions m.functions

-- the state shows the machine, which is at its offset, by some valuation
pub record IsShown (a : State) (m : Machine) (controls : ℕ → ℤ) : Type 0 where
  pub valuation : Valuation
  pub fits : Fits a.ranges.items valuation
  pub shows : Shows valuation a m controls
  pub offset_is : m.offset ≡ a.offset

-- a new symbol can have any number of the range, and all else stays as it is
pub record IsFresh (old new : State) (range : Range) (cell : Cell) : Type 0 where
  pub same : new ≡ record old { ranges = new.ranges }
  pub any : (v : Valuation) (z : ℤ) → Fits old.ranges.items v → IsWithin range z
      → (w : Valuation) × Fits new.ranges.items w × (value w cell ≡ z)
      × ((m : Machine) (controls : ℕ → ℤ) → Shows v old m controls → Shows w old m controls)

-- the cell's value doesn't depend on the symbol
pub record IsFree (s : ℕ) (c : Cell) : Type 0 where
  pub same : (v w : Valuation) → ((i : ℕ) → i ≢ s → w i ≡ v i) → value w c ≡ value v c

-- the same of what is left of a call
abbrev pub IsFreeCall : ℕ → OpenCall → Type 0
IsFreeCall s call = IsFree s call.left
