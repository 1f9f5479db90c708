-- What is known of a machine state, and the numbers, zones and machine states that it covers.
use Rattle.std.specs.Prelude.{◌≡◌, ℕ, ℤ, List, [], ◌∷◌, Some}
use Rattle.tt_code.specs.Settings.{ZoneNumber, Zero, One}
use Rattle.tt_code.specs.States.{Machine, IsNumber, Registers}
use Rattle.tt_code.specs.Control.{body_named}
use Rattle.tt_code.specs.declared.machine.Graphics.{Graphics}
use Rattle.tt_abs.specs.declared.cells.Cell.{Cell}
use Rattle.tt_abs.specs.declared.cells.Cell.TheVariants.{Known, Unknown}
use Rattle.tt_setting.specs.declared.zone.ZoneCell.{ZoneCell}
use Rattle.tt_setting.specs.declared.zone.ZoneCell.TheVariants as zone
use Rattle.tt_setting.specs.Functions.{CoversFunctions}

-- the cell covers the number
abbrev pub Covers : Cell → ℤ → Type 0
Covers (Known k) n = n ≡ k
Covers Unknown n = IsNumber n

-- the zone cell covers the zone
abbrev pub CoversZone : ZoneCell → ZoneNumber → Type 0
CoversZone zone.Zero Zero = Unit {0}
CoversZone zone.Zero One = ⊥
CoversZone zone.One Zero = ⊥
CoversZone zone.One One = Unit {0}
CoversZone zone.Either z = Unit {0}

-- both have the same depth, and each cell covers its number
abbrev pub CoversStack : List Cell → List ℤ → Type 0
CoversStack [] [] = Unit {0}
CoversStack [] (n ∷ ns) = ⊥
CoversStack (c ∷ cs) [] = ⊥
CoversStack (c ∷ cs) (n ∷ ns) = Covers c n × CoversStack cs ns

-- the graphics state of cells
abbrev pub Cells : Type 0
Cells = Graphics Cell ZoneCell

-- the graphics state of numbers
abbrev pub Numbers : Type 0
Numbers = Graphics ℤ ZoneNumber

-- each part of the first covers that part of the second
pub record CoversGraphics (a : Cells) (g : Numbers) : Type 0 where
  pub rp0 : Covers a.rp0 g.rp0
  pub rp1 : Covers a.rp1 g.rp1
  pub rp2 : Covers a.rp2 g.rp2
  pub zp0 : CoversZone a.zp0 g.zp0
  pub zp1 : CoversZone a.zp1 g.zp1
  pub zp2 : CoversZone a.zp2 g.zp2
  pub loop_number : Covers a.loop_number g.loop_number

-- each cell covers what is stored at its index
abbrev pub CoversStorage : (ℕ → Cell) → (ℕ → ℤ) → Type 0
CoversStorage cells area = (i : ℕ) → Covers (cells i) (area i)

-- An abstract state: what is known of a machine state, except for where it is and its calls.
pub record Abstract : Type 0 where
  -- the top first
  pub stack : List Cell
  pub registers : Registers Cell ZoneCell
  -- function numbers and their bodies
  pub functions : List (ℕ × ℕ)

-- the abstract state covers the machine state
pub record CoversState (a : Abstract) (m : Machine) : Type 0 where
  pub stack : CoversStack a.stack m.stack
  pub graphics : CoversGraphics a.registers.graphics m.registers.graphics
  pub storage : CoversStorage a.registers.storage m.registers.storage
  pub functions : CoversFunctions a.functions m.functions
