-- The order of cells and the order of zone cells.
use Rattle.std.specs.Prelude.{◌≡◌, ℕ, ⊤}
use Rattle.tt_code.specs.States.{IsNumber}
use Rattle.tt_abs.specs.declared.cells.Cell.{Cell}
use Rattle.tt_abs.specs.declared.cells.Cell.TheVariants.{Known, Unknown}
use Rattle.tt_setting.specs.declared.zone.ZoneCell.{ZoneCell}
use Rattle.tt_setting.specs.declared.zone.ZoneCell.TheVariants.{Zero, One, Either}
use Rattle.tt_abs.specs.Orders.{Order}

-- a known number is a number of the machine
abbrev pub CellInRange : Cell → Type 0
CellInRange (Known k) = IsNumber k
CellInRange Unknown = ⊤

-- of two cells in range, the second covers each number that the first covers
abbrev pub CellBelow : Cell → Cell → Type 0
CellBelow (Known m) (Known n) = m ≡ n
CellBelow (Known m) Unknown = ⊤
CellBelow Unknown (Known n) = ⊥
CellBelow Unknown Unknown = ⊤

-- 1 for a known cell, which can become unknown, and 0 for an unknown one
abbrev pub known_cells : Cell → ℕ
known_cells (Known k) = 1
known_cells Unknown = 0

-- the second covers each zone that the first covers
abbrev pub ZoneBelow : ZoneCell → ZoneCell → Type 0
ZoneBelow Zero One = ⊥
ZoneBelow Zero b = ⊤
ZoneBelow One Zero = ⊥
ZoneBelow One b = ⊤
ZoneBelow Either Either = ⊤
ZoneBelow Either b = ⊥

-- 1 for a known zone, and 0 for one that may be either
abbrev pub known_zones : ZoneCell → ℕ
known_zones Zero = 1
known_zones One = 1
known_zones Either = 0

-- the order of cells
abbrev pub cell_order : Order Cell
cell_order =
    record { InRange = CellInRange; Below = CellBelow; SameDepth = λ _ _. ⊤; left = known_cells }

-- the order of zone cells
abbrev pub zone_order : Order ZoneCell
zone_order =
    record { InRange = λ _. ⊤; Below = ZoneBelow; SameDepth = λ _ _. ⊤; left = known_zones }
