-- The laws of the orders on cells and zone cells.
use Rattle.std.specs.Prelude.{◌≡◌, ◌≤◌}
use Rattle.std.proofs.Common.{refl, ◌∙◌, ap, arith}
use Rattle.tt_abs.specs.declared.cells.Cell.{Cell}
use Rattle.tt_abs.specs.declared.cells.Cell.TheVariants.{Known, Unknown}
use Rattle.tt_setting.specs.declared.zone.ZoneCell.{ZoneCell}
use Rattle.tt_setting.specs.declared.zone.ZoneCell.TheVariants.{Zero, One, Either}
use Rattle.tt_abs.specs.Orders.{OrderLaws}
use Rattle.tt_abs.specs.CellOrders.{CellBelow, known_cells, ZoneBelow, known_zones, cell_order, zone_order}

-- each cell is below itself
pub CellBelow-refl : (a : Cell) → CellBelow a a
CellBelow-refl (Known k) = refl
CellBelow-refl Unknown = tt

-- a cell that is below a second is below each one above the second
pub CellBelow-trans : (a b c : Cell) → CellBelow a b → CellBelow b c → CellBelow a c
CellBelow-trans (Known k) (Known l) (Known m) p q = p ∙ q
CellBelow-trans (Known k) b Unknown p q = tt
CellBelow-trans (Known k) Unknown (Known m) p q = absurd q
CellBelow-trans Unknown (Known l) c p q = absurd p
CellBelow-trans Unknown Unknown c p q = q

-- two cells that are below each other are the same
pub CellBelow-antisym : (a b : Cell) → CellBelow a b → CellBelow b a → a ≡ b
CellBelow-antisym (Known k) (Known l) p q = ap Known p
CellBelow-antisym (Known k) Unknown p q = absurd q
CellBelow-antisym Unknown (Known l) p q = absurd p
CellBelow-antisym Unknown Unknown p q = refl

-- `known_cells`, 1 for a known cell and 0 for an unknown one, doesn't grow from a cell to one above
pub known_cells-falls : (a b : Cell) → CellBelow a b → known_cells b ≤ known_cells a
known_cells-falls (Known k) (Known l) p = omega arith
known_cells-falls (Known k) Unknown p = omega arith
known_cells-falls Unknown (Known l) p = absurd p
known_cells-falls Unknown Unknown p = omega arith

-- and where it stays the same, the cell does
pub known_cells-strict : (a b : Cell) → CellBelow a b → known_cells b ≡ known_cells a → a ≡ b
known_cells-strict (Known k) (Known l) p e = ap Known p
known_cells-strict (Known k) Unknown p e = absurd (omega arith)
known_cells-strict Unknown (Known l) p e = absurd p
known_cells-strict Unknown Unknown p e = refl

-- the laws of the order of cells
pub cell_laws : OrderLaws cell_order
cell_laws = record {
  reflexive = CellBelow-refl;
  transitive = CellBelow-trans;
  antisymmetric = λ a b _ _. CellBelow-antisym a b;
  one_depth = λ _ _ _. tt;
  depth_symmetric = λ _ _ _. tt;
  depth_transitive = λ _ _ _ _ _. tt;
  left_falls = λ a b _ _. known_cells-falls a b;
  left_strict = λ a b _ _. known_cells-strict a b;
}

-- each zone cell is below itself
pub ZoneBelow-refl : (a : ZoneCell) → ZoneBelow a a
ZoneBelow-refl Zero = tt
ZoneBelow-refl One = tt
ZoneBelow-refl Either = tt

-- a zone cell that is below a second is below each one above the second
pub ZoneBelow-trans : (a b c : ZoneCell) → ZoneBelow a b → ZoneBelow b c → ZoneBelow a c
ZoneBelow-trans Zero Zero c p q = q
ZoneBelow-trans Zero One c p q = absurd p
ZoneBelow-trans Zero Either Zero p q = tt
ZoneBelow-trans Zero Either One p q = absurd q
ZoneBelow-trans Zero Either Either p q = tt
ZoneBelow-trans One Zero c p q = absurd p
ZoneBelow-trans One One c p q = q
ZoneBelow-trans One Either Zero p q = absurd q
ZoneBelow-trans One Either One p q = tt
ZoneBelow-trans One Either Either p q = tt
ZoneBelow-trans Either Zero c p q = absurd p
ZoneBelow-trans Either One c p q = absurd p
ZoneBelow-trans Either Either c p q = q

-- two zone cells that are below each other are the same
pub ZoneBelow-antisym : (a b : ZoneCell) → ZoneBelow a b → ZoneBelow b a → a ≡ b
ZoneBelow-antisym Zero Zero p q = refl
ZoneBelow-antisym Zero One p q = absurd p
ZoneBelow-antisym Zero Either p q = absurd q
ZoneBelow-antisym One Zero p q = absurd p
ZoneBelow-antisym One One p q = refl
ZoneBelow-antisym One Either p q = absurd q
ZoneBelow-antisym Either Zero p q = absurd p
ZoneBelow-antisym Either One p q = absurd p
ZoneBelow-antisym Either Either p q = refl

-- `known_zones`, 1 for a known zone cell and 0 otherwise, doesn't grow from one to one above
pub known_zones-falls : (a b : ZoneCell) → ZoneBelow a b → known_zones b ≤ known_zones a
known_zones-falls Zero Zero p = omega arith
known_zones-falls Zero One p = absurd p
known_zones-falls Zero Either p = omega arith
known_zones-falls One Zero p = absurd p
known_zones-falls One One p = omega arith
known_zones-falls One Either p = omega arith
known_zones-falls Either Zero p = absurd p
known_zones-falls Either One p = absurd p
known_zones-falls Either Either p = omega arith

-- and where it stays the same, the zone cell does
pub known_zones-strict : (a b : ZoneCell) → ZoneBelow a b → known_zones b ≡ known_zones a → a ≡ b
known_zones-strict Zero Zero p e = refl
known_zones-strict Zero One p e = absurd p
known_zones-strict Zero Either p e = absurd (omega arith)
known_zones-strict One Zero p e = absurd p
known_zones-strict One One p e = refl
known_zones-strict One Either p e = absurd (omega arith)
known_zones-strict Either Zero p e = absurd p
known_zones-strict Either One p e = absurd p
known_zones-strict Either Either p e = refl

-- the laws of the order of zone cells
pub zone_laws : OrderLaws zone_order
zone_laws = record {
  reflexive = ZoneBelow-refl;
  transitive = ZoneBelow-trans;
  antisymmetric = λ a b _ _. ZoneBelow-antisym a b;
  one_depth = λ _ _ _. tt;
  depth_symmetric = λ _ _ _. tt;
  depth_transitive = λ _ _ _ _ _. tt;
  left_falls = λ a b _ _. known_zones-falls a b;
  left_strict = λ a b _ _. known_zones-strict a b;
}
