-- The order of graphics states of cells: part by part.
use Rattle.std.proofs.Common.{refl}
use Rattle.tt_abs.specs.declared.cells.Cell.{Cell}
use Rattle.tt_setting.specs.declared.zone.ZoneCell.{ZoneCell}
use Rattle.tt_abs.specs.Orders.{Order, OrderLaws}
use Rattle.tt_abs.specs.Cells.{Cells}
use Rattle.tt_abs.specs.CellOrders.{cell_order, zone_order}
use Rattle.tt_abs.specs.CellLaws.{cell_laws, zone_laws}
use Rattle.tt_abs.specs.Products.{product, product_laws, along, along_laws}

-- the three reference points and the loop number
abbrev pub CellParts : Type 0
CellParts = Cell × (Cell × (Cell × Cell))

-- the three zone pointers
abbrev pub ZoneParts : Type 0
ZoneParts = ZoneCell × (ZoneCell × ZoneCell)

-- the parts of a graphics state
abbrev pub graphics_parts : Cells → CellParts × ZoneParts
graphics_parts g = ((g.rp0, (g.rp1, (g.rp2, g.loop_number))), (g.zp0, (g.zp1, g.zp2)))

-- the graphics state of these parts
abbrev pub graphics_from : CellParts × ZoneParts → Cells
graphics_from p = record {
  rp0 = p.0.0;
  rp1 = p.0.1.0;
  rp2 = p.0.1.1.0;
  loop_number = p.0.1.1.1;
  zp0 = p.1.0;
  zp1 = p.1.1.0;
  zp2 = p.1.1.1;
}

-- the order of two cells
abbrev pub two_cells : Order (Cell × Cell)
two_cells = product cell_order cell_order

-- the order of three cells
abbrev pub three_cells : Order (Cell × (Cell × Cell))
three_cells = product cell_order two_cells

-- the order of the three reference points and the loop number
abbrev pub four_cells : Order CellParts
four_cells = product cell_order three_cells

-- the order of two zone cells
abbrev pub two_zones : Order (ZoneCell × ZoneCell)
two_zones = product zone_order zone_order

-- the order of the three zone pointers
abbrev pub three_zones : Order ZoneParts
three_zones = product zone_order two_zones

-- a graphics state is below another if each of its parts is
abbrev pub graphics_order : Order Cells
graphics_order = along graphics_parts (product four_cells three_zones)

-- the laws of the order of the reference points and the loop number
four_laws : OrderLaws four_cells
four_laws =
    product_laws cell_order three_cells cell_laws
    (product_laws cell_order two_cells cell_laws
    (product_laws cell_order cell_order cell_laws cell_laws))

-- the laws of the order of the zone pointers
three_laws : OrderLaws three_zones
three_laws =
    product_laws zone_order two_zones zone_laws
    (product_laws zone_order zone_order zone_laws zone_laws)

-- the laws of the order of graphics states
pub graphics_laws : OrderLaws graphics_order
graphics_laws =
    along_laws graphics_parts graphics_from (λ _. refl) (product four_cells three_zones)
    (product_laws four_cells three_zones four_laws three_laws)
