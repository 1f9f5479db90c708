-- Reference points and zone pointers of a graphics state of cells, and of the numbers that these show.
use Rattle.std.proofs.Common.{◌≡◌, refl}
use Rattle.tt_code.specs.States.{pointer, reference, with_pointer, with_reference}
use Rattle.tt_code.specs.declared.kinds.Pointer.{Pointer}
use Rattle.tt_code.specs.declared.kinds.Pointer.TheVariants.{Zp0, Zp1, Zp2}
use Rattle.tt_code.specs.declared.kinds.Reference.{Reference}
use Rattle.tt_code.specs.declared.kinds.Reference.TheVariants.{Rp0, Rp1, Rp2}
use Rattle.tt_code.specs.declared.machine.Graphics.{Graphics}
use Rattle.tt_symbolic_state.specs.Shows.{graphics_of, zone_number}
use Rattle.tt_symbolic_state.specs.Values.{Valuation, value}
use Rattle.tt_symbolic_state.specs.declared.cell.Cell.{Cell}
use Rattle.tt_symbolic_state.specs.declared.state.Zone.{Zone}

pub reference_value : (v : Valuation) (which : Reference) (g : Graphics Cell Zone) → value v (reference which g) ≡ reference which (graphics_of v g)
reference_value v Rp0 g = refl
reference_value v Rp1 g = refl
reference_value v Rp2 g = refl

pub pointer_zone : (v : Valuation) (which : Pointer) (g : Graphics Cell Zone) → zone_number (pointer which g) ≡ pointer which (graphics_of v g)
pointer_zone v Zp0 g = refl
pointer_zone v Zp1 g = refl
pointer_zone v Zp2 g = refl

pub reference_set : (v : Valuation) (which : Reference) (cell : Cell) (g : Graphics Cell Zone) → graphics_of v (with_reference which cell g) ≡ with_reference which (value v cell) (graphics_of v g)
reference_set v Rp0 cell g = refl
reference_set v Rp1 cell g = refl
reference_set v Rp2 cell g = refl

pub pointer_set : (v : Valuation) (which : Pointer) (z : Zone) (g : Graphics Cell Zone) → graphics_of v (with_pointer which z g) ≡ with_pointer which (zone_number z) (graphics_of v g)
pointer_set v Zp0 z g = refl
pointer_set v Zp1 z g = refl
pointer_set v Zp2 z g = refl
