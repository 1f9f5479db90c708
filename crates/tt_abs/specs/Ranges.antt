-- Cells and abstract states that are in the range of the machine's numbers.
use Rattle.std.specs.Prelude.{ℕ, ◌<◌, ◌^◌, List, [], ◌∷◌}
use Rattle.std.specs.List.{AllByRecursion}
use Rattle.tt_code.specs.States.{IsNumber, Registers}
use Rattle.tt_abs.specs.declared.cells.Cell.{Cell}
use Rattle.tt_abs.specs.declared.cells.Cell.TheVariants.{Known, Unknown}
use Rattle.tt_setting.specs.declared.zone.ZoneCell.{ZoneCell}
use Rattle.tt_abs.specs.Cells.{Abstract}
use Rattle.tt_abs.specs.Transfers.{Next}

-- what is known is a number of the machine
abbrev pub IsInRange : Cell → Type 0
IsInRange (Known k) = IsNumber k
IsInRange Unknown = Unit {0}

-- each cell of the stack is in range
abbrev pub AreInRange : List Cell → Type 0
AreInRange [] = Unit {0}
AreInRange (c ∷ cs) = IsInRange c × AreInRange cs

-- each cell outside of the stack is in range
pub record AreRegistersInRange (r : Registers Cell ZoneCell) : Type 0 where
  pub rp0 : IsInRange r.graphics.rp0
  pub rp1 : IsInRange r.graphics.rp1
  pub rp2 : IsInRange r.graphics.rp2
  pub loop_number : IsInRange r.graphics.loop_number
  pub storage : (i : ℕ) → IsInRange (r.storage i)

-- each cell of the abstract state is in range
pub record IsStateInRange (a : Abstract) : Type 0 where
  pub stack : AreInRange a.stack
  pub registers : AreRegistersInRange a.registers

-- each of the next abstract states is in range
abbrev pub AreNextInRange : List Next → Type 0
AreNextInRange nexts = AllByRecursion (λ n. IsStateInRange n.state) nexts
