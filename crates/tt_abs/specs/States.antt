-- Abstract states as the code keeps them: what they mean, and their order.
use Rattle.std.specs.Prelude.{ℕ, ℤ, pos, ⊤, List, []}
use Rattle.std.proofs.Common.{refl}
use Rattle.tt_code.specs.States.{IsNumber}
use Rattle.tt_abs.specs.declared.cells.Cell.{Cell}
use Rattle.tt_abs.specs.declared.cells.Cell.TheVariants.{Known}
use Rattle.tt_setting.specs.declared.zone.ZoneCell.TheVariants.{One}
use Rattle.tt_abs.specs.declared.state.State.{State}
use Rattle.tt_abs.specs.Orders.{Order, OrderLaws, IsLeastAbove}
use Rattle.tt_abs.specs.Cells.{Cells, Abstract}
use Rattle.tt_abs.specs.StorageCells.{storage_of}
use Rattle.tt_abs.specs.Stacks.{stack_order}
use Rattle.tt_abs.specs.StackLaws.{stack_laws}
use Rattle.tt_abs.specs.GraphicsOrders.{graphics_order, graphics_laws}
use Rattle.tt_abs.specs.EntryOrders.{entry_order}
use Rattle.tt_abs.specs.EntryLaws.{entry_laws}
use Rattle.tt_abs.specs.Products.{product, product_laws, product_least, along, along_laws, along_least}

-- what a state says of a machine: its list of storage cells becomes a cell for each index
abbrev pub abstract_of : State → Abstract
abstract_of s = record {
  stack = s.stack;
  registers = record { graphics = s.graphics; storage = storage_of s.storage };
  functions = s.functions;
}

-- the graphics state with which every program starts
abbrev pub default_cells : Cells
default_cells = record {
  rp0 = Known (pos 0);
  rp1 = Known (pos 0);
  rp2 = Known (pos 0);
  zp0 = One;
  zp1 = One;
  zp2 = One;
  loop_number = Known (pos 1);
}

-- the state in which a program starts, with these functions
abbrev pub start_of : List (ℕ × ℕ) → State
start_of functions =
    record { stack = []; graphics = default_cells; functions = functions; storage = [] }

-- The order of states: part by part.

-- the parts of a state: its stack, its graphics state, its functions and its storage cells
abbrev pub Parts : Type 0
Parts = List Cell × (Cells × (List (ℕ × ℕ) × List (ℕ × ℤ)))

-- the parts of this state
abbrev pub parts : State → Parts
parts s = (s.stack, (s.graphics, (s.functions, s.storage)))

-- the state of these parts
abbrev pub state_from : Parts → State
state_from p = record { stack = p.0; graphics = p.1.0; functions = p.1.1.0; storage = p.1.1.1 }

-- the order of functions with their bodies, whatever these are
abbrev pub function_order : Order (List (ℕ × ℕ))
function_order = entry_order (λ _. ⊤)

-- the order of storage cells with their numbers, which are numbers of the machine
abbrev pub storage_order : Order (List (ℕ × ℤ))
storage_order = entry_order IsNumber

-- the order of functions and storage cells
abbrev pub list_order : Order (List (ℕ × ℕ) × List (ℕ × ℤ))
list_order = product function_order storage_order

-- a state is below another if each of its parts is
abbrev pub state_order : Order State
state_order = along parts (product stack_order (product graphics_order list_order))

-- a change keeps the state in range
abbrev pub KeepsRange : State → State → Type 0
KeepsRange old new = state_order.InRange old → state_order.InRange new

-- the laws of the order of states
pub state_laws : OrderLaws state_order
state_laws =
    along_laws parts state_from (λ _. refl)
    (product stack_order (product graphics_order list_order))
    (product_laws stack_order (product graphics_order list_order) stack_laws
    (product_laws graphics_order list_order graphics_laws
    (product_laws function_order storage_order (entry_laws (λ _. ⊤)) (entry_laws IsNumber))))

-- the least parts above those of two states make the least state above both
pub state_least : (s t u : State) → IsLeastAbove stack_order s.stack t.stack u.stack
    → IsLeastAbove graphics_order s.graphics t.graphics u.graphics
    → IsLeastAbove function_order s.functions t.functions u.functions
    → IsLeastAbove storage_order s.storage t.storage u.storage
    → IsLeastAbove state_order s t u
state_least s t u a b c d =
    along_least parts (product stack_order (product graphics_order list_order)) s t u
    (product_least stack_order (product graphics_order list_order) (parts s) (parts t) (parts u) a
    (product_least graphics_order list_order (parts s).1 (parts t).1 (parts u).1 b
    (product_least function_order storage_order (parts s).1.1 (parts t).1.1 (parts u).1.1 c d)))
