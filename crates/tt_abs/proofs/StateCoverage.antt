-- One graphics state of cells, and one abstract state, is below another exactly if that one covers all that it covers.
use Rattle.std.specs.Prelude.{ℤ}
use Rattle.std.proofs.Common.{[]}
use Rattle.tt_code.specs.Settings.{ZoneNumber}
use Rattle.tt_code.specs.States.{Machine}
use Rattle.tt_abs.specs.declared.state.State.{State}
use Rattle.tt_abs.specs.Cells.{Covers, CoversZone, Cells, Numbers, CoversGraphics, CoversState}
use Rattle.tt_abs.specs.StorageCells.{storage_of}
use Rattle.tt_abs.specs.Representation.EntryCoverage.{functions_below_is_coverage, storage_below_is_coverage}
use Rattle.tt_abs.specs.GraphicsOrders.{graphics_order}
use Rattle.tt_abs.specs.States.{abstract_of, state_order}
use Rattle.tt_abs.proofs.Choosing.{some_covered, some_stack, some_graphics}
use Rattle.tt_abs.proofs.CoverageLemmas.{CellBelow-coverage, ZoneBelow-coverage, StackBelow-coverage}

graphics_covers : (a b : Cells) → graphics_order.InRange a → graphics_order.Below a b → (g : Numbers) → CoversGraphics a g → CoversGraphics b g
graphics_covers a b r p g h = record {
  rp0 = (CellBelow-coverage a.rp0 b.rp0 r.0.0).0 p.0.0 g.rp0 h.rp0;
  rp1 = (CellBelow-coverage a.rp1 b.rp1 r.0.1.0).0 p.0.1.0 g.rp1 h.rp1;
  rp2 = (CellBelow-coverage a.rp2 b.rp2 r.0.1.1.0).0 p.0.1.1.0 g.rp2 h.rp2;
  zp0 = (ZoneBelow-coverage a.zp0 b.zp0).0 p.1.0 g.zp0 h.zp0;
  zp1 = (ZoneBelow-coverage a.zp1 b.zp1).0 p.1.1.0 g.zp1 h.zp1;
  zp2 = (ZoneBelow-coverage a.zp2 b.zp2).0 p.1.1.1 g.zp2 h.zp2;
  loop_number = (CellBelow-coverage a.loop_number b.loop_number r.0.1.1.1).0 p.0.1.1.1 g.loop_number h.loop_number;
}

-- what covers still does with one part changed
with_rp0 : (a : Cells) (g : Numbers) → CoversGraphics a g → (n : ℤ) → Covers a.rp0 n → CoversGraphics a (record g { rp0 = n })
with_rp0 a g h n c = record { rp0 = c; rp1 = h.rp1; rp2 = h.rp2; zp0 = h.zp0; zp1 = h.zp1; zp2 = h.zp2; loop_number = h.loop_number }

with_rp1 : (a : Cells) (g : Numbers) → CoversGraphics a g → (n : ℤ) → Covers a.rp1 n → CoversGraphics a (record g { rp1 = n })
with_rp1 a g h n c = record { rp0 = h.rp0; rp1 = c; rp2 = h.rp2; zp0 = h.zp0; zp1 = h.zp1; zp2 = h.zp2; loop_number = h.loop_number }

with_rp2 : (a : Cells) (g : Numbers) → CoversGraphics a g → (n : ℤ) → Covers a.rp2 n → CoversGraphics a (record g { rp2 = n })
with_rp2 a g h n c = record { rp0 = h.rp0; rp1 = h.rp1; rp2 = c; zp0 = h.zp0; zp1 = h.zp1; zp2 = h.zp2; loop_number = h.loop_number }

with_loop : (a : Cells) (g : Numbers) → CoversGraphics a g → (n : ℤ) → Covers a.loop_number n → CoversGraphics a (record g { loop_number = n })
with_loop a g h n c = record { rp0 = h.rp0; rp1 = h.rp1; rp2 = h.rp2; zp0 = h.zp0; zp1 = h.zp1; zp2 = h.zp2; loop_number = c }

with_zp0 : (a : Cells) (g : Numbers) → CoversGraphics a g → (z : ZoneNumber) → CoversZone a.zp0 z → CoversGraphics a (record g { zp0 = z })
with_zp0 a g h z c = record { rp0 = h.rp0; rp1 = h.rp1; rp2 = h.rp2; zp0 = c; zp1 = h.zp1; zp2 = h.zp2; loop_number = h.loop_number }

with_zp1 : (a : Cells) (g : Numbers) → CoversGraphics a g → (z : ZoneNumber) → CoversZone a.zp1 z → CoversGraphics a (record g { zp1 = z })
with_zp1 a g h z c = record { rp0 = h.rp0; rp1 = h.rp1; rp2 = h.rp2; zp0 = h.zp0; zp1 = c; zp2 = h.zp2; loop_number = h.loop_number }

with_zp2 : (a : Cells) (g : Numbers) → CoversGraphics a g → (z : ZoneNumber) → CoversZone a.zp2 z → CoversGraphics a (record g { zp2 = z })
with_zp2 a g h z c = record { rp0 = h.rp0; rp1 = h.rp1; rp2 = h.rp2; zp0 = h.zp0; zp1 = h.zp1; zp2 = c; loop_number = h.loop_number }

graphics_from_coverage : (a b : Cells) → graphics_order.InRange a → ((g : Numbers) → CoversGraphics a g → CoversGraphics b g) → graphics_order.Below a b
graphics_from_coverage a b r f =
    let (g, h) = some_graphics a in (
      (
        (CellBelow-coverage a.rp0 b.rp0 r.0.0).1 (λ n c. (f (record g { rp0 = n }) (with_rp0 a g h n c)).rp0),
        (
          (CellBelow-coverage a.rp1 b.rp1 r.0.1.0).1 (λ n c. (f (record g { rp1 = n }) (with_rp1 a g h n c)).rp1),
          (
            (CellBelow-coverage a.rp2 b.rp2 r.0.1.1.0).1 (λ n c. (f (record g { rp2 = n }) (with_rp2 a g h n c)).rp2),
            (CellBelow-coverage a.loop_number b.loop_number r.0.1.1.1).1 (λ n c. (f (record g { loop_number = n }) (with_loop a g h n c)).loop_number),
          ),
        ),
      ),
      (
        (ZoneBelow-coverage a.zp0 b.zp0).1 (λ z c. (f (record g { zp0 = z }) (with_zp0 a g h z c)).zp0),
        (
          (ZoneBelow-coverage a.zp1 b.zp1).1 (λ z c. (f (record g { zp1 = z }) (with_zp1 a g h z c)).zp1),
          (ZoneBelow-coverage a.zp2 b.zp2).1 (λ z c. (f (record g { zp2 = z }) (with_zp2 a g h z c)).zp2),
        ),
      ),
    )

-- each abstract state covers some machine
some_machine_covered : (a : State) → (m : Machine) × CoversState (abstract_of a) m
some_machine_covered a =
    let (ns, stack) = some_stack a.stack in
    let (g, graphics) = some_graphics a.graphics in (
      record {
        frames = [];
        offset = 0;
        stack = ns;
        registers = record { graphics = g; storage = λ i. (some_covered (storage_of a.storage i)).0 };
        functions = a.functions;
      },
      record {
        stack = stack;
        graphics = graphics;
        storage = λ i. (some_covered (storage_of a.storage i)).1;
        functions = λ _ _ named. named;
      },
    )

pub state_covers : (a b : State) → state_order.InRange a → state_order.Below a b → (m : Machine) → CoversState (abstract_of a) m → CoversState (abstract_of b) m
state_covers a b r p m h = record {
  stack = (StackBelow-coverage a.stack b.stack r.0).0 p.0 m.stack h.stack;
  graphics = graphics_covers a.graphics b.graphics r.1.0 p.1.0 m.registers.graphics h.graphics;
  functions = (functions_below_is_coverage a.functions b.functions).0 p.1.1.0 m.functions h.functions;
  storage = (storage_below_is_coverage a.storage b.storage r.1.1.1).0 p.1.1.1 m.registers.storage h.storage;
}

pub state_from_coverage : (a b : State) → state_order.InRange a → ((m : Machine) → CoversState (abstract_of a) m → CoversState (abstract_of b) m)
    → state_order.Below a b
state_from_coverage a b r f =
    let (m, h) = some_machine_covered a in (
      (StackBelow-coverage a.stack b.stack r.0).1
          (λ ns c. (f (record m { stack = ns }) (record { stack = c; graphics = h.graphics; storage = h.storage; functions = h.functions })).stack),
      (
        graphics_from_coverage a.graphics b.graphics r.1.0
            (λ g c. (f (record m { registers = record { graphics = g; storage = m.registers.storage } })
            (record { stack = h.stack; graphics = c; storage = h.storage; functions = h.functions })).graphics),
        (
          (functions_below_is_coverage a.functions b.functions).1
              (λ fs c. (f (record m { functions = fs }) (record { stack = h.stack; graphics = h.graphics; storage = h.storage; functions = c })).functions),
          (storage_below_is_coverage a.storage b.storage r.1.1.1).1
              (λ area c. (f (record m { registers = record { graphics = m.registers.graphics; storage = area } })
              (record { stack = h.stack; graphics = h.graphics; storage = c; functions = h.functions })).storage),
        ),
      ),
    )
