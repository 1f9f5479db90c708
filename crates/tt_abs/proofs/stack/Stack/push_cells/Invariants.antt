use Rattle.std.proofs.Common.{◌≡◌, drop}
use Rattle.tt_abs.specs.Stacks.{StackInRange}
use Rattle.tt_abs.specs.Transfers.{cells_on}
use Rattle.tt_abs.proofs.stack.Stack.push_cells.Given as goal

abbrev pub invariant-loop-i : goal.invariant-loop-i
invariant-loop-i l = record {
  pushed : cells_on (drop l.i l.rest) l.self ≡ cells_on l.cells l.fn.self;
  in_range : StackInRange l.fn.self → StackInRange l.self;
}
