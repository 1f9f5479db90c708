use Rattle.std.proofs.Common.{◌≡◌, take}
use Rattle.tt_abs.specs.States.{state_order}
use Rattle.tt_cert.proofs.Building.{with_storage}
use Rattle.tt_cert.proofs.states.store_cells.Given as goal

abbrev pub invariant-loop-index : goal.invariant-loop-index
invariant-loop-index l = (l.state ≡ with_storage l.fn.state (take l.index-index l.cells)) × (state_order.InRange l.fn.state → state_order.InRange l.state)
