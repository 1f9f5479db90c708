use Rattle.std.proofs.Common.{◌≡◌, drop, take}
use Rattle.tt_code.specs.Changes.{all_updated}
use Rattle.tt_abs.specs.States.{abstract_of}
use Rattle.tt_abs.specs.Representation.Stored.{AreIndexed}
use Rattle.tt_abs.specs.Transfers.{cells}
use Rattle.tt_abs.proofs.changes.update_all.Given as goal

abbrev pub invariant-loop-change : goal.invariant-loop-change
invariant-loop-change l = record {
  stack : l.state.stack ≡ l.initial.state.stack;
  functions : l.state.functions ≡ l.initial.state.functions;
  indexed : AreIndexed (take l.fn.count l.initial.state.stack) (drop l.change-index l.fn.changes);
  registers : all_updated cells (take l.fn.count l.initial.state.stack) (drop l.change-index l.fn.changes) (abstract_of l.state).registers
      ≡ all_updated cells (take l.fn.count l.initial.state.stack) l.fn.changes (abstract_of l.initial.state).registers;
}
