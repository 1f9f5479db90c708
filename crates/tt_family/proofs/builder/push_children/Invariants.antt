use Rattle.std.proofs.Common.{◌≡◌, ◌++◌}
use Rattle.std.specs.Map.{values_of}
use Rattle.tt_family.specs.Representation.FileOrder.{children}
use Rattle.tt_family.proofs.builder.push_children.Given as goal

abbrev pub invariant-loop-number : goal.invariant-loop-number
invariant-loop-number l = record {
  can_next : (goal.iterator-loop-number).can_next l.number-iterator;
  is_finite : (goal.iterator-loop-number).is_finite l.number-iterator;
  rest : l.order.items ++ values_of l.number-iterator ≡ l.initial.order.items ++ children l.index.entries l.parent;
}
