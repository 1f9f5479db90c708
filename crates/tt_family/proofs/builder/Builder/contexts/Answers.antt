use Rattle.std.proofs.Common.{arith}
use Rattle.tt_family.proofs.Adding.{length_is, entries_few}
use Rattle.tt_family.proofs.builder.Builder.contexts.Goals as goal

pub overflow_cast-result : goal.overflow_cast-result
overflow_cast-result c =
    let few = entries_few _ _ _ _ c.self.view_is c.self.invariant in
    let e = c.len.ensures in
    omega arith

pub overflow_add-result : goal.overflow_add-result
overflow_add-result c =
    let few = entries_few _ _ _ _ c.self.view_is c.self.invariant in
    let e = c.len.ensures in
    omega arith

pub returns-clause-value : goal.returns-clause-value
returns-clause-value c =
    let long = length_is _ _ _ _ c.self.view_is c.self.invariant in
    let e = c.len.ensures in
    omega arith
