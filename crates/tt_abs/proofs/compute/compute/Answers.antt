use Rattle.std.proofs.Common.{sym, ◌∙◌}
use Rattle.tt_abs.specs.Representation.Computes.{one_result, two_results}
use Rattle.tt_abs.specs.Transfers.{computed_cells, of_one_cell, of_two_cells}
use Rattle.tt_abs.proofs.StackSteps.{restacks_same, refuses_same, computed_of_one, computed_of_two}
use Rattle.tt_abs.proofs.compute.compute.Goals as goal

pub returns-then-is_of_one-clause-ok : goal.returns-then-is_of_one-clause-ok
returns-then-is_of_one-clause-ok c =
    restacks_same c.compute_of_one.result (λ a. of_one_cell a (one_result c.args.operation)) (computed_cells c.args.operation) _ _
    (computed_of_one c.args.operation (sym c.is_of_one.ensures ∙ c.if-is_of_one.true)) c.compute_of_one.ensures.ok

pub returns-then-is_of_one-clause-refused : goal.returns-then-is_of_one-clause-refused
returns-then-is_of_one-clause-refused c =
    refuses_same c.compute_of_one.result (λ a. of_one_cell a (one_result c.args.operation)) (computed_cells c.args.operation) _
    (computed_of_one c.args.operation (sym c.is_of_one.ensures ∙ c.if-is_of_one.true)) c.compute_of_one.ensures.refused

pub returns-else-is_of_one-clause-ok : goal.returns-else-is_of_one-clause-ok
returns-else-is_of_one-clause-ok c =
    restacks_same c.compute_of_two.result (λ a. of_two_cells a (two_results c.args.operation)) (computed_cells c.args.operation) _ _
    (computed_of_two c.args.operation (sym c.is_of_one.ensures ∙ c.if-is_of_one.false)) c.compute_of_two.ensures.ok

pub returns-else-is_of_one-clause-refused : goal.returns-else-is_of_one-clause-refused
returns-else-is_of_one-clause-refused c =
    refuses_same c.compute_of_two.result (λ a. of_two_cells a (two_results c.args.operation)) (computed_cells c.args.operation) _
    (computed_of_two c.args.operation (sym c.is_of_one.ensures ∙ c.if-is_of_one.false)) c.compute_of_two.ensures.refused
