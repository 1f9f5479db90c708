-- The results of arithmetic by the number of operands. (Representation: how the code shares its
-- steps.)
use Rattle.std.specs.Prelude.{◌+ℤ◌, ◌-ℤ◌, neg_ℤ, not}
use Rattle.tt_code.specs.States.{is_true}
use Rattle.tt_code.specs.Computing.{absolute, equal}
use Rattle.tt_code.specs.Refusals.{Tested}
use Rattle.tt_code.specs.declared.kinds.Arithmetic.{Arithmetic}
use Rattle.tt_code.specs.declared.kinds.Arithmetic.TheVariants.{Add, Sub, Abs, Neg, Lt, LtEq, Gt, GtEq, Eq, Neq, And}
use Rattle.tt_abs.specs.declared.cells.Cell.{Cell}
use Rattle.tt_abs.specs.Cells.{Abstract}
use Rattle.tt_abs.specs.Transfers.{exact_cell, truth_cell, of_known, of_both_known, of_one_cell, of_two_cells, lt_cells, le_cells, and_cells, or_cells}

-- what ABS, NEG and NOT compute of a cell
abbrev pub one_result : Arithmetic → Cell → Cell
one_result Abs = of_known (λ x. exact_cell (absolute x))
one_result Neg = of_known (λ x. exact_cell (neg_ℤ x))
one_result _ = of_known (λ x. truth_cell (not (is_true x)))

-- what the others compute of the second element and the top
abbrev pub two_results : Arithmetic → Cell → Cell → Cell
two_results Add = of_both_known (λ x y. exact_cell (x +ℤ y))
two_results Sub = of_both_known (λ x y. exact_cell (x -ℤ y))
two_results Lt = lt_cells
two_results LtEq = le_cells
two_results Gt = λ x y. lt_cells y x
two_results GtEq = λ x y. le_cells y x
two_results Eq = of_both_known (λ x y. truth_cell (equal x y))
two_results Neq = of_both_known (λ x y. truth_cell (not (equal x y)))
two_results And = and_cells
two_results _ = or_cells

-- ABS, NEG and NOT on the stack
abbrev pub one_computed : Arithmetic → Abstract → Tested Abstract
one_computed op a = of_one_cell a (one_result op)

-- the others on the stack
abbrev pub two_computed : Arithmetic → Abstract → Tested Abstract
two_computed op a = of_two_cells a (two_results op)
