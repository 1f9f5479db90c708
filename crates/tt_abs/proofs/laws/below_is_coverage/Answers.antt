use Rattle.tt_abs.specs.Representation.EntryCoverage.{functions_below_is_coverage, storage_below_is_coverage}
use Rattle.tt_abs.proofs.CoverageLemmas.{CellBelow-coverage, ZoneBelow-coverage, StackBelow-coverage}
use Rattle.tt_abs.proofs.StateCoverage.{state_covers, state_from_coverage}
use Rattle.tt_abs.proofs.laws.below_is_coverage.Goals as goal

pub returns-clause-of_cells : goal.returns-clause-of_cells
returns-clause-of_cells c = λ a b r _. CellBelow-coverage a b r

pub returns-clause-of_zones : goal.returns-clause-of_zones
returns-clause-of_zones c = λ a b _ _. ZoneBelow-coverage a b

pub returns-clause-of_stacks : goal.returns-clause-of_stacks
returns-clause-of_stacks c = λ a b r _. StackBelow-coverage a b r

pub returns-clause-of_states : goal.returns-clause-of_states
returns-clause-of_states c = λ a b r _. (state_covers a b r, state_from_coverage a b r)

pub returns-clause-of_functions : goal.returns-clause-of_functions
returns-clause-of_functions c = λ a b _ _. functions_below_is_coverage a b

pub returns-clause-of_storage : goal.returns-clause-of_storage
returns-clause-of_storage c = λ a b r _. storage_below_is_coverage a b r
