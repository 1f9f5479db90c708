use Rattle.tt_abs.proofs.Goodness.{refused_anywhere, stands_anywhere}
use Rattle.tt_abs.proofs.laws.outcome_on_cells_is_exact.Goals as goal

pub returns-clause-stands : goal.returns-clause-stands
returns-clause-stands c = stands_anywhere

pub returns-clause-refused : goal.returns-clause-refused
returns-clause-refused c = refused_anywhere
