use Rattle.std.proofs.Common.{rules}
use Rattle.std.specs.Prelude.{FitsSigned}
use Rattle.std.specs.Int.{w32}
use Rattle.tt_symbolic_state.proofs.Values.{zero_bits}
use Rattle.tt_symbolic_state.proofs.Freeness.{free_constant, free_other}
use Rattle.std.proofs.lemmas.Bool.{eqb-false}
use Rattle.tt_symbolic_state.proofs.state.mentions.Goals as goal

pub returns-then-cell-ne0 : goal.returns-then-cell-ne0
returns-then-cell-ne0 c = λ e. free_other c.args.number c.args.cell (eqb-false c.args.cell.symbol c.args.number e)

pub returns-else-cell-ne0 : goal.returns-else-cell-ne0
returns-else-cell-ne0 c = λ e.
    let f : FitsSigned w32 c.args.cell.factor = search rules in
    free_constant c.args.number c.args.cell (zero_bits c.args.cell.factor f c.if-cell-ne0.false)
