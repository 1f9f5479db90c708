use Rattle.tt_symbolic_state.proofs.Values.{value_symbol}
use Rattle.tt_symbolic_state.proofs.cell.symbol.Goals as goal

pub returns : goal.returns
returns c = λ v. value_symbol v c.args.symbol
