use Rattle.std.proofs.Common.{refl, pos, ◌∙◌, arith}
use Rattle.std.proofs.lemmas.Int.{ints}
use Rattle.std.specs.Int.{w32}
use mir.Val.{to_z, of_z}
use Rattle.tt_symbolic_state.proofs.Values.{value_constant}
use Rattle.tt_symbolic_state.proofs.cell.known.Goals as goal

pub returns : goal.returns
returns c = λ v. value_constant v (record { symbol = 0; factor = pos 0; offset = to_z w32 (of_z w32 c.args.number) }) refl ∙ omega (arith, ints)
