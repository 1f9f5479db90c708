use Rattle.std.proofs.Common.{refl, drop, rules}
use Rattle.std.specs.Prelude.{FitsSigned}
use Rattle.std.specs.Int.{w32}
use Rattle.std.proofs.lemmas.Int.{to_z-of_z}
use Rattle.tt_abs.specs.declared.cells.Cell.TheVariants.{Known}
use Rattle.tt_abs.proofs.Fronts.{first_is}
use Rattle.tt_abs.proofs.operands.next_number.Goals as goal

pub returns-in_ok-z-in-Some-clause-ok : goal.returns-in_ok-z-in-Some-clause-ok
returns-in_ok-z-in-Some-clause-ok c =
    let fits : FitsSigned w32 c.in_ok-z-in-Some.z = search rules in
    let found = first_is (drop c.args.taken c.args.stack.now) c.in-Some.cell (Known c.in_ok-z-in-Some.z) c.in-Some.ensures.cell c.in_ok-z-in-Some.ensures.ok in
    (found.0, simp to_z-of_z found.1, refl)
