use Rattle.std.proofs.Common.{rules}
use Rattle.std.specs.Prelude.{FitsSigned}
use Rattle.std.specs.Int.{w32}
use Rattle.std.proofs.lemmas.Int.{to_z-of_z}
use Rattle.tt_abs.proofs.StackSteps.{index_missed, index_told}
use Rattle.std.proofs.Common.{drop}
use Rattle.tt_abs.specs.Representation.Taken.{IsRole, TellsOfStackAs}
use Rattle.tt_abs.proofs.Fronts.{told_by}
use Rattle.tt_setting.specs.declared.failed.Role.TheVariants as role
use Rattle.tt_abs.proofs.Told.{low_told, too_few_told, unknown_told}
use Rattle.tt_abs.proofs.shuffle.indexed.Goals as goal

pub returns-in-Err-clause-refused : goal.returns-in-Err-clause-refused
returns-in-Err-clause-refused c =
    let fits : FitsSigned w32 c.in_ok-index.index = search rules in
    index_missed c.args.stack.now c.in_ok-top.top c.in_ok-index.index c.in_ok-above.above c.in_ok-top.ensures.ok c.in_ok-index.ensures.ok (simp to_z-of_z at c.in_ok-above.ensures.ok) c.in-Err.ensures.refused

pub returns-in-Err-clause-told : goal.returns-in-Err-clause-told
returns-in-Err-clause-told c = λ s fs at a left.
    let fits : FitsSigned w32 c.in_ok-index.index = search rules in
    simp to_z-of_z (index_told c.args.stack.now c.in_ok-top.top c.in_ok-index.index c.in_ok-above.above c.in_ok-top.ensures.ok c.in_ok-index.ensures.ok (simp to_z-of_z at c.in_ok-above.ensures.ok) c.in-Err.ensures.refused)

pub returns-in_err-top-clause-told : goal.returns-in_err-top-clause-told
returns-in_err-top-clause-told c =
    told_by c.from_residual.result c.in_err-top.field-0.0 (TellsOfStackAs (IsRole role.StackIndex 0) c.args.stack.now) (too_few_told (IsRole role.StackIndex 0) c.args.stack.now c.in_err-top.field-0.0 c.in_err-top.ensures.told) c.from_residual.ensures.1

pub returns-in_err-index-clause-told : goal.returns-in_err-index-clause-told
returns-in_err-index-clause-told c =
    told_by c.from_residual-in_err-index.result c.in_err-index.field-0.0 (TellsOfStackAs (IsRole role.StackIndex 0) c.args.stack.now)
    (unknown_told c.args.stack.now (drop 1 c.args.stack.now) c.in_ok-top.top role.StackIndex 0 c.in_err-index.field-0.0 c.in_ok-top.ensures.ok c.in_err-index.ensures.unknown c.in_err-index.ensures.told)
    c.from_residual-in_err-index.ensures.1

pub returns-in_err-above-clause-told : goal.returns-in_err-above-clause-told
returns-in_err-above-clause-told c =
    let fits : FitsSigned w32 c.in_ok-index.index = search rules in
    told_by c.from_residual-in_err-above.result c.in_err-above.field-0.0 (TellsOfStackAs (IsRole role.StackIndex 0) c.args.stack.now)
    (low_told (IsRole role.StackIndex 0) c.args.stack.now (drop 1 c.args.stack.now) c.in_ok-top.top c.in_ok-index.index c.in_err-above.field-0.0 c.in_ok-top.ensures.ok c.in_ok-index.ensures.ok (simp to_z-of_z at c.in_err-above.ensures.refused) (simp to_z-of_z at c.in_err-above.ensures.told))
    c.from_residual-in_err-above.ensures.1
