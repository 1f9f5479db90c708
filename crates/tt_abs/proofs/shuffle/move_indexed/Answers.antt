use Rattle.std.proofs.Common.{◌∙◌, ap, ◌∷◌}
use Rattle.std.specs.Prelude.{remove}
use Rattle.tt_setting.specs.declared.failed.Role.TheVariants as role
use Rattle.tt_abs.proofs.StackSteps.{moves_index}
use Rattle.tt_abs.specs.Representation.Taken.{IsRole, TellsOfStackAs}
use Rattle.tt_abs.proofs.Told.{refused_told}
use Rattle.tt_abs.proofs.shuffle.move_indexed.Goals as goal

pub returns-clause-ok : goal.returns-clause-ok
returns-clause-ok c =
    let w = c.in_ok-above.ensures.ok in
    moves_index c.args.stack.now c.push.new.self w.1 w.0 c.in_ok-above.cell c.in_ok-above.above w.2 w.3 w.4
    (c.in_ok-push.ensures.ok ∙ ap (λ l. c.in_ok-above.cell ∷ l) (c.remove.ensures ∙ ap (λ l. remove l c.in_ok-above.above) c.cut.ensures))

pub returns-in_err-above-clause-told : goal.returns-in_err-above-clause-told
returns-in_err-above-clause-told c =
    refused_told c.from_residual.result c.in_err-above.field-0.0 (TellsOfStackAs (IsRole role.StackIndex 0) c.args.stack.now) c.in_err-above.ensures.told c.from_residual.ensures.1
