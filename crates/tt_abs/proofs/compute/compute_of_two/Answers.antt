use Rattle.tt_abs.specs.Representation.Taken.{IsNoRole, TellsOfStack}
use Rattle.tt_abs.proofs.Told.{refused_told, too_few_told}
use Rattle.tt_abs.proofs.compute.compute_of_two.Goals as goal

pub returns-in_err-top-clause-told : goal.returns-in_err-top-clause-told
returns-in_err-top-clause-told c =
    refused_told c.from_residual.result c.in_err-top.field-0.0 (TellsOfStack c.args.stack.now) (too_few_told IsNoRole c.args.stack.now c.in_err-top.field-0.0 c.in_err-top.ensures.told) c.from_residual.ensures.1

pub returns-in_err-second-clause-told : goal.returns-in_err-second-clause-told
returns-in_err-second-clause-told c =
    refused_told c.from_residual-in_err-second.result c.in_err-second.field-0.0 (TellsOfStack c.args.stack.now) (too_few_told IsNoRole c.args.stack.now c.in_err-second.field-0.0 c.in_err-second.ensures.told) c.from_residual-in_err-second.ensures.1
