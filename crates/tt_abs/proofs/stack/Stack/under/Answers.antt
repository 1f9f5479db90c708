use Rattle.std.proofs.Common.{◌≡◌, ◌-◌, ap, ◌∙◌, Some, length, sym, arith}
use Rattle.std.specs.Prelude.{reverse}
use Rattle.std.proofs.lemmas.List.{length-reverse, reverse-reverse}
use Rattle.tt_abs.specs.declared.cells.Cell.TheVariants.{Unknown}
use Rattle.tt_abs.specs.Stacks.{cell_at}
use Rattle.tt_abs.proofs.Firsts.{under_is}
use Rattle.tt_abs.proofs.stack.Stack.under.Goals as goal

pub returns-then-taken-depth-clause-cell : goal.returns-then-taken-depth-clause-cell
returns-then-taken-depth-clause-cell c =
    let stack = c.args.self.now in
    let turned : length (reverse stack) ≡ length stack = length-reverse stack in
    ap Some c.at.ensures
    ∙ ap (λ n. Some (cell_at (reverse stack) (n - 1 - c.args.taken))) (c.len-depth.ensures.value ∙ sym turned)
    ∙ under_is (reverse stack) stack c.args.taken Unknown (reverse-reverse stack) (omega arith)
