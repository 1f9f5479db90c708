use Rattle.std.proofs.Common.{drop, subst, ap, ◌∷◌, ◌∙◌, List, ◌+◌, ◌≡◌}
use Rattle.std.specs.Prelude.{remove}
use Rattle.tt_symbolic_state.specs.declared.cell.Cell.{Cell}
use Rattle.tt_symbolic_cells.proofs.Stacks.{move_stands}
use Rattle.tt_symbolic_cells.proofs.stack_moves.move_indexed.Goals as goal

pub returns : goal.returns
returns c =
    let w = c.in_ok-above.ensures in
    move_stands c.args.ranges.now c.args.stack.now (drop 1 c.args.stack.now) w.0 c.in_ok-cell.cell c.in_ok-above.above w.1 w.2 (subst (λ (l : List Cell). drop c.in_ok-above.above l ≡ c.in_ok-cell.cell ∷ drop (c.in_ok-above.above + 1) l) c.cut.ensures c.in_ok-cell.ensures) c.push.new.self (c.in_ok-push.ensures ∙ ap (λ (l : List Cell). c.in_ok-cell.cell ∷ l) (c.remove.ensures ∙ ap (λ (l : List Cell). remove l c.in_ok-above.above) c.cut.ensures))
