use Rattle.std.proofs.Common.{drop, ap, ◌∷◌, ◌∙◌, List}
use Rattle.tt_symbolic_state.specs.declared.cell.Cell.{Cell}
use Rattle.tt_symbolic_cells.proofs.Stacks.{swap_stands}
use Rattle.tt_symbolic_cells.proofs.stack_moves.swap.Goals as goal

pub returns : goal.returns
returns c = swap_stands c.args.ranges.now c.args.stack.now c.push-2.new.self (drop 2 c.args.stack.now) c.in_ok-top.top c.in_ok-second.second c.in_ok-top.ensures c.in_ok-second.ensures (c.in_ok-push-2.ensures ∙ ap (λ (l : List Cell). c.in_ok-second.second ∷ l) (c.in_ok-push.ensures ∙ ap (λ (l : List Cell). c.in_ok-top.top ∷ l) c.cut.ensures))
