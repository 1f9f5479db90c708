use Rattle.std.proofs.Common.{drop, ap, ◌∷◌, ◌∙◌, List}
use Rattle.tt_symbolic_state.specs.declared.cell.Cell.{Cell}
use Rattle.tt_symbolic_cells.proofs.Stacks.{roll_stands}
use Rattle.tt_symbolic_cells.proofs.stack_moves.roll.Goals as goal

pub returns : goal.returns
returns c = roll_stands c.args.ranges.now c.args.stack.now c.push-3.new.self (drop 3 c.args.stack.now) c.in_ok-top.top c.in_ok-second.second c.in_ok-third.third c.in_ok-top.ensures c.in_ok-second.ensures c.in_ok-third.ensures (c.in_ok-push-3.ensures ∙ ap (λ (l : List Cell). c.in_ok-third.third ∷ l) (c.in_ok-push-2.ensures ∙ ap (λ (l : List Cell). c.in_ok-top.top ∷ l) (c.in_ok-push.ensures ∙ ap (λ (l : List Cell). c.in_ok-second.second ∷ l) c.cut.ensures)))
