use Rattle.std.proofs.Common.{rules, pos, ap, ◌∙◌}
use Rattle.std.specs.Prelude.{FitsSigned}
use Rattle.std.specs.Int.{w32}
use Rattle.std.proofs.lemmas.Int.{to_z-of_z}
use Rattle.tt_symbolic_cells.proofs.Stacks.{depth_stands}
use Rattle.tt_symbolic_cells.proofs.stack_moves.push_depth.Goals as goal

pub returns-in_ok-push-in-Ok : goal.returns-in_ok-push-in-Ok
returns-in_ok-push-in-Ok c =
    let z : FitsSigned w32 c.in-Ok.depth = search rules in
    depth_stands c.args.ranges.now c.args.stack.now c.push.new.self c.known.result c.in_ok-push-in-Ok.ensures (λ v. simp to_z-of_z at (c.known.ensures v) ∙ c.in-Ok.ensures.1 ∙ ap pos c.len.ensures)
