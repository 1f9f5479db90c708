use Rattle.std.proofs.Common.{arith, ◌∙◌, ◌≡◌, length, ap, reverse}
use Rattle.tt_symbolic_state.proofs.Reverses.{cut_is}
use Rattle.tt_symbolic_state.proofs.stack.Stack.cut.Goals as goal

pub returns : goal.returns
returns c =
    let cells = c.self.inside.cells.items in
    let n : c.len-depth.result ≡ length cells = omega arith in
    ap reverse c.truncate.ensures.items ∙ cut_is cells c.args.self.now c.args.count c.saturating_sub.result c.self.view_is (omega arith)
