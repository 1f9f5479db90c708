use Rattle.std.proofs.Common.{arith, ◌<◌, ◌∙◌, ◌≡◌, ◌-◌, length, ap, reverse}
use Rattle.tt_setting.proofs.Reversed.{removed_is}
use Rattle.std.proofs.lemmas.List.{length-reverse}
use Rattle.tt_symbolic_state.proofs.stack.Stack.remove.Goals as goal

pub returns : goal.returns
returns c =
    let cells = c.self.inside.cells.items in
    let n : length (reverse cells) ≡ length cells = length-reverse cells in
    let m : length (reverse cells) ≡ length c.args.self.now = ap length c.self.view_is in
    let within : c.args.place < length cells = omega arith in
    ap reverse c.remove.ensures.items ∙ removed_is cells c.args.self.now (c.len-depth.result - 1 - c.args.place) c.args.place c.self.view_is within (omega arith)
