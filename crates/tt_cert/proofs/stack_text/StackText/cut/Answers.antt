use Rattle.std.proofs.Common.{◌≤◌, arith, length}
use Rattle.tt_cert.proofs.KeptTexts.{front_kept, whole_kept}
use Rattle.tt_cert.proofs.stack_text.StackText.cut.Goals as goal

pub returns-then-count-len : goal.returns-then-count-len
returns-then-count-len c cells of =
    let less : c.args.count ≤ length cells = omega (arith, c.args.self.now.ends.ok.0, c.len.ensures, c.if-count-len.true, of.long) in
    front_kept _ _ _ _ cells c.args.count of less (rw c.width-width.ensures at c.truncate.ensures.items) c.truncate-then-count-len.ensures.items

pub returns-else-count-len : goal.returns-else-count-len
returns-else-count-len c cells of =
    whole_kept _ _ cells c.args.count of (omega (arith, c.args.self.now.ends.ok.0, c.len.ensures, c.if-count-len.false))
