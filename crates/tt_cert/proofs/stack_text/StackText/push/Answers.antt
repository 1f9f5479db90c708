use Rattle.std.proofs.Common.{◌∙◌}
use Rattle.tt_cert.proofs.KeptTexts.{kept_more}
use Rattle.tt_cert.proofs.stack_text.StackText.push.Goals as goal

pub returns : goal.returns
returns c = λ cells of.
    kept_more _ _ c.push_cell.new.out.items c.push.new.self.items _ cells c.args.cell of c.in_ok-push_cell.ensures
    c.in_ok-push.ensures.items (c.len.ensures ∙ c.push_cell.new.out.ok.0)
