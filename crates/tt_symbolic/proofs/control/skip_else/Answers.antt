use Rattle.std.proofs.Common.{sym, ap, ◌∙◌, List}
use Rattle.tt_code.specs.Cut.{Instruction}
use Rattle.tt_code.specs.Structure.{after_else}
use Rattle.tt_symbolic.proofs.Controls.{else_leads}
use Rattle.tt_symbolic.proofs.control.skip_else.Goals as goal

pub returns : goal.returns
returns c = else_leads c.args.setting.now c.args.point.now c.args.state.now c.requires c.go_to.new.state c.in-Some.after (ap (λ (q : List Instruction). after_else q c.args.point.now.offset) (sym c.program.ensures) ∙ sym c.in-Some.ensures.value) c.go_to.ensures
