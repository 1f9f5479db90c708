use Rattle.std.proofs.Common.{sym, ap, ◌∙◌, List}
use Rattle.tt_code.specs.Cut.{Instruction}
use Rattle.tt_code.specs.Structure.{after_if}
use Rattle.tt_symbolic.proofs.AreaFacts.{fits_there}
use Rattle.tt_symbolic.proofs.Controls.{if_true, if_false}
use Rattle.tt_symbolic.proofs.control.branch.Goals as goal

pub returns-then-holds : goal.returns-then-holds
returns-then-holds c = if_true c.args.setting.now c.args.point.now c.args.state.now c.requires c.pop.new.state c.go_to.new.state c.in_ok-condition.condition c.in_ok-next.next c.in_ok-condition.ensures (λ v fits. c.in-Some.ensures v (fits_there _ _ v c.as_slice.ensures.value fits) ∙ c.if-holds.true) c.in_ok-next.ensures c.go_to.ensures

pub returns : goal.returns
returns c = if_false c.args.setting.now c.args.point.now c.args.state.now c.requires c.pop.new.state c.go_to-2.new.state c.in_ok-condition.condition c.in-Some-after_if.after c.in_ok-condition.ensures (λ v fits. c.in-Some.ensures v (fits_there _ _ v c.as_slice.ensures.value fits) ∙ c.if-holds.false)
    (ap (λ (q : List Instruction). after_if q c.args.point.now.offset) (sym c.program.ensures) ∙ sym c.in-Some-after_if.ensures.value) c.go_to-2.ensures
