use Rattle.std.proofs.Common.{subst, false, true}
use Rattle.std.specs.Box.{with_value}
use Rattle.tt_setting.specs.Settings.{setting_of}
use Rattle.tt_symbolic_state.specs.declared.state.State.{State}
use Rattle.tt_symbolic.specs.Kept.{StepsKeep}
use Rattle.tt_symbolic.specs.Steps.{StepsTo}
use Rattle.tt_symbolic_check.specs.Walking.{EndsAs, PutsEnd}
use Rattle.tt_symbolic_check.proofs.Walkings.{end_reaches, step_reaches}
use Rattle.tt_symbolic_check.proofs.walk.carry_on.Goals as goal

pub returns-then-is_at_end : goal.returns-then-is_at_end
returns-then-is_at_end g c = end_reaches c.args.setting.now c.args.kept.now c.args.state.value false c.args.walk.now c.put_end.new.walk
    (subst (λ (y : State). EndsAs c.args.setting.now y true) c.deref.ensures (subst (EndsAs c.args.setting.now c.deref.result.now) c.if-is_at_end.true c.is_at_end.ensures))
    (subst (λ (y : State). PutsEnd y c.args.walk.now c.put_end.new.walk) c.into_inner.ensures c.in_ok-put_end.ensures)

pub returns-in_ok-put_pending-in-Ok : goal.returns-in_ok-put_pending-in-Ok
returns-in_ok-put_pending-in-Ok g c = step_reaches c.args.setting.now c.args.kept.now c.args.state.value (with_value c.args.state c.step_keeping.new.state) c.args.walk.now c.put_pending.new.walk
    (subst (λ (y : State). EndsAs c.args.setting.now y false) c.deref.ensures (subst (EndsAs c.args.setting.now c.deref.result.now) c.if-is_at_end.false c.is_at_end.ensures))
    (subst (λ (y : State). StepsTo c.args.setting.now y c.step_keeping.new.state) c.deref_mut.ensures.value c.in-Ok.ensures.steps)
    (subst (λ (y : State). StepsKeep (setting_of c.args.setting.now) c.args.kept.now y) c.deref_mut.ensures.value c.in-Ok.ensures.keeps)
    c.in_ok-put_pending-in-Ok.ensures
