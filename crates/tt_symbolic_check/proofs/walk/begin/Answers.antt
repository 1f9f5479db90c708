use Rattle.std.proofs.Common.{ap, arith, subst, sym, ◌∙◌, ◌≡◌, length, ℕ, Some}
use Rattle.std.proofs.lemmas.Option.{slice_get-get_or}
use Rattle.tt_symbolic_check.proofs.Walkings.{begin_more}
use Rattle.tt_symbolic_state.specs.declared.state.State.{State}
use Rattle.tt_symbolic_check.specs.Starts.{IsStartState}
use Rattle.tt_symbolic_check.specs.Walking.{Begins}
use Rattle.tt_symbolic_check.proofs.walk.begin.Goals as goal

pub loop-i-preserved : goal.loop-i-preserved
loop-i-preserved c = begin_more c.args.setting.now c.args.kept.now c.args.starts.now c.loop-i.i c.in_ok-state.state c.index-starts-i.result c.loop-i.walk c.put_pending.new.walk (slice_get-get_or c.args.starts.now c.loop-i.i c.index-starts-i.result c.loop-i-test.true ∙ ap Some (sym c.index-starts-i.is)) (subst (λ (y : State). IsStartState c.index-starts-i.result y) (sym c.in_ok-state.ensures.ok) c.in_ok-start.ensures.start) c.loop-i.invariant c.in_ok-put_pending.ensures

pub returns : goal.returns
returns c =
    let all : c.loop-i.i ≡ length c.args.starts.now = omega arith in
    subst (λ (n : ℕ). Begins c.args.setting.now c.args.kept.now n c.args.starts.now c.loop-i.walk) all c.loop-i.invariant
