use Rattle.std.proofs.Common.{◌≡◌, ◌+◌, ap, arith, length, refl}
use Rattle.tt_setting.specs.Settings.{setting_of}
use Rattle.tt_abs.specs.StateFlow.{height_of}
use Rattle.tt_abs.specs.States.{state_laws, state_order}
use Rattle.tt_find.proofs.Budget.{measure_falls, updates_fit}
use Rattle.tt_find.proofs.Starting.{whole_start}
use Rattle.tt_find.proofs.Steps.{popped_left, stored_updates}
use Rattle.tt_find.specs.declared.approach.Approach.TheVariants.{Elsewhere}
use Rattle.tt_find.proofs.finder.run_to_fixpoint.Goals as goal

pub loop-context-init : goal.loop-context-init
loop-context-init c = record {
  whole = whole_start (setting_of c.args.setting.now) c.args.setting.now.start.now c.requires.laws c.args.solver.now c.store.new.solver c.in_ok-walk.walk.state c.in_ok-walk.ensures.state
      c.requires.empty c.in_default.ensures.stored;
  walk = c.in_default.ensures.walk;
  few =
      let more = stored_updates c.args.solver.now c.store.new.solver 0 0 c.in_ok-walk.walk.state Elsewhere c.in_default.ensures.stored in
      let changes = c.requires.empty.changes in
      let passes = c.requires.empty.passes in
      omega arith;
  spends = (refl, omega arith);
  alike = refl;
  everywhere = refl;
}

pub carry_on-requires-clause-popped : goal.carry_on-requires-clause-popped
carry_on-requires-clause-popped c =
    popped_left (setting_of c.args.setting.now) c.args.setting.now.start.now c.requires.laws c.loop-context.solver c.in-Some.context c.in-Some.offset c.pop_first.new.self
    c.loop-context.invariant.whole c.in-Some.ensures.some c.in-Some.ensures.apart

pub loop-context-smaller : goal.loop-context-smaller
loop-context-smaller c =
    let h = height_of (setting_of c.args.setting.now) in
    let whole = c.in_default-carry_on.ensures.whole in
    let fit = updates_fit state_order state_laws h c.carry_on.new.solver.builder c.carry_on.new.solver.changes whole.kept.family whole.budget in
    let one : length c.pop_first.new.self + 1 ≡ length c.loop-context.solver.worklist = let e = ap length c.in-Some.ensures.some in omega arith in
    measure_falls h c.loop-context.solver.changes c.carry_on.new.solver.changes _ _ _ fit one c.in_default-carry_on.ensures.risen.worklist c.in_default-carry_on.ensures.risen.changes
