use Rattle.std.proofs.Common.{ℕ, sym, subst}
use Rattle.std.specs.Prelude.{Option}
use Rattle.tt_setting.specs.Settings.{setting_of}
use Rattle.tt_abs.specs.declared.instruction.Stepped.{Stepped}
use Rattle.tt_family.specs.Contents.{frames_at}
use Rattle.tt_family.specs.Puts.{place_of}
use Rattle.tt_find.specs.Representation.Solvers.{IsCarried, IsLeading, places_from}
use Rattle.tt_find.proofs.Leads.{ranged_on}
use Rattle.tt_find.proofs.Steps.{refused_left, way_ends, way_leads}
use Rattle.tt_find.proofs.carry.step_point.Goals as goal

pub step_state-requires-clause-in_range : goal.step_state-requires-clause-in_range
step_state-requires-clause-in_range c =
    ranged_on (setting_of c.args.setting.now) c.args.setting.now.start.now c.requires.laws c.args.solver.now (place_of c.args.solver.now.builder c.args.walk.now.context c.args.offset) c.args.walk.now.state
    c.requires.way

pub returns-in-Ok-None-clause-goes : goal.returns-in-Ok-None-clause-goes
returns-in-Ok-None-clause-goes c =
    let s = setting_of c.args.setting.now in
    let p = place_of c.args.solver.now.builder c.args.walk.now.context c.args.offset in
    let C : Option Stepped → Type 0 = λ x. IsCarried s p c.args.walk.now.state x c.step_state.new.walk.state in
    way_ends s c.args.setting.now.start.now c.requires.laws c.args.solver.now p c.args.walk.now.state c.requires.way (subst C c.in-Ok-None.field-0-is c.in-Ok-None.ensures.stepped)

pub returns-in-Err-clause-stops : goal.returns-in-Err-clause-stops
returns-in-Err-clause-stops c =
    let p = place_of c.args.solver.now.builder c.args.walk.now.context c.args.offset in
    refused_left (setting_of c.args.setting.now) c.args.setting.now.start.now c.requires.laws p c.args.walk.now.state
    (c.requires.way.sound.kept.sound.derived p c.args.walk.now.state c.requires.way.here) c.in-Err.fault c.in-Err.ensures.refused

pub store_successors-requires-clause-leading : goal.store_successors-requires-clause-leading
store_successors-requires-clause-leading c =
    let s = setting_of c.args.setting.now in
    let fs = c.args.setting.now.start.now in
    let solver = c.args.solver.now in
    let p = place_of solver.builder c.args.walk.now.context c.args.offset in
    let t = c.step_state.new.walk.state in
    let C : Option Stepped → Type 0 = λ x. IsCarried s p c.args.walk.now.state x t in
    let on = subst C c.in-Ok-Some.field-0-is c.in-Ok-Some.ensures.stepped in
    let L : ℕ → Type 0 = λ x. IsLeading s fs solver (place_of solver.builder x c.args.offset) (places_from (frames_at solver.builder.contexts x) c.in-Ok-Some.step.moves 0) t in
    subst L (sym c.in-Ok-Some.ensures.context) (way_leads s fs c.requires.laws solver p c.args.walk.now.state c.in-Ok-Some.step.moves c.in-Ok-Some.step.end t c.requires.way on)
