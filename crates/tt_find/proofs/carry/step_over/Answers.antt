use Rattle.std.proofs.Common.{[], refl, subst}
use Rattle.tt_setting.specs.Settings.{setting_of}
use Rattle.tt_family.specs.Contents.{family_of}
use Rattle.tt_family.specs.Puts.{place_of}
use Rattle.tt_setting.specs.declared.spot.Spot.{Spot}
use Rattle.tt_find.specs.Found.{IsJustified}
use Rattle.tt_find.specs.Representation.Solvers.{IsApart, IsPassed}
use Rattle.tt_find.specs.declared.approach.Approach.TheVariants.{JustBefore}
use Rattle.tt_find.proofs.Leads.{comes_before, ranged_to, whole_put}
use Rattle.tt_find.proofs.Steps.{apart_left, leading_passed, passed_updates, stop_map, stored_updates}
use Rattle.tt_find.proofs.carry.step_over.Goals as goal

pub returns-then-may_pass-clause-goes : goal.returns-then-may_pass-clause-goes
returns-then-may_pass-clause-goes c =
    let s = setting_of c.args.setting.now in
    let context = c.args.walk.now.context in
    let p = place_of c.args.solver.now.builder context c.args.offset in
    let P : Spot → Type 0 = λ x. IsPassed c.args.solver.now c.pass.new.self x c.args.next in
    leading_passed s c.args.setting.now.start.now c.requires.laws c.args.solver.now c.pass.new.self p context c.args.next c.args.walk.now.state c.requires.leading c.requires.walk.there
    (subst P c.requires.walk.spot c.in_default.ensures) c.requires.just

pub returns-then-may_pass-clause-further : goal.returns-then-may_pass-clause-further
returns-then-may_pass-clause-further c = c.requires.just.ends.forward

pub store-requires-clause-in_range : goal.store-requires-clause-in_range
store-requires-clause-in_range c =
    let p = place_of c.args.solver.now.builder c.args.walk.now.context c.args.offset in
    let q = place_of c.args.solver.now.builder c.args.walk.now.context c.args.next in
    ranged_to (setting_of c.args.setting.now) c.args.setting.now.start.now c.requires.laws c.args.solver.now p q c.args.walk.now.state [] c.requires.leading

pub returns-in-Err-store-clause-stops : goal.returns-in-Err-store-clause-stops
returns-in-Err-store-clause-stops c =
    let s = setting_of c.args.setting.now in
    let fs = c.args.setting.now.start.now in
    let solver = c.args.solver.now in
    let p = place_of solver.builder c.args.walk.now.context c.args.offset in
    let q = place_of solver.builder c.args.walk.now.context c.args.next in
    stop_map (IsApart (family_of solver.builder) q c.args.walk.now.state) (IsJustified s fs) solver.marks.everywhere solver.marks.everywhere refl
    (apart_left s fs c.requires.laws solver p q c.args.walk.now.state [] c.requires.leading) c.in-Err-store.stop c.in-Err-store.ensures.stops

pub returns-clause-goes : goal.returns-clause-goes
returns-clause-goes c =
    let s = setting_of c.args.setting.now in
    let solver = c.args.solver.now in
    let context = c.args.walk.now.context in
    let p = place_of solver.builder context c.args.offset in
    let q = place_of solver.builder context c.args.next in
    whole_put s c.args.setting.now.start.now c.requires.laws solver c.store.new.solver p context c.args.next c.args.walk.now.state JustBefore c.requires.leading c.requires.walk.there
    c.in_default-store.ensures.stored (comes_before s p q c.requires.just)

pub returns-then-may_pass-clause-few : goal.returns-then-may_pass-clause-few
returns-then-may_pass-clause-few c = passed_updates c.args.solver.now c.pass.new.self c.args.walk.now.spot c.args.next c.in_default.ensures

pub returns-clause-few : goal.returns-clause-few
returns-clause-few c =
    stored_updates c.args.solver.now c.store.new.solver c.args.walk.now.context c.args.next c.args.walk.now.state JustBefore c.in_default-store.ensures.stored
