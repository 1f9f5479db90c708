use Rattle.std.proofs.Common.{◌≢◌, refl, subst}
use Rattle.tt_family.specs.Contents.{family_of}
use Rattle.tt_family.specs.Puts.{place_of}
use Rattle.tt_setting.specs.declared.spot.Spot.{Spot}
use Rattle.tt_find.specs.Representation.OffsetMarks.{SetsMark, mark_of}
use Rattle.tt_find.specs.declared.marks.Mark.TheVariants.{Kept, Passed}
use Rattle.tt_find.specs.declared.solver.Solver.{Solver}
use Rattle.tt_find.proofs.Steps.{stored_from}
use Rattle.tt_find.proofs.carry.store.Goals as goal

pub returns-clause-stored : goal.returns-clause-stored
returns-clause-stored c =
    let old = c.args.solver.now in
    let middle : Solver = record old { marks = c.keep.new.self } in
    let F : Spot → Type 0 = λ x. mark_of old.marks x c.args.offset ≢ Passed in
    let S : Spot → Type 0 = λ x. SetsMark old.marks c.keep.new.self x c.args.offset Kept in
    stored_from old middle c.put.new.solver c.note.new.self c.args.context c.args.offset c.args.walk.now.state c.args.source c.keep.new.self refl c.in-Ok.ensures.put c.in-Ok.ensures.rest
    (subst F c.spot-spot.ensures (c.keep.ensures.was c.if-not-keep.false)) (subst S c.spot-spot.ensures (c.keep.ensures.kept c.if-not-keep.false))
    (c.in_default.ensures.spare (family_of old.builder (place_of old.builder c.args.context c.args.offset)) c.in-Ok.ensures.tells) c.in_default.ensures.rest
