use Rattle.std.proofs.Common.{subst}
use Rattle.tt_setting.specs.Settings.{setting_of}
use Rattle.tt_family.specs.Contents.{Contents, family_of}
use Rattle.tt_family.specs.Ascending.{SameContents}
use Rattle.tt_find.proofs.Finished.{contexts_left, found_left, keeps_same, lists_same, none_good_from}
use Rattle.tt_find.proofs.finder.explore.Goals as goal

pub returns-in-Ok-outcome-clause-filling : goal.returns-in-Ok-outcome-clause-filling
returns-in-Ok-outcome-clause-filling c = λ _.
    let s = setting_of c.args.setting.now in
    let fs = c.args.setting.now.start.now in
    let laws = c.find_fixpoint-outcome.ensures.laws in
    let solver = c.find_fixpoint-outcome.new.solver in
    let found = c.in-Ok-outcome.ensures.found in
    let family = family_of c.in-Ok.certificate in
    let S : Contents → Type 0 = λ x. SameContents x c.in-Ok.certificate in
    let same = subst S c.replace-builder.ensures.value c.in-Ok.ensures.same in
    found_left s fs laws solver found.whole found.none family c.in-Ok-outcome.updates (keeps_same s fs laws solver found.whole found.none family same.family)
    (lists_same s fs laws solver found.whole found.none family same.family) found.short found.ends found.count

pub returns-in-Ok-outcome-clause-contexts : goal.returns-in-Ok-outcome-clause-contexts
returns-in-Ok-outcome-clause-contexts c = λ _.
    let found = c.in-Ok-outcome.ensures.found in
    let S : Contents → Type 0 = λ x. SameContents x c.in-Ok.certificate in
    let same = subst S c.replace-builder.ensures.value c.in-Ok.ensures.same in
    contexts_left (setting_of c.args.setting.now) c.args.setting.now.start.now c.find_fixpoint-outcome.ensures.laws c.find_fixpoint-outcome.new.solver found.whole found.none c.in-Ok.certificate.contexts
    (λ frames. (same.contexts frames).1)

pub returns-clause-none_good : goal.returns-clause-none_good
returns-clause-none_good c =
    none_good_from (setting_of c.args.setting.now) c.args.setting.now.start.now c.find_fixpoint-outcome.ensures.laws c.in-Err.fault c.in-Err.ensures.justified
