use Rattle.std.proofs.Common.{subst}
use Rattle.tt_setting.specs.Settings.{setting_of}
use Rattle.tt_family.specs.Contents.{Contents, family_of}
use Rattle.tt_family.specs.Ascending.{SameWithout}
use Rattle.tt_find.proofs.Finished.{contexts_left, found_left, keeps_without, left_out_of, listed_without, lists_without, needed_left, never_both_left, never_ends_from, none_good_from}
use Rattle.tt_find.proofs.finder.Finder.find.Goals as goal

pub returns-in-Err-clause-none_good : goal.returns-in-Err-clause-none_good
returns-in-Err-clause-none_good c =
    none_good_from (setting_of c.args.setting.now) c.args.setting.now.start.now c.find_fixpoint.ensures.laws c.in-Err.fault c.in-Err.ensures.justified

pub returns-in-Err-clause-never_ends : goal.returns-in-Err-clause-never_ends
returns-in-Err-clause-never_ends c = λ family lacks.
    (tt, never_ends_from (setting_of c.args.setting.now) c.args.setting.now.start.now c.find_fixpoint.ensures.laws family lacks c.in-Err.fault c.in-Err.ensures.justified)

pub returns-in-Ok-finish_without-clause-filling : goal.returns-in-Ok-finish_without-clause-filling
returns-in-Ok-finish_without-clause-filling c =
    let s = setting_of c.args.setting.now in
    let fs = c.args.setting.now.start.now in
    let laws = c.find_fixpoint.ensures.laws in
    let solver = c.find_fixpoint.new.solver in
    let found = c.in-Ok.ensures.found in
    let family = family_of c.in-Ok-finish_without.certificate in
    let left_out = c.take_left_out-left_out.result.keys in
    let W : Contents → Type 0 = λ x. SameWithout x c.in-Ok-finish_without.certificate left_out in
    let without = subst W c.replace-builder.ensures.value c.in-Ok-finish_without.ensures.same in
    let same = without.family in
    let fewer = left_out_of s fs laws solver found.whole found.none c.args.listed left_out c.take_left_out-left_out.ensures.kept c.take_left_out-left_out.ensures.needed in
    found_left s fs laws solver found.whole found.none family c.in-Ok.updates (keeps_without s fs laws solver found.whole found.none left_out family same)
    (lists_without s fs laws solver found.whole found.none left_out family same fewer) found.short found.ends found.count

pub returns-in-Ok-finish_without-clause-contexts : goal.returns-in-Ok-finish_without-clause-contexts
returns-in-Ok-finish_without-clause-contexts c =
    let W : Contents → Type 0 = λ x. SameWithout x c.in-Ok-finish_without.certificate c.take_left_out-left_out.result.keys in
    let without = subst W c.replace-builder.ensures.value c.in-Ok-finish_without.ensures.same in
    let found = c.in-Ok.ensures.found in
    contexts_left (setting_of c.args.setting.now) c.args.setting.now.start.now c.find_fixpoint.ensures.laws c.find_fixpoint.new.solver found.whole found.none c.in-Ok-finish_without.certificate.contexts
    (λ frames. (without.contexts frames).1)

pub returns-in-Ok-finish_without-clause-needed : goal.returns-in-Ok-finish_without-clause-needed
returns-in-Ok-finish_without-clause-needed c = λ needed.
    let s = setting_of c.args.setting.now in
    let fs = c.args.setting.now.start.now in
    let laws = c.find_fixpoint.ensures.laws in
    let solver = c.find_fixpoint.new.solver in
    let found = c.in-Ok.ensures.found in
    let family = family_of c.in-Ok-finish_without.certificate in
    let left_out = c.take_left_out-left_out.result.keys in
    let W : Contents → Type 0 = λ x. SameWithout x c.in-Ok-finish_without.certificate left_out in
    let without = subst W c.replace-builder.ensures.value c.in-Ok-finish_without.ensures.same in
    let same = without.family in
    let fewer = left_out_of s fs laws solver found.whole found.none c.args.listed left_out c.take_left_out-left_out.ensures.kept c.take_left_out-left_out.ensures.needed in
    needed_left s fs laws solver found.whole found.none family c.in-Ok.updates (keeps_without s fs laws solver found.whole found.none left_out family same)
    (lists_without s fs laws solver found.whole found.none left_out family same fewer) found.short found.ends (listed_without s fs laws solver found.whole found.none left_out family same (c.take_left_out-left_out.ensures.needed needed))

pub returns-in-Ok-finish_without-clause-never_ends : goal.returns-in-Ok-finish_without-clause-never_ends
returns-in-Ok-finish_without-clause-never_ends c = λ family lacks.
    let found = c.in-Ok.ensures.found in
    (never_both_left (setting_of c.args.setting.now) c.args.setting.now.start.now c.find_fixpoint.ensures.laws c.find_fixpoint.new.solver found.whole found.none family found.ends lacks, tt)
