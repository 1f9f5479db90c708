use Rattle.std.proofs.Common.{rules, ◌≡◌, ◌∙◌, [], ap, false}
use Rattle.tt_code.specs.declared.reason.Reason.TheVariants.{NeverEnds, ProgramTooLong}
use Rattle.tt_setting.specs.declared.failed.Failed.TheVariants.{Only}
use Rattle.tt_setting.specs.Settings.{setting_of}
use Rattle.tt_setting.specs.declared.spot.Spot.TheVariants.{Main}
use Rattle.tt_family.proofs.Judged.{not_both}
use Rattle.tt_setting.specs.declared.refusal.Refusal.TheVariants.{Refused}
use Rattle.tt_find.specs.Found.{IsJustified, never_ends, too_long}
use Rattle.tt_find.proofs.Finished.{lacks_end}
use Rattle.tt_find.proofs.Steps.{names_at}
use Rattle.tt_find.proofs.finder.find_fixpoint.Goals as goal

pub returns-then-not-is_short-clause-justified : goal.returns-then-not-is_short-clause-justified
returns-then-not-is_short-clause-justified c =
    let s = setting_of c.args.setting.now in
    let f : c.is_short.result ≡ false = search rules in
    names_at (IsJustified s c.args.setting.now.start.now) ([], s.limits.program_size) (Only ProgramTooLong) c.in_main.result
    (c.in_main.ensures ∙ ap (λ n. Refused Main n (Only ProgramTooLong)) c.from-most.ensures)
    (too_long (λ h. not_both c.is_short.result f (c.is_short.ensures.1 h)))

pub returns-then-not-ends_well-clause-justified : goal.returns-then-not-ends_well-clause-justified
returns-then-not-ends_well-clause-justified c =
    let s = setting_of c.args.setting.now in
    let f : c.ends_well.result ≡ false = search rules in
    names_at (IsJustified s c.args.setting.now.start.now) ([], 0) (Only NeverEnds) c.in_main-then-not-ends_well.result c.in_main-then-not-ends_well.ensures
    (never_ends c.in_default.ensures.whole.filled
    (lacks_end s c.args.setting.now.start.now c.law_facts.ensures c.fill.new.solver c.in_default.ensures.whole c.in_default.ensures.none (λ h. not_both c.ends_well.result f (c.ends_well.ensures.1 h))))
