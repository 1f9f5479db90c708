use Rattle.std.proofs.Common.{◌∙◌, inl, Option, IfSome, refl, subst, sym}
use Rattle.tt_find.specs.declared.finder.Found.{Found}
use Rattle.tt_setting.specs.Refusals.{unlimited_keeps}
use Rattle.tt_find.specs.FoundSubjects.{HasOnlyNeeded, TellsNoneIsGood}
use Rattle.tt_find.proofs.finder.find.Goals as goal

pub returns-in-Ok-clause-needed : goal.returns-in-Ok-clause-needed
returns-in-Ok-clause-needed c = subst (λ (o : Option Found). IfSome o (HasOnlyNeeded c.args.setting.now)) (sym c.into_found.ensures ∙ c.unwrap.ensures) (c.in-Ok.ensures.needed refl)

pub returns-in-Err-clause-none_good : goal.returns-in-Err-clause-none_good
returns-in-Err-clause-none_good c =
    rw c.without_budget.ensures.same (unlimited_keeps (TellsNoneIsGood c.args.setting.now) (inl tt) c.in-Err.fault c.in-Err.ensures.none_good)
