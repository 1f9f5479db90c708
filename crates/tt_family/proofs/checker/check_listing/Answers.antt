use Rattle.std.proofs.lemmas.Result.{IfErr-weaker, IfOk-weaker}
use Rattle.tt_family.proofs.Judged.{listing_broken, listing_exhausted, listing_good, listing_safe}
use Rattle.tt_family.proofs.checker.check_listing.Goals as goal

pub returns-clause-good : goal.returns-clause-good
returns-clause-good c =
    IfOk-weaker c.check_listed.result _ _ (λ x. listing_good c.args.setting.now c.args.certificate.now c.order_facts.ensures.0 c.args.listing) c.check_listed.ensures.sound

pub returns-clause-safe : goal.returns-clause-safe
returns-clause-safe c =
    IfOk-weaker c.check_listed.result _ _
    (λ x. listing_safe c.args.setting.now c.args.certificate.now c.order_facts.ensures.0 c.range_facts.ensures.range c.range_facts.ensures.short c.requires.ascends c.args.listing)
    c.check_listed.ensures.sound

pub returns-clause-exact : goal.returns-clause-exact
returns-clause-exact c = λ good.
    IfErr-weaker c.check_listed.result _ _ (λ fault h. listing_exhausted c.args.setting.now c.args.certificate.now c.order_facts.ensures.0 c.args.listing good fault h)
    c.check_listed.ensures.first

pub returns-clause-first : goal.returns-clause-first
returns-clause-first c =
    IfErr-weaker c.check_listed.result _ _ (listing_broken c.args.setting.now c.args.certificate.now c.order_facts.ensures.0 c.args.listing) c.check_listed.ensures.first
