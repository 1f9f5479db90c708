use Rattle.std.proofs.Common.{◌∙◌, sym, ap}
use Rattle.tt_font.specs.Representation.OutlineSizes.{size_at, size_refuses}
use Rattle.tt_font.proofs.FirstBelow.{none_yet, none_more, first_is}
use Rattle.tt_font.proofs.iteration.first_refused.Goals as goal

pub loop-id-init : goal.loop-id-init
loop-id-init c = none_yet _

pub returns-then-refuses : goal.returns-then-refuses
returns-then-refuses c =
    sym (first_is (λ id. size_refuses (size_at c.args.sizes.now id)) c.loop-id.id c.args.count c.loop-id.invariant
    (sym (ap size_refuses c.of.ensures) ∙ sym c.refuses.ensures ∙ c.if-refuses.true) c.loop-id-test.true)

pub loop-id-preserved : goal.loop-id-preserved
loop-id-preserved c =
    none_more (λ id. size_refuses (size_at c.args.sizes.now id)) c.loop-id.id c.loop-id.invariant
    (sym (ap size_refuses c.of.ensures) ∙ sym c.refuses.ensures ∙ c.if-refuses.false)
