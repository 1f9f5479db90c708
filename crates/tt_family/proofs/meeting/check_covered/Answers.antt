use Rattle.std.proofs.Common.{◌∙◌}
use Rattle.tt_family.specs.Puts.{family_at}
use Rattle.tt_family.proofs.Landings.{coming_covered, coming_next}
use Rattle.tt_family.proofs.meeting.check_covered.Goals as goal

pub returns-then-is_coming-clause-met : goal.returns-then-is_coming-clause-met
returns-then-is_coming-clause-met c =
    let coming = c.is_coming.ensures.0 c.if-is_coming.true in (
      coming_covered c.args.certificate.now c.args.next c.args.context c.args.offset c.args.state.now c.order_facts.ensures.0 c.requires.there c.requires.next coming,
      coming_next c.args.next c.args.context c.args.offset c.args.state.now coming,
    )

pub returns-then-is_coming_after-clause-met : goal.returns-then-is_coming_after-clause-met
returns-then-is_coming_after-clause-met c = (
  family_at c.args.certificate.now c.args.context c.args.offset c.order_facts.ensures.0 c.requires.there
      ∙ c.requires.unlisted c.if-may_be_left_out.true (c.is_coming_after.ensures.0 c.if-is_coming_after.true),
  c.if-may_be_left_out.true,
)
