use Rattle.std.proofs.Common.{arith, ◌≡◌, ◌∙◌, ap, subst}
use Rattle.tt_code.specs.declared.reason.Reason.TheVariants.{MissingPoint}
use Rattle.tt_family.specs.Checks.{saturated_offset}
use Rattle.tt_family.specs.Contents.{Contents, frames_at}
use Rattle.tt_family.specs.Landings.{IsLanding, place_from}
use Rattle.tt_setting.specs.declared.failed.Failed.TheVariants.{Only}
use Rattle.tt_setting.specs.Spots.{spot_of}
use Rattle.tt_setting.specs.declared.refusal.Refusal.TheVariants.{Refused}
use Rattle.tt_family.specs.declared.landing.Landing.TheVariants.{Beyond}
use Rattle.tt_family.proofs.Landings.{no_state_above}
use Rattle.tt_family.proofs.landing.look_up_successor.Goals as goal

pub returns-in-Beyond-clause-missing : goal.returns-in-Beyond-clause-missing
returns-in-Beyond-clause-missing c =
    let v = c.args.certificate.now in
    let q = place_from v.contexts c.args.context c.args.way in
    let L : Contents → Type 0 = λ x. IsLanding x.contexts c.args.context (place_from x.contexts c.args.context c.args.way) (Beyond c.in-Beyond.context) in
    let (before, frames, above, last) = subst L c.builder-builder.ensures c.in-Beyond.ensures in
    let spot : c.spot.result ≡ spot_of q.0 =
    c.spot.ensures ∙ ap (λ (x : Contents). spot_of (frames_at x.contexts c.in-Beyond.context)) c.builder-builder.ensures ∙ ap spot_of frames in
    let offset : 4294967295 ≡ saturated_offset q.1 = omega arith in (
      no_state_above v q c.in-Beyond.context c.args.context c.order_facts.ensures.0 c.requires.there c.requires.fit before frames above,
      c.missing-in-Beyond.ensures ∙ (λ i. Refused (spot i) (offset i) (Only MissingPoint)),
    )
