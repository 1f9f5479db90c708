use Rattle.std.proofs.Common.{◌≡◌, refl, sym, subst}
use Rattle.tt_family.specs.Checks.{IsGap, NamesAt}
use Rattle.tt_family.specs.Contents.{family_of, frames_at}
use Rattle.tt_family.specs.Landings.{place_from}
use Rattle.tt_family.specs.Puts.{place_of}
use Rattle.tt_family.specs.Fillings.{IsAfter}
use Rattle.tt_family.proofs.Checked.{elsewhere_gap, elsewhere_met, leads_elsewhere}
use Rattle.tt_family.proofs.meeting.check_successor.Goals as goal

pub returns-in-Ok : goal.returns-in-Ok
returns-in-Ok c =
    let v = c.args.certificate.now in
    let fs = frames_at v.contexts c.args.walk.now.context in
    let q = place_from v.contexts c.args.walk.now.context c.args.way in
    let p = place_of v c.in-Ok.context c.in-Ok.offset in
    let (there, frames, offset) = c.in-Ok.ensures.point in
    let same : p ≡ q = λ i. (frames i, offset i) in
    let none = leads_elsewhere fs c.args.way c.args.after c.in_default.not-To c.requires.forward in
    record {
      met = elsewhere_met (family_of v) (IsAfter fs c.args.after q) c.args.walk.now.next p q c.args.walk.now.made c.check_covered.result same c.check_covered.ensures.met;
      gap = elsewhere_gap (family_of v) (IsAfter fs c.args.after q) c.args.walk.now.next p q c.args.walk.now.made c.check_covered.result same none c.check_covered.ensures.gap;
      within = c.check_covered.ensures.within;
    }

pub returns-in-Err-clause-gap : goal.returns-in-Err-clause-gap
returns-in-Err-clause-gap c =
    let v = c.args.certificate.now in
    let fs = frames_at v.contexts c.args.walk.now.context in
    let q = place_from v.contexts c.args.walk.now.context c.args.way in
    let (none, fault) = c.in-Err.ensures.missing in
    subst (NamesAt q (IsGap (family_of v) (IsAfter fs c.args.after q) q c.args.walk.now.made)) (sym fault)
    (refl, refl, (none, leads_elsewhere fs c.args.way c.args.after c.in_default.not-To c.requires.forward))
