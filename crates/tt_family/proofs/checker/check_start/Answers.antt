use Rattle.std.proofs.Common.{List, subst, false}
use Rattle.std.specs.Prelude.{IsTrue}
use Rattle.tt_code.specs.declared.machine.Frame.{Frame}
use Rattle.tt_family.specs.Checks.{IsGap, NamesAt}
use Rattle.tt_family.specs.Contents.{family_of}
use Rattle.tt_family.specs.Puts.{place_of}
use Rattle.tt_family.proofs.Checked.{named_gap_same}
use Rattle.tt_family.proofs.checker.check_start.Goals as goal

pub returns-in-Err-clause-gap : goal.returns-in-Err-clause-gap
returns-in-Err-clause-gap c =
    let P : List Frame → Type 0 = λ fs. NamesAt (fs, 0) (IsGap (family_of c.args.certificate.now) ⊥ (fs, 0) c.args.walk.now.made) c.in-Err.fault in
    subst P c.order_facts.ensures.0.main
    (named_gap_same (family_of c.args.certificate.now) (IsTrue false) ⊥ (place_of c.args.certificate.now 0 0) c.args.walk.now.made (λ h. absurd h) c.in-Err.fault c.in-Err.ensures.gap)
