use Rattle.std.proofs.Common.{rules}
use Rattle.std.specs.Prelude.{FitsSigned}
use Rattle.std.specs.Int.{w32}
use Rattle.std.proofs.lemmas.Int.{to_z-of_z}
use Rattle.tt_symbolic.proofs.AreaFacts.{fits_there}
use Rattle.tt_symbolic.proofs.Controls.{beq_true, beq_false, jumps, passes}
use Rattle.tt_symbolic.proofs.control.jump_if.Goals as goal

pub returns-in_ok-target-in-Some : goal.returns-in_ok-target-in-Some
returns-in_ok-target-in-Some c =
    let z : FitsSigned w32 c.in_ok-by-in-Some.by = search rules in
    jumps c.args.setting.now c.args.point.now c.args.state.now c.requires c.args.asked c.pop.new.state c.pop-2.new.state c.in_ok-condition.condition c.in_ok-distance.distance c.in_ok-condition.ensures c.in_ok-distance.ensures c.go_to.new.state c.in-Some.holds c.in_ok-by-in-Some.by c.in_ok-target-in-Some.target
    (λ v fits. c.in-Some.ensures v (fits_there _ _ v c.as_slice.ensures.value fits)) (beq_true c.in-Some.holds c.args.asked c.if-holds-asked.true) (λ v fits. c.in_ok-by-in-Some.ensures v (fits_there _ _ v c.as_slice-then-holds-asked.ensures.value fits)) (c.is_within_depth.ensures (search rules)) (simp to_z-of_z at c.in_ok-target-in-Some.ensures) c.go_to.ensures

pub returns-in_ok-next-in-Some : goal.returns-in_ok-next-in-Some
returns-in_ok-next-in-Some c = passes c.args.setting.now c.args.point.now c.args.state.now c.requires c.args.asked c.pop.new.state c.pop-2.new.state c.in_ok-condition.condition c.in_ok-distance.distance c.in_ok-condition.ensures c.in_ok-distance.ensures c.go_to-else-holds-asked.new.state c.in-Some.holds c.in_ok-next-in-Some.next
    (λ v fits. c.in-Some.ensures v (fits_there _ _ v c.as_slice.ensures.value fits)) (beq_false c.in-Some.holds c.args.asked c.if-holds-asked.false) c.in_ok-next-in-Some.ensures c.go_to-else-holds-asked.ensures
