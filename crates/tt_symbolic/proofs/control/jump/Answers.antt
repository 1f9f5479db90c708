use Rattle.std.proofs.Common.{rules}
use Rattle.std.specs.Prelude.{FitsSigned}
use Rattle.std.specs.Int.{w32}
use Rattle.std.proofs.lemmas.Int.{to_z-of_z}
use Rattle.tt_symbolic.proofs.AreaFacts.{fits_there}
use Rattle.tt_symbolic.proofs.Controls.{jump_leads}
use Rattle.tt_symbolic.proofs.control.jump.Goals as goal

pub returns : goal.returns
returns c =
    let z : FitsSigned w32 c.in_ok-by.by = search rules in
    jump_leads c.args.setting.now c.args.point.now c.args.state.now c.requires c.pop.new.state c.go_to.new.state c.in_ok-distance.distance c.in_ok-by.by c.in_ok-target.target c.in_ok-distance.ensures (λ v fits. c.in_ok-by.ensures v (fits_there _ _ v c.as_slice.ensures.value fits)) (c.is_within_depth.ensures (search rules)) (simp to_z-of_z at c.in_ok-target.ensures) c.go_to.ensures
