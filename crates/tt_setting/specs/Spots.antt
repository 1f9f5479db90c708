-- In which program a place is.
use Rattle.std.specs.Prelude.{ℕ, nat_lt, if◌then◌else◌, List, [], ◌∷◌}
use Rattle.tt_code.specs.Settings.{CVT_BODIES}
use Rattle.tt_code.specs.declared.machine.Frame.{Frame}
use Rattle.tt_setting.specs.declared.spot.Spot.{Spot}
use Rattle.tt_setting.specs.declared.spot.Spot.TheVariants.{Main, Font, Prep}

-- in which program the innermost call's body is, by its name
abbrev pub spot_of_body : ℕ → Spot
spot_of_body body = if nat_lt body CVT_BODIES then Font else Prep

-- where a machine with these frames is
abbrev pub spot_of : List Frame → Spot
spot_of [] = Main
spot_of (f ∷ fs) = spot_of_body f.body
