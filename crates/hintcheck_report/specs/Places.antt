-- In which program a place is, and what is reported of a program that is refused there.
use Rattle.std.specs.Prelude.{ℕ}
use Rattle.tt_code.specs.declared.reason.Reason.{Reason}
use Rattle.tt_setting.specs.declared.spot.Spot.{Spot}
use Rattle.tt_setting.specs.declared.spot.Spot.TheVariants as spot
use Rattle.tt_setting.specs.declared.name.Name.{Name}
use Rattle.tt_setting.specs.declared.name.Name.TheVariants as name
use Rattle.hintcheck_report.specs.declared.refused.Place.{Place}
use Rattle.hintcheck_report.specs.declared.refused.Refused.{Refused}

-- the program that holds a place, seen from the program of this name
abbrev pub program_at : Name → Spot → Name
program_at x spot.Main = x
program_at x spot.Font = name.Font
program_at x spot.Prep = name.Cvt

-- the place of an offset in a spot, seen from the program of this name
abbrev pub place_at : Name → Spot → ℕ → Place
place_at x spot offset = record { program = program_at x spot; offset = offset }

-- what is reported of a program by this name that is refused at a place
abbrev pub reported_at : Name → Spot → ℕ → Reason → Refused
reported_at called spot offset r =
    record { program = called; place = place_at called spot offset; reason = r }
