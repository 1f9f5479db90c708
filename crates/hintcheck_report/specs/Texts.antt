-- What is printed of a refused program.
use Rattle.std.specs.Prelude.{ℕ, codes, List, ◌++◌}
use Rattle.std.specs.Fmt.{decimal}
use Rattle.tt_code.specs.Refusals.{number_of, reason_text}
use Rattle.tt_setting.specs.Names.{text_of}
use Rattle.hintcheck_report.specs.declared.refused.Place.{Place}
use Rattle.hintcheck_report.specs.declared.refused.Refused.{Refused}

-- the program's name and the offset, as `g12:73`
abbrev pub place_text : Place → List ℕ
place_text place = text_of place.program ++ (codes ":" ++ decimal place.offset)

-- which program is refused, where and why, as `refused g12 at g12:73: 26 underflow`
abbrev pub refused_text : Refused → List ℕ
refused_text r =
    codes "refused " ++ (text_of r.program ++ (codes " at " ++ (place_text r.place ++
    (codes ": " ++ (decimal (number_of r.reason) ++ (codes " " ++ reason_text r.reason))))))
