-- What a verdict with another number tells. (Representation: no public clause cites it.)
use Rattle.std.specs.Prelude.{◌≢◌, List}
use Rattle.tt_font.specs.Reading.{FontData}
use Rattle.hintcheck_report.specs.declared.refused.Refused.{Refused}
use Rattle.hintcheck_fonts.specs.declared.request.Request.{Request}
use Rattle.hintcheck_fonts.specs.declared.request.Request.TheVariants.{Strict}
use Rattle.hintcheck_needs.specs.Needs.{Refuses, RefusesOthers}
use Rattle.hintcheck_needs.specs.declared.trial.Told.{Told}
use Rattle.hintcheck_needs.specs.declared.trial.Told.TheVariants.{Same, Others, Nothing}

-- a verdict as is asked on the font refuses these programs, or others; or, by the symbolic profile
-- alone, it tells nothing
abbrev pub Tells : Request → FontData → List Refused → Told → Type 0
Tells request d refused Same = Refuses request d refused
Tells request d refused Others = RefusesOthers request d refused
Tells request d refused Nothing = request ≢ Strict
