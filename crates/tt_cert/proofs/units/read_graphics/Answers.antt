use Rattle.std.proofs.Common.{◌-◌, arith, length, refl, subst}
use Rattle.std.specs.Io.KnownBytes.{Consumes}
use Rattle.tt_stream.proofs.Ahead.{starts_part}
use Rattle.tt_cert.specs.Reading.{graphics_at}
use Rattle.tt_cert.specs.Rules.{GraphicsFits}
use Rattle.tt_cert.specs.Text.{graphics_text}
use Rattle.tt_cert.proofs.Fronts.{front_read}
use Rattle.tt_cert.proofs.Spelled.{graphics_codec}
use Rattle.tt_cert.proofs.units.read_graphics.Goals as goal

pub returns-in-Some-clause-reads : goal.returns-in-Some-clause-reads
returns-in-Some-clause-reads g c =
    let rest = c.in-Some.rest.now in
    let shown = c.ahead-ahead.result.now in
    let skipped = subst (Consumes _ _) (starts_part _ shown (length shown - length rest) c.ahead-ahead.ensures.value (omega arith)) c.skip.ensures.bytes in
    front_read graphics_at graphics_text GraphicsFits _ _ shown rest _ c.args.place _ _ graphics_codec c.in-Some.ensures.begins c.in-Some.ensures.fits refl skipped
    c.ranges.place.fits c.saturating_add.ensures
