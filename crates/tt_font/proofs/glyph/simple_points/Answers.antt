use Rattle.std.proofs.Common.{◌<◌, arith}
use Rattle.tt_font.specs.Glyphs.{contour_count}
use Rattle.tt_font.proofs.WholeGlyphs.{end_points_are_there}
use Rattle.tt_font.proofs.glyph.simple_points.Goals as goal

pub u16_at-requires-2 : goal.u16_at-requires-2
u16_at-requires-2 c =
    let long = c.if-glyph-lt-GLYPH_HEADER.false in
    let some : 0 < contour_count c.args.glyph.now = grind (arith) in
    let there = end_points_are_there c.args.glyph.now c.requires.simple c.requires.whole (omega arith) some in
    grind (arith)
