use Rattle.std.proofs.Common.{refl}
use Rattle.hintcheck_fonts.proofs.Following.{start_follows}
use Rattle.hintcheck_fonts.proofs.glyph_starts.start_after.Goals as goal

pub returns : goal.returns
returns c = start_follows c.args.end.now c.in_ok-start.start _ c.args.functions.now c.in_ok-start.ensures refl refl c.in_ok-copy_from.ensures refl
