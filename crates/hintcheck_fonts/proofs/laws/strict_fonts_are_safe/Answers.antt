use Rattle.hintcheck_fonts.proofs.StrictFonts.{safe}
use Rattle.hintcheck_fonts.proofs.laws.strict_fonts_are_safe.Goals as goal

pub returns : goal.returns
returns c = safe
