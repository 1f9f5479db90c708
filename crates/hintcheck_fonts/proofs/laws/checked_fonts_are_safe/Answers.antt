use Rattle.hintcheck_fonts.proofs.SymbolicFonts.{safe}
use Rattle.hintcheck_fonts.proofs.laws.checked_fonts_are_safe.Goals as goal

pub returns : goal.returns
returns c = safe
