use Rattle.hintcheck_c.proofs.HintedGlyphs.{IsLeft}
use Rattle.hintcheck_c.proofs.hinted.hinted_glyphs.Given as goal

abbrev pub invariant-loop-one : goal.invariant-loop-one
invariant-loop-one l = IsLeft l.count l.refused l.one-index l.set.items
