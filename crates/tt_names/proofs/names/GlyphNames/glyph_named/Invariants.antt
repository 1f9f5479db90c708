use Rattle.std.proofs.Common.{◌<◌, ℕ}
use Rattle.std.specs.Prelude.{◌≢◌, Some}
use Rattle.tt_names.specs.Names.{name_of_glyph}
use Rattle.tt_names.proofs.names.GlyphNames.glyph_named.Given as goal

abbrev pub invariant-loop-glyph : goal.invariant-loop-glyph
invariant-loop-glyph l = (other : ℕ) → other < l.glyph → name_of_glyph l.self.post.now other ≢ Some l.name
