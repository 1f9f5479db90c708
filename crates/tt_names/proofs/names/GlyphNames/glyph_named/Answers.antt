use Rattle.std.proofs.Common.{arith}
use Rattle.tt_names.proofs.CountLemmas.{named_below}
use Rattle.tt_names.proofs.names.GlyphNames.glyph_named.Goals as goal

pub returns-clause-none : goal.returns-clause-none
returns-clause-none c = λ glyph named.
    let end = c.loop-glyph-test.false in
    let count = c.count-glyph-end.ensures in
    let below = named_below c.args.self.now.post.now c.args.name.now glyph named in
    c.loop-glyph.invariant glyph (omega arith) named
