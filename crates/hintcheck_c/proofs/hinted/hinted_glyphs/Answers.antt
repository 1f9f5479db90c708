use Rattle.std.proofs.Common.{◌≡◌, length, arith}
use Rattle.hintcheck_c.proofs.HintedGlyphs.{lent_is_hinted, none_hinted}
use Rattle.hintcheck_c.proofs.hinted.hinted_glyphs.Goals as goal

pub returns-in-Font : goal.returns-in-Font
returns-in-Font c = record {
  glyphs = none_hinted c.args.font.now c.args.refused.now c.loop-one.one-index _ c.new.result.items c.loop-one-test.true c.in-Font.is c.new.ensures.items;
  memory = tt;
}

pub returns-clause-glyphs : goal.returns-clause-glyphs
returns-clause-glyphs c =
    let test = c.loop-one-test.false in
    let end = c.loop-one.auto.one-index-end in
    let all : c.loop-one.one-index ≡ length c.args.refused.now = omega arith in
    lent_is_hinted c.args.font.now c.args.refused.now c.args.count c.loop-one.one-index c.loop-one.set.len c.loop-one.set.items c.deref_mut-2.result.now c.retain_closed.new.set
    c.requires.font c.requires.count all c.loop-one.invariant c.deref_mut-2.ensures.value c.deref_mut-2.ensures.len c.retain_closed.ensures.len c.retain_closed.ensures.closed
