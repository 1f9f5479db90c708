use Rattle.std.proofs.Common.{◌+◌, ◌≤◌, ◌∙◌, sym, ap, subst, arith, drop, length, ℕ, slice_set}
use Rattle.tt_font.specs.Components.{components, glyphs_named}
use Rattle.tt_font.specs.Representation.OutlineSizes.{AddsUp}
use Rattle.tt_font.specs.PlacedGlyphs.{glyphs_of}
use Rattle.tt_font.proofs.CompositeLemmas.{Iterates, next_is, iteration_more, iteration_ends}
use Rattle.tt_font.proofs.iteration.iterate.Goals as goal

pub glyph-requires : goal.glyph-requires
glyph-requires c = (next_is _ _ _ _ _ _ _ _ c.loop-id.invariant c.loop-id-test.true).inside

pub add_up-requires-clause-room : goal.add_up-requires-clause-room
add_up-requires-clause-room c =
    let left = (next_is _ _ _ _ _ _ _ _ c.loop-id.invariant c.loop-id-test.true).room in
    let same = ap (λ glyph. length (components glyph)) c.glyph.ensures.bytes in
    let room = c.requires.room in
    omega arith

pub bounds-next-from : goal.bounds-next-from
bounds-next-from c =
    let inside = (next_is _ _ _ _ _ _ _ _ c.loop-id.invariant c.loop-id-test.true).inside in
    let len = c.loop-id.invariant.len in
    let same = c.from.ensures in
    omega arith

pub loop-id-preserved : goal.loop-id-preserved
loop-id-preserved c =
    let adds = subst (λ glyph. AddsUp c.args.sizes.now (glyphs_named (components glyph)) c.add_up.result) c.glyph.ensures.bytes c.add_up.ensures.sum in
    let counted = c.add_up.ensures.counted ∙ ap (λ glyph. c.loop-id.reader.reads + length (components glyph)) c.glyph.ensures.bytes in
    let G : ℕ → Type 0 = λ at. Iterates (glyphs_of c.args.glyphs.now) c.args.glyphs.now.count c.args.sizes.now c.args.reader.now.reads
    (drop (c.loop-id.id-index + 1) c.args.composites.now) (slice_set c.loop-id.next at c.add_up.result) c.add_up.new.reader.reads in
    subst G (sym c.from.ensures) (iteration_more _ _ _ _ _ _ _ _ _ _ c.loop-id.invariant c.loop-id-test.true adds counted)

pub returns-clause-sizes : goal.returns-clause-sizes
returns-clause-sizes c = iteration_ends _ _ _ _ _ _ _ _ c.loop-id.invariant (let past : length c.args.composites.now ≤ c.loop-id.id-index = let end = c.loop-id-test.false in omega arith in past)
