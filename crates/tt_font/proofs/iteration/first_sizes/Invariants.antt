use Rattle.tt_font.specs.PlacedGlyphs.{glyphs_of, outlines_in}
use Rattle.tt_font.specs.Representation.OutlineSizes.{SizesAre}
use Rattle.tt_font.specs.Representation.CompositeLists.{AreComposites}
use Rattle.tt_font.proofs.iteration.first_sizes.Given as goal

abbrev pub invariant-loop-id : goal.invariant-loop-id
invariant-loop-id l = record {
  sizes : SizesAre l.glyphs.count (outlines_in l.glyphs) 0 l.id l.sizes.items;
  composites : AreComposites (glyphs_of l.glyphs) l.id l.composites.items;
}
