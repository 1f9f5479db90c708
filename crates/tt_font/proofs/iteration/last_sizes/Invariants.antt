use Rattle.std.proofs.Common.{◌≡◌, ◌+◌, ◌*◌}
use Rattle.tt_font.specs.Glyphs.{component_total}
use Rattle.tt_font.specs.Representation.CompositeLists.{AgreeOnSimple}
use Rattle.tt_font.specs.PlacedGlyphs.{glyphs_of}
use Rattle.tt_font.specs.Representation.OutlineSizes.{SizesAfter}
use Rattle.tt_font.proofs.iteration.last_sizes.Given as goal

abbrev pub invariant-loop : goal.invariant-loop
invariant-loop l = record {
  sizes : SizesAfter l.glyphs l.counter l.sizes.items;
  simple : AgreeOnSimple (glyphs_of l.glyphs) l.glyphs.count l.sizes.items l.next.items;
  counted : l.reader.reads ≡ l.fn.reader.reads + l.counter * component_total (glyphs_of l.glyphs) l.glyphs.count;
}
