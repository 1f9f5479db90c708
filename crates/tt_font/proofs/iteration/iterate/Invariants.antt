use Rattle.std.proofs.Common.{drop}
use Rattle.tt_font.specs.PlacedGlyphs.{glyphs_of}
use Rattle.tt_font.proofs.CompositeLemmas.{Iterates}
use Rattle.tt_font.proofs.iteration.iterate.Given as goal

abbrev pub invariant-loop-id : goal.invariant-loop-id
invariant-loop-id l =
    Iterates (glyphs_of l.fn.glyphs) l.fn.glyphs.count l.fn.sizes l.fn.reader.reads (drop l.id-index l.fn.composites) l.next l.reader.reads
