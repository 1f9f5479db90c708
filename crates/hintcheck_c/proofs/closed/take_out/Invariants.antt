use Rattle.std.proofs.Common.{◌≡◌, false}
use Rattle.tt_font.specs.PlacedGlyphs.{outlines_in}
use Rattle.hintcheck_c.proofs.Retaining.{IsTaken}
use Rattle.hintcheck_c.proofs.closed.take_out.Given as goal

abbrev pub invariant-loop-id : goal.invariant-loop-id
invariant-loop-id l = record {
  taken : IsTaken (outlines_in l.fn.glyphs) l.initial.set l.id l.set;
  same : l.changed ≡ false → l.set ≡ l.initial.set;
}
