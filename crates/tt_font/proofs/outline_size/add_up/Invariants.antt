use Rattle.std.proofs.Common.{◌≡◌, ◌+◌, ◌-◌, ◌≤◌, length}
use Rattle.tt_font.specs.Components.{components, components_at, glyphs_named}
use Rattle.tt_font.proofs.Adding.{AddsOn}
use Rattle.tt_font.proofs.outline_size.add_up.Given as goal

abbrev pub invariant-loop-component : goal.invariant-loop-component
invariant-loop-component l = record {
  sum : AddsOn l.sizes (glyphs_named (components l.glyph)) (glyphs_named (components_at l.place l.glyph)) l.sum;
  counted : l.reader.reads + length (components_at l.place l.glyph) ≡ l.fn.reader.reads + length (components l.glyph);
  near : l.place ≤ 10 + length l.glyph;
}

abbrev pub decreases-loop-component : goal.decreases-loop-component
decreases-loop-component l = 10 + length l.glyph - l.place
