use Rattle.std.proofs.Common.{◌≡◌, ◌+◌, ◌-◌, ◌≤◌, length}
use Rattle.tt_font.specs.Components.{components, components_at, last_of}
use Rattle.tt_font.proofs.component.ComponentReader.read_last.Given as goal

abbrev pub invariant-loop-component : goal.invariant-loop-component
invariant-loop-component l = record {
  last : last_of (components_at l.place l.glyph) ≡ last_of (components l.glyph);
  counted : l.self.reads + length (components_at l.place l.glyph) ≡ l.fn.self.reads + length (components l.glyph);
  near : l.place ≤ 10 + length l.glyph;
}

abbrev pub decreases-loop-component : goal.decreases-loop-component
decreases-loop-component l = 10 + length l.glyph - l.place
