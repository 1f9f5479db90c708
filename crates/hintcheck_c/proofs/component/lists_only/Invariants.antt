use Rattle.std.proofs.Common.{◌≡◌, ◌+◌, ◌-◌, ◌≤◌, length}
use Rattle.std.specs.List.{list_all}
use Rattle.tt_font.specs.Components.{components, glyphs_named}
use Rattle.hintcheck_c.specs.Representation.Retained.{is_in}
use Rattle.hintcheck_c.proofs.ComponentTests.{all_from}
use Rattle.hintcheck_c.proofs.component.lists_only.Given as goal

abbrev pub invariant-loop-component : goal.invariant-loop-component
invariant-loop-component l = record {
  rest : all_from (is_in l.set) l.place l.glyph ≡ list_all (is_in l.set) (glyphs_named (components l.glyph));
  near : l.place ≤ 10 + length l.glyph;
  counted : l.reader.reads ≤ l.place;
}

abbrev pub decreases-loop-component : goal.decreases-loop-component
decreases-loop-component l = 10 + length l.glyph - l.place
