use Rattle.std.proofs.Common.{◌≡◌, ◌+◌, None, map}
use Rattle.tt_font.specs.Glyphs.{component_total}
use Rattle.tt_font.specs.PlacedGlyphs.{glyphs_of}
use Rattle.tt_font.specs.Representation.GlyphParts.{bytes_of, ProgramsAre}
use Rattle.tt_font.specs.Conditions.{truncated_glyph}
use Rattle.tt_font.proofs.programs.read_programs.Given as goal

abbrev pub invariant-loop-id : goal.invariant-loop-id
invariant-loop-id l = record {
  whole : truncated_glyph l.id (glyphs_of l.glyphs) ≡ None;
  programs : ProgramsAre (glyphs_of l.glyphs) l.id (map bytes_of l.programs.items);
  counted : l.reader.reads ≡ l.fn.reader.reads + component_total (glyphs_of l.glyphs) l.id;
}
