use Rattle.std.proofs.Common.{◌≡◌, ◌&&◌, ◌∙◌, sym, ap, true}
use Rattle.std.specs.List.{list_all}
use Rattle.tt_font.specs.Outlines.{outline_of, parts}
use Rattle.tt_font.proofs.CountLemmas.{outline_below}
use Rattle.hintcheck_c.specs.Representation.Retained.{is_in}
use Rattle.tt_font.specs.PlacedGlyphs.{glyphs_of, outlines_in}
use Rattle.hintcheck_c.proofs.closed.has_whole.Goals as goal

pub returns-then-is_in : goal.returns-then-is_in
returns-then-is_in c =
    let outline = outline_below c.args.glyphs.now.count (glyphs_of c.args.glyphs.now) c.args.id c.requires in
    let inside : is_in c.args.set.now c.args.id ≡ true = sym c.is_in.ensures ∙ c.if-is_in.true in
    c.has_parts_in.ensures
    ∙ ap (λ glyph. list_all (is_in c.args.set.now) (parts (outline_of glyph))) c.glyph.ensures.bytes
    ∙ sym (ap (λ o. list_all (is_in c.args.set.now) (parts o)) outline)
    ∙ sym (ap (λ b. b && list_all (is_in c.args.set.now) (parts (outlines_in c.args.glyphs.now c.args.id))) inside)
