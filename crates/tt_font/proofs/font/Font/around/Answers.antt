use Rattle.std.proofs.Common.{◌≡◌, ◌<◌, ◌∷◌, ◌++◌, [], List, ap, arith, length, map, subst, sym, ◌∙◌}
use Rattle.tt_font.specs.declared.glyph_part.GlyphPart.{GlyphPart}
use Rattle.tt_font.specs.Reading.{font_around, glyph_data}
use Rattle.tt_font.specs.Ranges.{IsFontInRange}
use Rattle.tt_font.proofs.RangeLemmas.{around_in_range}
use Rattle.tt_font.proofs.font.Font.around.Goals as goal

pub invariant_of-result : goal.invariant_of-result
invariant_of-result c =
    let g = c.args.glyph in
    let one : c.push.new.self.items ≡ g ∷ [] = c.in_ok-push.ensures.items ∙ ap (λ (l : List GlyphPart). l ++ g ∷ []) c.new-glyphs.ensures.items in
    let test = c.if-prove.false in
    let depth : c.args.limits.stack < 65536 = let from = c.from.ensures in omega arith in
    record {
      few_glyphs = let few = ap length one in omega arith;
      in_range = subst (λ (l : List GlyphPart). IsFontInRange (record (font_around c.args.limits c.args.cvt_count (glyph_data g)) { glyphs = map glyph_data l })) (sym one)
          (around_in_range c.args.limits c.args.cvt_count (glyph_data g) depth c.program_facts.ensures);
    }
