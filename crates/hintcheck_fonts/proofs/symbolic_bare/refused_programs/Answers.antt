use Rattle.std.proofs.Common.{◌≡◌, ◌∙◌, [], IfOk, ap, subst}
use Rattle.std.specs.Prelude.{slice_get}
use Rattle.tt_font.specs.Reading.{FontData, GlyphData, font_around, glyph_data}
use Rattle.hintcheck_programs.specs.FontPrograms.{font_of}
use Rattle.hintcheck_fonts.specs.SymbolicVerdicts.{IsSafeAlone}
use Rattle.hintcheck_fonts.proofs.symbolic_bare.refused_programs.Goals as goal

pub returns-clause-safe : goal.returns-clause-safe
returns-clause-safe c =
    let g : GlyphData = glyph_data c.args.glyph in
    let d : FontData = c.in_ok-font.font in
    let is : d ≡ font_around c.args.limits c.args.cvt g = c.in_ok-font.ensures ∙ ap (λ n. font_around c.args.limits n g) c.from.ensures in
    let D : FontData → Type 0 = λ e. IfOk c.refused_after_empty.result (λ refused. refused.items ≡ [] → IsSafeAlone (font_of e [] []) g) in
    subst D is (c.refused_after_empty.ensures.safe g (ap (λ (e : FontData). slice_get e.glyphs 0) is))

pub returns-clause-one : goal.returns-clause-one
returns-clause-one c =
    let g : GlyphData = glyph_data c.args.glyph in
    let d : FontData = c.in_ok-font.font in
    let is : d ≡ font_around c.args.limits c.args.cvt g = c.in_ok-font.ensures ∙ ap (λ n. font_around c.args.limits n g) c.from.ensures in
    c.refused_after_empty.ensures.one g (ap (λ (e : FontData). slice_get e.glyphs 0) is)

pub returns-clause-told : goal.returns-clause-told
returns-clause-told c =
    let g : GlyphData = glyph_data c.args.glyph in
    let d : FontData = c.in_ok-font.font in
    let is : d ≡ font_around c.args.limits c.args.cvt g = c.in_ok-font.ensures ∙ ap (λ n. font_around c.args.limits n g) c.from.ensures in
    c.refused_after_empty.ensures.told g (ap (λ (e : FontData). slice_get e.glyphs 0) is)
