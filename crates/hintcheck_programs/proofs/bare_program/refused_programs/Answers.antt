use Rattle.std.proofs.Common.{◌≡◌, ◌∙◌, [], IfOk, ap, subst}
use Rattle.std.specs.Prelude.{slice_get}
use Rattle.tt_font.specs.Reading.{FontData, GlyphData, font_around, glyph_data}
use Rattle.hintcheck_programs.specs.BarePrograms.{IsJudged}
use Rattle.hintcheck_programs.specs.FontPrograms.{font_of, glyph_subject}
use Rattle.hintcheck_programs.proofs.BareProgramLemmas.{judged_by_finding, where_answered}
use Rattle.hintcheck_programs.proofs.bare_program.refused_programs.Goals as goal

pub returns-clause-judged : goal.returns-clause-judged
returns-clause-judged c =
    let g : GlyphData = glyph_data c.args.glyph in
    let d : FontData = c.in_ok-font.font in
    let is : d ≡ font_around c.args.limits c.args.cvt g = c.in_ok-font.ensures ∙ ap (λ n. font_around c.args.limits n g) c.from.ensures in
    let D : FontData → Type 0 = λ e. IfOk c.refused_glyph.result (λ refused. IsJudged (glyph_subject (font_of e [] []) [] 0 g) refused.items) in
    subst D is (where_answered c.refused_glyph.result _ _ (λ v. judged_by_finding c.refused_glyph.new.judge d [] [] 0 g v.items)
    (c.refused_glyph.ensures.judged g (ap (λ (e : FontData). slice_get e.glyphs 0) is)))
