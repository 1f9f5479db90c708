use Rattle.std.proofs.Common.{◌∙◌, [], ap, arith, subst, sym}
use Rattle.tt_code.proofs.ByteLemmas.{bytes_fit}
use Rattle.tt_code.specs.declared.limits.Limits.{Limits}
use Rattle.tt_font.specs.Reading.{GlyphData, font_around}
use Rattle.hintcheck_programs.specs.FontPrograms.{font_of, glyph_subject}
use Rattle.hintcheck_programs.specs.BarePrograms.{IsJudged, bare_subject}
use Rattle.hintcheck_programs.specs.Verdicts.{Judgement}
use Rattle.hintcheck_programs.proofs.FontSafety.{only_glyph_is_safe}
use Rattle.hintcheck_programs.proofs.BareProgramLemmas.{least_where_none}
use Rattle.hintcheck_programs.proofs.bare_program.bare_within.Goals as goal

pub returns-clause-accepted : goal.returns-clause-accepted
returns-clause-accepted c = λ none.
    let glyph : GlyphData = record { points = c.args.points; contours = c.args.contours; program = c.args.program.now } in
    let rs = c.in_ok-refused.refused.items in
    let J : Limits → Type 0 = λ l. IsJudged (glyph_subject (font_of (font_around l c.args.cvt glyph) [] []) [] 0 glyph) rs in
    only_glyph_is_safe c.args.maxp.now c.args.cvt glyph (bytes_fit c.args.maxp.now c.type_inv.maxp)
    (record { bytes = bytes_fit c.args.program.now c.type_inv.program; few = omega arith })
    (least_where_none (bare_subject c.args.maxp.now c.args.cvt glyph) rs (subst J c.in_ok-limits.ensures.limits c.in_ok-refused.ensures.judged)
    (sym (ap (λ (v : Judgement). v.refused) c.new.ensures) ∙ none))
