use Rattle.std.proofs.Common.{[], List, subst, sym}
use Rattle.tt_font.specs.Reading.{FontData}
use Rattle.hintcheck_programs.specs.FontPrograms.{font_of, glyph_subject}
use Rattle.hintcheck_report.specs.declared.refused.Refused.{Refused}
use Rattle.hintcheck_programs.specs.Representation.ProgramOrder.{IsAnswerBy, IsGlyphNext, IsJudgedBy, stage_of}
use Rattle.hintcheck_programs.proofs.BareProgramLemmas.{glyph_is_next, judged_glyph}
use Rattle.hintcheck_programs.proofs.bare_program.refused_glyph.Goals as goal
use Rattle.hintcheck_programs.proofs.bare_program.refused_glyph.Goals.{in-Some+in_ok-list_outcome, in_default}

pub returns-clause-judged : goal.returns-clause-judged
returns-clause-judged g c = λ glyph at.
    let d = c.args.font.now in
    let j = c.judge_next.new.judge in
    let A = g.J.Judge.Accepts j in
    let E = g.J.Judge.Ends j in
    let R = g.J.Judge.Refuses j in
    let s = stage_of c.in_ok-programs.programs in
    let t = stage_of c.judge_next.new.self in
    let here = c.in_ok-programs.ensures.stage in
    let x = glyph_subject (font_of d [] []) [] 0 glyph in
    let answers = subst (λ (e : FontData). IsAnswerBy e A E R s c.in_ok-outcome.field-0 t) c.in_ok-programs.ensures.font c.in_ok-outcome.ensures.answer in
    elim c.match-branch-3.branch [
      | in-Some+in_ok-list_outcome w ↦ subst (λ (l : List Refused). IsJudgedBy (A x []) (R x []) l) (sym (λ i. (w.refused-is i).items))
          (judged_glyph d A E R [] [] [] 0 glyph at s t c.in_ok-outcome.field-0 w.in-Some.outcome c.new-refused.result.items w.list_outcome.new.refused.items here answers w.in-Some.is c.new-refused.ensures.items w.in_ok-list_outcome.ensures)
      | in_default w ↦ absurd (glyph_is_next d A E R [] [] [] 0 glyph at s t c.in_ok-outcome.field-0 here answers w.in_default.is)
    ]

pub returns-clause-keeps : goal.returns-clause-keeps
returns-clause-keeps g c = c.judge_next.ensures.keeps_for_glyphs (subst (λ s. IsGlyphNext s) (sym c.in_ok-programs.ensures.stage) tt)
