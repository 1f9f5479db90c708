use Rattle.std.proofs.Common.{◌∙◌, ◌+◌, ◌<◌, Bor, ap, subst, sym}
use Rattle.tt_setting.specs.Entries.{Ascends}
use Rattle.tt_font.specs.Reading.{FontData}
use Rattle.hintcheck_programs.specs.FontPrograms.{IsFontInRange, judgement_on}
use Rattle.hintcheck_programs.specs.Representation.ProgramOrder.{CanGoOn, stage_of}
use Rattle.hintcheck_programs.specs.Stages.{Stage}
use Rattle.hintcheck_fonts.specs.SymbolicVerdicts.{IsSymbolicVerdict}
use Rattle.hintcheck_programs.proofs.ProgramSteps.{fewer_after}
use Rattle.hintcheck_fonts.proofs.SymbolicSteps.{AreJudgedTill, all_judged, can_take_up, fewer_takings, fewer_to_come, glyph_after, none_judged_yet, one_more, taken_up, takings_left}
use Rattle.hintcheck_fonts.proofs.symbolic_verdict.refused_programs.Goals as goal

pub loop-outcome-init : goal.loop-outcome-init
loop-outcome-init c =
    let programs = c.new-programs in
    record {
      font = programs.ensures.font;
      can = subst (λ (u : Stage). CanGoOn (λ functions. Ascends functions) u) (sym programs.ensures.stage) tt;
      judged = none_judged_yet programs.result.font.now c.args.judge.now (stage_of programs.result) c.new-refused.result.items programs.ensures.stage c.new-refused.ensures.items;
    }

pub judge_next-requires-clause-range : goal.judge_next-requires-clause-range
judge_next-requires-clause-range c = subst IsFontInRange (sym c.loop-outcome.invariant.font) c.requires

pub returns-in-Ok-None : goal.returns-in-Ok-None
returns-in-Ok-None c =
    let d = c.loop-outcome.programs.font.now in
    let i = c.loop-outcome.invariant in
    subst (λ (f : FontData). IsSymbolicVerdict f (judgement_on f c.loop-outcome.refused.items)) i.font
    (all_judged d c.loop-outcome.judge c.judge_next.new.judge (stage_of c.loop-outcome.programs) (stage_of c.judge_next.new.self) c.in-Ok-None.field-0 c.loop-outcome.refused.items
    c.in-Ok-None.field-0-is c.in-Ok-None.ensures.answer i.judged)

pub loop-outcome-smaller-then-again-lt-MOST_TAKEN_UP_AGAIN :
    goal.loop-outcome-smaller-then-again-lt-MOST_TAKEN_UP_AGAIN
loop-outcome-smaller-then-again-lt-MOST_TAKEN_UP_AGAIN c =
    let d = c.loop-outcome.programs.font.now in
    let s = stage_of c.loop-outcome.programs in
    let t = stage_of c.judge_next.new.self in
    let u = stage_of c.skip_to.new.self in
    let e = c.in-Ok-Some.ensures in
    let again = c.loop-outcome.again in
    let here = glyph_after d c.judge_next.new.judge s t c.in-Ok-Some.field-0 c.in-Ok-Some.outcome c.in-Ok-Some.field-0-is e.answer (c.may_write_kept.ensures c.if-may_write_kept.true) in
    subst (λ (f : Bor FontData). takings_left f.now (again + 1) u < takings_left d again s) (sym (c.skip_to.ensures.font ∙ e.font))
    (fewer_takings d again s t u c.if-again-lt-MOST_TAKEN_UP_AGAIN.true here c.skip_to.ensures.stage)

pub loop-outcome-preserved-then-again-lt-MOST_TAKEN_UP_AGAIN :
    goal.loop-outcome-preserved-then-again-lt-MOST_TAKEN_UP_AGAIN
loop-outcome-preserved-then-again-lt-MOST_TAKEN_UP_AGAIN c =
    let d = c.loop-outcome.programs.font.now in
    let s = stage_of c.loop-outcome.programs in
    let t = stage_of c.judge_next.new.self in
    let u = stage_of c.skip_to.new.self in
    let e = c.in-Ok-Some.ensures in
    let i = c.loop-outcome.invariant in
    let k = c.judge_next.new.judge in
    let l = c.start_glyphs.new.self in
    let rs = c.clear.new.self.items in
    let font = c.skip_to.ensures.font ∙ e.font in
    record {
      font = ap (λ (f : Bor FontData). f.now) font ∙ i.font;
      can = can_take_up (λ functions. Ascends functions) t u e.start c.skip_to.ensures.stage;
      judged = subst (λ (f : Bor FontData). AreJudgedTill f.now l u rs) (sym font)
          (taken_up d c.loop-outcome.judge k l s t u c.in-Ok-Some.field-0 c.in-Ok-Some.outcome c.loop-outcome.refused.items rs c.in-Ok-Some.field-0-is e.answer e.keeps_for_glyphs
          (c.may_write_kept.ensures c.if-may_write_kept.true) i.judged c.in_ok-start_glyphs.ensures.ends c.in_ok-start_glyphs.ensures.starts c.skip_to.ensures.stage c.clear.ensures.items);
    }

pub loop-outcome-smaller : goal.loop-outcome-smaller
loop-outcome-smaller c =
    let d = c.loop-outcome.programs.font.now in
    let s = stage_of c.loop-outcome.programs in
    let t = stage_of c.judge_next.new.self in
    let e = c.in-Ok-Some.ensures in
    subst (λ (f : Bor FontData). takings_left f.now c.loop-outcome.again t < takings_left d c.loop-outcome.again s) (sym e.font)
    (fewer_to_come d c.loop-outcome.again s t (fewer_after d _ _ _ s t c.in-Ok-Some.field-0 c.in-Ok-Some.outcome c.in-Ok-Some.field-0-is e.answer))

pub loop-outcome-preserved : goal.loop-outcome-preserved
loop-outcome-preserved c =
    let d = c.loop-outcome.programs.font.now in
    let s = stage_of c.loop-outcome.programs in
    let t = stage_of c.judge_next.new.self in
    let e = c.in-Ok-Some.ensures in
    let i = c.loop-outcome.invariant in
    let k = c.judge_next.new.judge in
    let rs = c.list_outcome.new.refused.items in
    record {
      font = ap (λ (f : Bor FontData). f.now) e.font ∙ i.font;
      can = e.start;
      judged = subst (λ (f : Bor FontData). AreJudgedTill f.now k t rs) (sym e.font)
          (one_more d c.loop-outcome.judge k s t c.in-Ok-Some.field-0 c.in-Ok-Some.outcome c.loop-outcome.refused.items rs c.in-Ok-Some.field-0-is e.answer e.keeps_for_glyphs
          c.in_ok-list_outcome.ensures i.judged);
    }
