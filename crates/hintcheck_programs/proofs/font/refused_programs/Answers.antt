use Rattle.std.proofs.Common.{◌∙◌, ◌<◌, Bor, ap, arith, refl, subst, sym}
use Rattle.tt_family.proofs.Spending.{spends_on}
use Rattle.tt_font.specs.Reading.{FontData}
use Rattle.hintcheck_programs.specs.FontPrograms.{IsFontInRange}
use Rattle.hintcheck_programs.specs.Representation.FontVerdicts.{AreAllRefused}
use Rattle.hintcheck_programs.specs.Representation.ProgramOrder.{stage_of}
use Rattle.hintcheck_programs.specs.Representation.FontVerdicts.{KeepsKnown}
use Rattle.hintcheck_programs.proofs.VerdictSteps.{stays_known}
use Rattle.hintcheck_programs.proofs.ProgramSteps.{calls_left, fewer_after}
use Rattle.hintcheck_programs.proofs.VerdictSteps.{AreRefusedTill, all_refused_till, known_can_go_on, none_refused_yet, refused_till}
use Rattle.hintcheck_programs.proofs.font.refused_programs.Goals as goal

pub loop-refused-init : goal.loop-refused-init
loop-refused-init c =
    let programs = c.new-programs in
    let yet = none_refused_yet programs.result.font.now (stage_of programs.result) c.new-refused.result.items programs.ensures.stage c.new-refused.ensures.items in
    record { font = programs.ensures.font; known = yet.0; till = yet.1; spends = (refl, omega arith); alike = refl }

pub judge_next-requires-clause-range : goal.judge_next-requires-clause-range
judge_next-requires-clause-range c = subst IsFontInRange (sym c.loop-refused.invariant.font) c.requires

pub judge_next-requires-clause-start : goal.judge_next-requires-clause-start
judge_next-requires-clause-start c = known_can_go_on c.loop-refused.programs.font.now (stage_of c.loop-refused.programs) c.loop-refused.invariant.known

pub loop-refused-smaller : goal.loop-refused-smaller
loop-refused-smaller c =
    let e = c.in_ok-outcome.ensures in
    let s = stage_of c.loop-refused.programs in
    let t = stage_of c.judge_next.new.self in
    let d = c.loop-refused.programs.font.now in
    subst (λ (f : Bor FontData). calls_left f.now t < calls_left d s) (sym e.font) (fewer_after d _ _ _ s t c.in_ok-outcome.field-0 c.in-Some.outcome c.in-Some.is e.answer)

pub loop-refused-preserved : goal.loop-refused-preserved
loop-refused-preserved c =
    let e = c.in_ok-outcome.ensures in
    let s = stage_of c.loop-refused.programs in
    let t = stage_of c.judge_next.new.self in
    let d = c.loop-refused.programs.font.now in
    let j = c.judge_next.new.judge in
    let i = c.loop-refused.invariant in
    record {
      font = ap (λ (f : Bor FontData). f.now) e.font ∙ i.font;
      known = subst (λ (f : Bor FontData). KeepsKnown f.now t) (sym e.font) (stays_known d j s t c.in_ok-outcome.field-0 e.answer i.known);
      till = subst (λ (f : Bor FontData). AreRefusedTill f.now t c.list_outcome.new.refused.items) (sym e.font)
          (refused_till d j s t c.in_ok-outcome.field-0 c.in-Some.outcome c.loop-refused.refused.items c.list_outcome.new.refused.items c.in-Some.is e.answer c.in_ok-list_outcome.ensures i.till);
      spends = spends_on c.args.budget.now c.loop-refused.budget c.judge_next.new.budget i.spends c.judge_next.ensures.spends;
      alike = e.budget ∙ i.alike;
    }

pub returns-clause-refused : goal.returns-clause-refused
returns-clause-refused c =
    let e = c.in_ok-outcome.ensures in
    let s = stage_of c.loop-refused.programs in
    let t = stage_of c.judge_next.new.self in
    let d = c.loop-refused.programs.font.now in
    subst (λ (f : FontData). AreAllRefused f c.loop-refused.refused.items) c.loop-refused.invariant.font
    (all_refused_till d c.judge_next.new.judge s t c.in_ok-outcome.field-0 c.loop-refused.refused.items c.in_default.is e.answer c.loop-refused.invariant.till)

pub returns-clause-spends : goal.returns-clause-spends
returns-clause-spends c = spends_on c.args.budget.now c.loop-refused.budget c.judge_next.new.budget c.loop-refused.invariant.spends c.judge_next.ensures.spends
