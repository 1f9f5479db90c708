use Rattle.std.proofs.Common.{◌<◌, ◌≡◌, ◌∙◌, Bor, refl, subst, sym, true}
use Rattle.std.specs.Prelude.{is_some}
use Rattle.tt_font.specs.Reading.{FontData}
use Rattle.hintcheck.specs.Explanations.{IsRefusedIn}
use Rattle.hintcheck_programs.specs.FontPrograms.{IsFontInRange}
use Rattle.hintcheck.specs.Listing.{program_in}
use Rattle.hintcheck_programs.specs.Representation.ProgramOrder.{stage_of}
use Rattle.hintcheck_programs.specs.Representation.FontVerdicts.{IsAt, KeepsKnown}
use Rattle.hintcheck_programs.specs.Stages.{Stage}
use Rattle.hintcheck_programs.proofs.VerdictSteps.{stays_known, known_can_go_on}
use Rattle.hintcheck_programs.proofs.ProgramSteps.{calls_left}
use Rattle.hintcheck.proofs.ProgramsBefore.{IsOnWay, at_named, fewer_on_way, refused_answer, still_on_way}
use Rattle.hintcheck.proofs.explanation.refused_before.Goals as goal

pub loop-alloc-init : goal.loop-alloc-init
loop-alloc-init c = record {
  font = refl;
  known = subst (λ (s : Stage). KeepsKnown c.args.programs.now.font.now s) (sym c.requires.start) tt;
  way = subst (λ (s : Stage). IsOnWay c.args.called s) (sym c.requires.start) tt;
}

pub judge_next-requires-clause-range : goal.judge_next-requires-clause-range
judge_next-requires-clause-range c = subst (λ (f : Bor FontData). IsFontInRange f.now) (sym c.loop-alloc.invariant.font) c.requires.range

pub judge_next-requires-clause-start : goal.judge_next-requires-clause-start
judge_next-requires-clause-start c = known_can_go_on c.loop-alloc.programs.font.now (stage_of c.loop-alloc.programs) c.loop-alloc.invariant.known

pub returns-in-Some-clause-refused : goal.returns-in-Some-clause-refused
returns-in-Some-clause-refused c =
    let d = c.loop-alloc.programs.font.now in
    let i = c.loop-alloc.invariant in
    subst (λ (f : Bor FontData). IsRefusedIn f.now c.args.called c.in-Some.refused) (sym c.judge_next.ensures.font)
    (refused_answer d c.judge_next.new.judge c.args.called (stage_of c.loop-alloc.programs) (stage_of c.judge_next.new.self) c.in_ok-outcome.outcome c.refused_by.result c.in-Some.refused
    c.in_ok-outcome.ensures.answer c.refused_by.ensures.none c.refused_by.ensures.some c.in-Some.is (λ here. let yes = c.is_at.ensures.1 here in let no = c.loop-alloc-test.true in cc) i.way i.known)

pub loop-alloc-smaller : goal.loop-alloc-smaller
loop-alloc-smaller c =
    let d = c.loop-alloc.programs.font.now in
    let s = stage_of c.loop-alloc.programs in
    let t = stage_of c.judge_next.new.self in
    subst (λ (f : Bor FontData). calls_left f.now t < calls_left d s) (sym c.judge_next.ensures.font)
    (fewer_on_way d c.judge_next.new.judge c.args.called s t c.in_ok-outcome.outcome c.in_ok-outcome.ensures.answer (λ here. let yes = c.is_at.ensures.1 here in let no = c.loop-alloc-test.true in cc)
    c.loop-alloc.invariant.way)

pub loop-alloc-preserved : goal.loop-alloc-preserved
loop-alloc-preserved c =
    let d = c.loop-alloc.programs.font.now in
    let s = stage_of c.loop-alloc.programs in
    let t = stage_of c.judge_next.new.self in
    let j = c.judge_next.new.judge in
    let i = c.loop-alloc.invariant in
    record {
      font = c.judge_next.ensures.font ∙ i.font;
      known = subst (λ (f : Bor FontData). KeepsKnown f.now t) (sym c.judge_next.ensures.font) (stays_known d j s t c.in_ok-outcome.outcome c.in_ok-outcome.ensures.answer i.known);
      way = still_on_way d j c.args.called s t c.in_ok-outcome.outcome c.in_ok-outcome.ensures.answer (λ here. let yes = c.is_at.ensures.1 here in let no = c.loop-alloc-test.true in cc) i.way
          (λ o is. sym (c.refused_by.ensures.some o is) ∙ c.in_default.is);
    }

pub returns-clause-there : goal.returns-clause-there
returns-clause-there c = λ none.
    let d = c.loop-alloc.programs.font.now in
    let i = c.loop-alloc.invariant in
    let there = subst (λ (f : Bor FontData). is_some (program_in f.now c.args.called) ≡ true) (sym i.font) c.requires.there in
    let named = at_named d c.args.called (stage_of c.loop-alloc.programs) there (c.is_at.ensures.0 c.loop-alloc-test.false) i.known in
    subst (λ (f : Bor FontData). IsAt f.now c.args.called (stage_of c.skip_to.new.self)) (sym c.skip_to.ensures.font)
    (subst (λ (s : Stage). IsAt d c.args.called s) (sym c.skip_to.ensures.stage) named)
