use Rattle.std.proofs.Common.{◌∙◌, Bor, Option, subst, sym}
use Rattle.tt_find.specs.declared.finder.Found.{Found}
use Rattle.tt_font.specs.Reading.{FontData}
use Rattle.hintcheck_certificates.specs.FindingSessions.{IsOutcomeByFinding}
use Rattle.hintcheck_programs.specs.ProgramVerdicts.{IsForCertificate}
use Rattle.hintcheck_programs.specs.Representation.Judges.{AnswersFinding}
use Rattle.hintcheck_programs.specs.Representation.ProgramOrder.{stage_of}
use Rattle.hintcheck_programs.specs.Representation.FontVerdicts.{KeepsKnown}
use Rattle.hintcheck_programs.specs.declared.program.Search.{Search}
use Rattle.hintcheck_programs.specs.declared.report.Outcome.{Outcome}
use Rattle.hintcheck_certificates.proofs.FindingSteps.{found_outcome, nothing_left, unfound_outcome}
use Rattle.hintcheck_programs.proofs.VerdictSteps.{stays_known}
use Rattle.hintcheck_programs.proofs.VerdictSteps.{known_can_go_on}
use Rattle.hintcheck_certificates.proofs.session.find_from.Goals as goal

pub judge_next-requires-clause-start : goal.judge_next-requires-clause-start
judge_next-requires-clause-start c = known_can_go_on c.args.programs.now.font.now (stage_of c.args.programs.now) c.requires.known

pub returns-in_default-clause-found : goal.returns-in_default-clause-found
returns-in_default-clause-found c =
    let d = c.args.programs.now.font.now in
    let s = stage_of c.args.programs.now in
    let t = stage_of c.judge_next.new.self in
    nothing_left d s t c.requires.known (subst (λ (a : Option Outcome). AnswersFinding d c.judge_next.new.judge s a t) c.in_default.is c.in_ok-outcome.ensures.answer)

pub returns-in-None-clause-found : goal.returns-in-None-clause-found
returns-in-None-clause-found c =
    let d = c.args.programs.now.font.now in
    let s = stage_of c.args.programs.now in
    let t = stage_of c.judge_next.new.self in
    let j = c.judge_next.new.judge in
    let certificate = subst (λ (x : Search). IsForCertificate x) (sym (c.judge_next.ensures.keeps ∙ c.new-judge.ensures)) tt in
    let outcome = subst (λ (a : Option Outcome). AnswersFinding d j s a t) c.in-Some.is c.in_ok-outcome.ensures.answer in
    subst (λ (x : Option Found). IsOutcomeByFinding d s c.in-Some.outcome x t) (sym c.take_found.ensures) (found_outcome d j s t c.in-Some.outcome certificate outcome c.in-None.is)

pub returns-clause-found : goal.returns-clause-found
returns-clause-found c =
    let d = c.args.programs.now.font.now in
    let s = stage_of c.args.programs.now in
    let t = stage_of c.judge_next.new.self in
    let j = c.judge_next.new.judge in
    let outcome = subst (λ (a : Option Outcome). AnswersFinding d j s a t) c.in-Some.is c.in_ok-outcome.ensures.answer in
    unfound_outcome d j s t c.in-Some.outcome outcome (λ none. let some = c.in-Some-refused.is in cc)

pub returns-in_default-clause-known : goal.returns-in_default-clause-known
returns-in_default-clause-known c =
    let t = stage_of c.judge_next.new.self in
    subst (λ (f : Bor FontData). KeepsKnown f.now t) (sym c.judge_next.ensures.font)
    (stays_known c.args.programs.now.font.now c.judge_next.new.judge (stage_of c.args.programs.now) t c.in_ok-outcome.field-0 c.in_ok-outcome.ensures.answer c.requires.known)

pub returns-in-None-clause-known : goal.returns-in-None-clause-known
returns-in-None-clause-known c =
    let t = stage_of c.judge_next.new.self in
    subst (λ (f : Bor FontData). KeepsKnown f.now t) (sym c.judge_next.ensures.font)
    (stays_known c.args.programs.now.font.now c.judge_next.new.judge (stage_of c.args.programs.now) t c.in_ok-outcome.field-0 c.in_ok-outcome.ensures.answer c.requires.known)

pub returns-clause-known : goal.returns-clause-known
returns-clause-known c =
    let t = stage_of c.judge_next.new.self in
    subst (λ (f : Bor FontData). KeepsKnown f.now t) (sym c.judge_next.ensures.font)
    (stays_known c.args.programs.now.font.now c.judge_next.new.judge (stage_of c.args.programs.now) t c.in_ok-outcome.field-0 c.in_ok-outcome.ensures.answer c.requires.known)
