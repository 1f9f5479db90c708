use Rattle.std.proofs.Common.{rules}
use Rattle.hintcheck_programs.specs.Representation.Judges.{IsRefusedFor}
use Rattle.hintcheck_programs.specs.ProgramVerdicts.{with_start}
use Rattle.hintcheck_programs.specs.Representation.ProgramOrder.{stage_of, start_at}
use Rattle.hintcheck_programs.proofs.JudgeLaws.{uncut_is_refused}
use Rattle.hintcheck_programs.proofs.ProgramSteps.{uncut_next}
use Rattle.hintcheck.proofs.ExplanationLemmas.{next_name, uncut_answered}
use Rattle.hintcheck.proofs.explanation.tell_next.Goals as goal

pub returns-in_ok-refused-in-Err-clause-answered : goal.returns-in_ok-refused-in-Err-clause-answered
returns-in_ok-refused-in-Err-clause-answered g c = λ x next.
    let stage = stage_of c.args.programs.now in
    let judged = with_start x (start_at stage) in
    uncut_answered judged c.args.next.name c.in-Err.fault c.in_ok-refused-in-Err.refused (next_name c.args.programs.now.font.now stage x c.args.next next c.requires.next) c.in_ok-refused-in-Err.ensures.refused
    (uncut_next c.args.programs.now.font.now stage x c.args.next c.in-Err.fault (IsRefusedFor judged) next c.requires.next c.in-Err.ensures.uncut (λ r uncut. uncut_is_refused judged r uncut))

pub returns-in-Ok-clause-answered : goal.returns-in-Ok-clause-answered
returns-in-Ok-clause-answered g c = λ x next.
    let stage = stage_of c.args.programs.now in
    c.explain_in.ensures.answered (with_start x (start_at stage)) (search rules) (next_name c.args.programs.now.font.now stage x c.args.next next c.requires.next)
