use Rattle.hintcheck_programs.specs.ProgramVerdicts.{with_start}
use Rattle.hintcheck_programs.proofs.JudgeLaws.{uncut_is_refused}
use Rattle.hintcheck_programs.proofs.finding.FindingJudge.uncut_facts.Goals as goal

pub returns : goal.returns
returns c = λ x start r uncut. uncut_is_refused (with_start x start) r uncut
