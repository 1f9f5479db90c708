use Rattle.hintcheck_programs.specs.ProgramVerdicts.{with_start}
use Rattle.hintcheck_certificates.proofs.CheckRefusals.{uncut_fails_check}
use Rattle.hintcheck_certificates.proofs.section_check.SectionCheckJudge.uncut_facts.Goals as goal

pub returns : goal.returns
returns c = λ x start r uncut. uncut_fails_check c.args.self.now.form (with_start x start) c.args.self.now.certificate.now r uncut
