use Rattle.hintcheck_programs.specs.ProgramVerdicts.{with_start}
use Rattle.hintcheck_certificates.proofs.CheckRefusals.{broken_result}
use Rattle.hintcheck_programs.proofs.JudgeLaws.{started, starts}
use Rattle.hintcheck_certificates.proofs.section_check.SectionCheckJudge.judge.Goals as goal

pub returns-clause-refused : goal.returns-clause-refused
returns-clause-refused c = λ x p.
    let e = c.check_section.ensures in
    broken_result c.args.self.now.form (with_start x c.args.start.now) (started c.args.setting.now c.args.start) c.args.self.now.certificate.now c.check_section.result
    (starts x c.args.setting.now c.args.start p) e.first e.exact
