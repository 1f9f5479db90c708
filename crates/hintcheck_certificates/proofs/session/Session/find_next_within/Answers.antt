use Rattle.std.proofs.Common.{sym, ◌∙◌, ap}
use Rattle.hintcheck_certificates.specs.Sessions.{Standing}
use Rattle.hintcheck_programs.specs.Representation.ProgramOrder.{stage_of}
use Rattle.hintcheck_certificates.specs.Representation.SessionStages.{read_of}
use Rattle.hintcheck_certificates.proofs.FindingSteps.{kept_unread}
use Rattle.hintcheck_certificates.proofs.SessionSteps.{over_is_last}
use Rattle.hintcheck_certificates.proofs.session.Session.find_next_within.Goals as goal

pub returns-then-is_over-clause-found : goal.returns-then-is_over-clause-found
returns-then-is_over-clause-found c =
    over_is_last c.args.self.now.font c.args.self.now.stage (sym (ap (λ (s : Standing). s.stage) c.self.view_is) ∙ c.is_over.ensures.0 c.if-is_over.true)

pub find_from-requires-clause-known : goal.find_from-requires-clause-known
find_from-requires-clause-known c =
    kept_unread c.self.inside.programs.font.now (read_of c.self.inside.progress) (stage_of c.self.inside.programs) (ap (λ (s : Standing). s.read) c.self.view_is ∙ c.requires.unread)
    c.self.invariant.2
