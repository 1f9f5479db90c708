use Rattle.std.proofs.Common.{sym, ◌∙◌, ap}
use Rattle.hintcheck_certificates.specs.Sessions.{Standing}
use Rattle.hintcheck_certificates.proofs.SessionSteps.{over_answers, over_is_last}
use Rattle.hintcheck_certificates.proofs.session.Session.check_next_within.Goals as goal

pub returns-then-is_over-clause-sound : goal.returns-then-is_over-clause-sound
returns-then-is_over-clause-sound g c =
    over_is_last c.args.self.now.font c.args.self.now.stage (sym (ap (λ (s : Standing). s.stage) c.self.view_is) ∙ c.is_over.ensures.0 c.if-is_over.true)

pub returns-then-is_over-clause-exact : goal.returns-then-is_over-clause-exact
returns-then-is_over-clause-exact g c = λ none told.
    let over_is = sym (ap (λ (s : Standing). s.stage) c.self.view_is) ∙ c.is_over.ensures.0 c.if-is_over.true in
    (told, over_answers c.args.self.now (g.S.Source.remaining c.args.source.now) over_is (c.requires none))
