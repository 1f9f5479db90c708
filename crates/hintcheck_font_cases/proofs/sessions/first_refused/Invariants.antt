use Rattle.hintcheck_certificates.specs.Sessions.{IsForChecking}
use Rattle.hintcheck_font_cases.proofs.sessions.first_refused.Given as goal

abbrev pub invariant-loop : goal.invariant-loop
invariant-loop g l = IsForChecking l.session
